-- A header that was written is read.
use Rattle.std.proofs.Common.{◌≡◌, ℕ, Bool, false, List, ◌∷◌, ◌++◌, length, take, Option, None, Some, IfSome, Ok, Err, inr, refl, sym, ap, ◌∙◌, append_assoc, arith}
use Rattle.std.specs.Prelude.{not, nat_eq, ◌==◌}
use Rattle.std.specs.Cmp.Lexicographic.{pointwise, bytes_decides}
use Rattle.std.specs.Int.{w16, w64, to_be_bytes}
use Rattle.std.proofs.lemmas.Bool.{eq-eqb}
use Rattle.std.proofs.lemmas.List.{length-append, take_at}
use Rattle.rr_text.specs.Results.{◌>>=◌, unless}
use Rattle.rr_schema.specs.Schema.{Layout, IsLayout}
use Rattle.rr_schema.specs.SchemaBytes.{schema_bytes}
use Rattle.rr_schema.proofs.SchemaBytesLemmas.{schema_len}
use Rattle.rr_journal.specs.declared.cursor.Cursor.{Cursor}
use Rattle.rr_journal.specs.declared.fault.JournalFault.{JournalFault}
use Rattle.rr_journal.specs.declared.fault.JournalFault.TheVariants.{SchemaDiffers, BadDigest}
use Rattle.rr_journal.specs.Cursor.{IsCursor, cursor_text}
use Rattle.rr_journal.specs.Digest.{cut_digest}
use Rattle.rr_journal.specs.Fields.{prefix_at}
use Rattle.rr_journal.specs.Header.{magic, undigested_header, undigested_len, header_text, header_len, start_at, after_schema, header_at, ReadsHeader}
use Rattle.rr_journal.specs.Laws.{HeadersAreRead}
use Rattle.rr_journal.proofs.FieldLemmas.{step, prefix_again, byte_again, number16_again, cursor_again}
use Rattle.rr_journal.proofs.RecordLemmas.{cut_len}
use Rattle.rr_journal.proofs.StepLemmas.{TakesPrefix}

same_bytes : (a : List ℕ) → not (pointwise nat_eq a a) ≡ false
same_bytes a = ap not ((bytes_decides a a).1 refl)

same_number : (a : ℕ) → not (a == a) ≡ false
same_number a = ap not (eq-eqb a a refl)

start_again : (rest : List ℕ) → start_at (magic ++ (2 ∷ (0 ∷ rest))) ≡ Ok rest
unfolding start_at
start_again rest =
    step _ (prefix_again 4 magic (2 ∷ (0 ∷ rest)) refl)
    ∙ step _ (byte_again 2 (0 ∷ rest) (omega arith))
    ∙ step _ (byte_again 0 rest (omega arith))

schema_again : (s : Layout) (rest : List ℕ) → IsLayout s
    → after_schema s (to_be_bytes w16 (length (schema_bytes s)) ++ (schema_bytes s ++ rest)) ≡ Ok rest
unfolding after_schema
schema_again s rest is =
    let own = schema_bytes s in
    step _ (number16_again (length own) (own ++ rest) (omega (arith, schema_len s, is.few_archives)))
    ∙ ap (λ (b : Bool). unless SchemaDiffers b (prefix_at (length own) (own ++ rest)) >>= λ (field : List ℕ × List ℕ). unless
    SchemaDiffers (not (pointwise nat_eq field.0 own)) (Ok field.1)) (same_number (length own))
    ∙ step _ (prefix_again (length own) own rest refl)
    ∙ ap (λ (b : Bool). unless SchemaDiffers b (Ok rest)) (same_bytes own)

cursor_len : (c : Cursor) → IsCursor c → length (cursor_text c) ≡ 32
unfolding cursor_text
cursor_len c is = omega (
  arith,
  is.id,
  is.digest,
  length-append c.id (to_be_bytes w64 c.offset ++ c.digest),
  length-append (to_be_bytes w64 c.offset) c.digest,
)

undigested_is : (s : Layout) (c : Cursor) → IsCursor c → length (undigested_header s c) ≡ undigested_len s
unfolding undigested_header
undigested_is s c is = omega (
  arith,
  cursor_len c is,
  length-append (to_be_bytes w16 (length (schema_bytes s))) (schema_bytes s ++ cursor_text c),
  length-append (schema_bytes s) (cursor_text c),
)

regrouped : (n s c d x : List ℕ)
    → ((magic ++ (2 ∷ (0 ∷ (n ++ (s ++ c))))) ++ d) ++ x ≡ magic ++ (2 ∷ (0 ∷ (n ++ (s ++ (c ++ (d ++ x))))))
regrouped n s c d x = simp append_assoc

parted : (s : Layout) (c : Cursor) (more : List ℕ) → header_text s c ++ more
    ≡ magic ++ (2 ∷ (0 ∷ (to_be_bytes w16 (length (schema_bytes s)) ++ (schema_bytes s ++ (cursor_text c ++
    (cut_digest (undigested_header s c) ++ more))))))
unfolding header_text undigested_header
parted s c more = regrouped (to_be_bytes w16 (length (schema_bytes s))) (schema_bytes s) (cursor_text c)
    (cut_digest (undigested_header s c)) more

pub headers_are_read : HeadersAreRead
unfolding header_text header_at
headers_are_read s c more is at =
    let digest = cut_digest (undigested_header s c) in
    let all = header_text s c ++ more in
    let behind = digest ++ more in
    let place = cursor_text c ++ behind in
    let parts : all ≡ magic ++ (2 ∷ (0 ∷ (to_be_bytes w16 (length (schema_bytes s)) ++ (schema_bytes s ++ place)))) =
    parted s c more in
    let digested : take (undigested_len s) all ≡ undigested_header s c =
    ap (take (undigested_len s)) (append_assoc (undigested_header s c) digest more)
    ∙ take_at (undigested_header s c) (digest ++ more) (undigested_len s) (undigested_is s c at) in
    step _ (ap start_at parts ∙ start_again (to_be_bytes w16 (length (schema_bytes s)) ++ (schema_bytes s ++ place)))
    ∙ step _ (schema_again s place is)
    ∙ step _ (cursor_again c behind at)
    ∙ step _ (prefix_again 8 digest more (cut_len (undigested_header s c)))
    ∙ ap (λ (l : List ℕ). unless BadDigest (not (pointwise nat_eq digest (cut_digest l))) (Ok (c, more))) digested
    ∙ ap (λ (b : Bool). unless BadDigest b (Ok (c, more))) (same_bytes digest)

-- ---- for the code

module _ (s : Layout) (bytes : List ℕ) where
  pub header_read : (old new : Option (List ℕ)) → TakesPrefix (header_len s) old new bytes → (c : Cursor) (rest : List ℕ)
      → header_at s bytes ≡ Ok (c, rest) → ReadsHeader s old new (Ok c)
  header_read None new f c rest e = tt
  header_read (Some all) new f c rest e = (rest, f.1, ap (header_at s) (sym f.0) ∙ e)

  refused_by : (old new : Option (List ℕ)) → TakesPrefix (header_len s) old new bytes → (fault : JournalFault)
      → header_at s bytes ≡ Err fault → IfSome old (λ all. header_at s (take (header_len s) all) ≡ Err fault)
  refused_by None new f fault e = tt
  refused_by (Some all) new f fault e = ap (header_at s) (sym f.0) ∙ e

  pub header_refused : (old new : Option (List ℕ)) → TakesPrefix (header_len s) old new bytes → (fault : JournalFault)
      → header_at s bytes ≡ Err fault → ReadsHeader s old new (Err fault)
  header_refused old new f fault e = inr (inr (refused_by old new f fault e))
