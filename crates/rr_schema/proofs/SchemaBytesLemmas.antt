-- How many bytes a schema has, and that they tell the schema.
use Rattle.std.proofs.Common.{◌≡◌, ℕ, suc, ◌+◌, ◌*◌, ◌^◌, ◌<◌, List, [], ◌∷◌, ◌++◌, length, take, drop, get_or, refl, sym, ap, ◌∙◌, arith, All}
use Rattle.std.specs.Int.{w16, w32, to_be_bytes, from_be_bytes}
use Rattle.std.proofs.lemmas.List.{take_more}
use Rattle.std.proofs.lemmas.Grind.{flat_map-append}
use Rattle.std.proofs.lemmas.List.{append_assoc, append-nil}
use Rattle.std.proofs.lemmas.Nat.{from_be_bytes-to_be_bytes_2, from_be_bytes-to_be_bytes_4}
use Rattle.std.specs.List.{flat_map}
use Rattle.rr_schema.specs.declared.archive.ArchiveSpec.{ArchiveSpec}
use Rattle.rr_schema.specs.Schema.{Layout, IsArchive}
use Rattle.rr_schema.specs.SchemaBytes.{archive_bytes, schema_bytes, BytesTellTheSchema}

pub archives_len : (archives : List ArchiveSpec) → length (flat_map archive_bytes archives) ≡ 9 * length archives
unfolding archive_bytes
archives_len [] = refl
archives_len (a ∷ archives) = let rest = archives_len archives in omega arith

pub schema_len : (s : Layout) → 5 + 9 * length s.archives ≡ length (schema_bytes s)
unfolding schema_bytes
schema_len s = let rest = archives_len s.archives in omega arith

-- one archive more
pub archives_more : (bytes : List ℕ) (archives : List ArchiveSpec) (i : ℕ) (d : ArchiveSpec) → i < length archives
    → (bytes ++ flat_map archive_bytes (take i archives)) ++ archive_bytes (get_or archives i d) ≡ bytes
    ++ flat_map archive_bytes (take (i + 1) archives)
archives_more bytes archives i d within =
    append_assoc bytes (flat_map archive_bytes (take i archives)) (archive_bytes (get_or archives i d))
    ∙ ap (λ l. bytes ++ l) (ap (λ l. flat_map archive_bytes (take i archives) ++ l)
    (sym (append-nil (archive_bytes (get_or archives i d))))
    ∙ sym (flat_map-append archive_bytes (take i archives) (get_or archives i d ∷ []))
    ∙ ap (flat_map archive_bytes) (sym (take_more archives i d within)))

-- ---- no schema has the bytes of another, and none begins those of another

tell_2 : (a b : ℕ) (x y : List ℕ) → a < 2 ^ 16 → b < 2 ^ 16 → to_be_bytes w16 a ++ x ≡ to_be_bytes w16 b ++ y
    → (a ≡ b) × (x ≡ y)
tell_2 a b x y p q e = (
  sym (from_be_bytes-to_be_bytes_2 a p) ∙ ap (λ l. from_be_bytes w16 (take 2 l)) e
      ∙ from_be_bytes-to_be_bytes_2 b q,
  ap (drop 2) e,
)

tell_4 : (a b : ℕ) (x y : List ℕ) → a < 2 ^ 32 → b < 2 ^ 32 → to_be_bytes w32 a ++ x ≡ to_be_bytes w32 b ++ y
    → (a ≡ b) × (x ≡ y)
tell_4 a b x y p q e = (
  sym (from_be_bytes-to_be_bytes_4 a p) ∙ ap (λ l. from_be_bytes w32 (take 4 l)) e
      ∙ from_be_bytes-to_be_bytes_4 b q,
  ap (drop 4) e,
)

tell_1 : (a b : ℕ) (x y : List ℕ) → a ∷ x ≡ b ∷ y → (a ≡ b) × (x ≡ y)
tell_1 a b x y e = (ap (λ l. get_or l 0 a) e, ap (drop 1) e)

tell_archive : (a b : ArchiveSpec) (x y : List ℕ) → IsArchive a → IsArchive b
    → archive_bytes a ++ x ≡ archive_bytes b ++ y → (a ≡ b) × (x ≡ y)
unfolding archive_bytes
tell_archive a b x y p q e =
    let steps = tell_1 a.steps b.steps _ _ e in
    let rows = tell_4 a.rows b.rows _ _ (let few = p.few_rows in omega arith) (let few = q.few_rows in omega arith)
    steps.1 in
    let num = tell_2 a.num b.num _ _ (let low = p.fraction in let few = p.fine in omega arith)
    (let low = q.fraction in let few = q.fine in omega arith) rows.1 in
    let den = tell_2 a.den b.den x y (let few = p.fine in omega arith) (let few = q.fine in omega arith) num.1 in
    ((λ i. record { steps = steps.0 i; rows = rows.0 i; num = num.0 i; den = den.0 i }), den.1)

pub tell_archives : (cs bs : List ArchiveSpec) (x y : List ℕ) → All IsArchive cs → All IsArchive bs
    → length cs ≡ length bs → flat_map archive_bytes cs ++ x ≡ flat_map archive_bytes bs ++ y → (cs ≡ bs) × (x ≡ y)
tell_archives [] [] x y p q n e = (refl, e)
tell_archives [] (b ∷ bs) x y p q n e = absurd (omega (arith, n))
tell_archives (a ∷ cs) [] x y p q n e = absurd (omega (arith, n))
tell_archives (a ∷ cs) (b ∷ bs) x y p q n e =
    let one = tell_archive a b (flat_map archive_bytes cs ++ x) (flat_map archive_bytes bs ++ y) (p 0 a (omega arith))
    (q 0 b (omega arith))
    (sym (append_assoc (archive_bytes a) (flat_map archive_bytes cs) x) ∙ e
    ∙ append_assoc (archive_bytes b) (flat_map archive_bytes bs) y) in
    let rest = tell_archives cs bs x y (λ k d h. p (suc k) d (omega arith)) (λ k d h. q (suc k) d (omega arith))
    (omega (arith, n)) one.1 in
    ((λ i. one.0 i ∷ rest.0 i), rest.1)

pub bytes_tell : BytesTellTheSchema
unfolding schema_bytes
bytes_tell s t x y p q e =
    let step = tell_4 s.step t.step _ _ (let few = p.short_step in omega arith) (let few = q.short_step in omega arith)
    e in
    let many = tell_1 (length s.archives) (length t.archives) _ _ step.1 in
    let rest = tell_archives s.archives t.archives x y p.each q.each many.0 many.1 in
    ((λ i. record { step = step.0 i; archives = rest.0 i }), rest.1)
