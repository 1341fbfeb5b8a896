-- More bytes after those that are read change no answer but Short, so the prefix of a page is Short.
use Rattle.std.proofs.Common.{◌≡◌, ℕ, zero, suc, ◌≤◌, Bool, true, false, ◌||◌, ltb, List, [], ◌∷◌, ◌++◌, length, Option, None, Some, Result, Ok, Err, refl, sym, ap, ◌∙◌, arith, inl, inr}
use Rattle.std.specs.Prelude.{◌⊎◌, nat_lt, nat_eq, not, ◌==◌, ok_or}
use Rattle.std.specs.Cmp.Lexicographic.{pointwise}
use Rattle.std.specs.Int.{Width, w8, w16, w64, w128, byte_len, from_be_bytes, cast_signed}
use Rattle.std.proofs.lemmas.Bool.{ltb-false, le-ltb}
use Rattle.std.proofs.lemmas.List.{append-nil, length-append, take-append-le}
use lib.Seq.{drop-append-le}
use Rattle.rr_text.specs.declared.limits.TheConstants.{MAX_KEY_TEXT, MAX_PAGE_CELLS}
use Rattle.rr_text.specs.Results.{◌>>=◌, unless}
use Rattle.rr_schema.specs.Schema.{Layout}
use Rattle.rr_schema.specs.SchemaBytes.{schema_bytes}
use Rattle.rr_contrib.specs.Validity.{is_valid}
use Rattle.rr_key.specs.Reading.{is_key_text}
use Rattle.rr_cells.specs.CellNames.{CellName}
use Rattle.rr_cells.specs.CellBounds.{NamedCell}
use Rattle.rr_page.specs.declared.fault.PageFault.{PageFault}
use Rattle.rr_page.specs.declared.fault.PageFault.TheVariants.{Short, BadMagic, BadVersion, SchemaDiffers, TooManyCells, BadKey, BadArchive, BadContribution, OutOfOrder, TrailingBytes}
use Rattle.rr_page.specs.declared.version.Version.{Version}
use Rattle.rr_page.specs.Laws.{PagePrefixesAreShort}
use Rattle.rr_page.specs.Page.{magic, page_text}
use Rattle.rr_page.specs.PageReading.{is_after, version_at, start_at, schema_at, is_schema, head_at, cells_at, prefix_page_at, page_at}
use Rattle.rr_page.specs.Reading.{prefix_at, number_at, signed_at, key_at, archive_at, contribution_at, cell_at}
use Rattle.rr_page.specs.Version.{mask_width, named_version, latest}
use Rattle.rr_page.proofs.FieldLemmas.{ok_is}
use Rattle.rr_page.proofs.PageLemmas.{prefix_page_again}

abbrev pub Reader : Type 0 → Type 0
Reader A = List ℕ → Result (A × List ℕ) PageFault

-- what is read, with more bytes left after it
unfoldable pub extended : {A : Type 0} → List ℕ → Result (A × List ℕ) PageFault → Result (A × List ℕ) PageFault
extended more (Ok x) = Ok (x.0, x.1 ++ more)
extended more (Err fault) = Err fault

-- more bytes change no answer but Short
pub record ReadsPrefix {A : Type 0} (r : Reader A) : Type 0 where
  pub more : (bytes rest : List ℕ) → (r bytes ≡ Err Short) ⊎ (r (bytes ++ rest) ≡ extended rest (r bytes))

-- ---- readers, and one after another

pub ReadsPrefix-field : (len : ℕ) → ReadsPrefix (prefix_at len)
unfolding extended
ReadsPrefix-field len = record { more = λ bytes rest. by_test bytes rest (ltb (length bytes) len) refl }
  where
    by_test : (bytes rest : List ℕ) (b : Bool) → ltb (length bytes) len ≡ b
        → (prefix_at len bytes ≡ Err Short) ⊎ (prefix_at len (bytes ++ rest) ≡ extended rest (prefix_at len bytes))
    by_test bytes rest true e = inl (rw e refl)
    by_test bytes rest false e =
        let fits : len ≤ length bytes = ltb-false _ _ e in
        let long : ltb (length (bytes ++ rest)) len ≡ false = le-ltb _ _ (omega (arith, length-append bytes rest)) in
        inr (rw (long, e, take-append-le len bytes rest fits, drop-append-le len bytes rest fits) refl)

pub ReadsPrefix-then : {A B : Type 0} (r : Reader A) (f : A × List ℕ → Result (B × List ℕ) PageFault) → ReadsPrefix r
    → ((a : A) → ReadsPrefix (λ bytes. f (a, bytes))) → ReadsPrefix (λ bytes. r bytes >>= f)
unfolding extended
ReadsPrefix-then {A = A} {B = B} r f p q = record {
  more =
      λ bytes rest. then bytes rest (r bytes) refl (p.more bytes rest);
}
  where
    then : (bytes rest : List ℕ) (a : Result (A × List ℕ) PageFault) → r bytes ≡ a
        → (r bytes ≡ Err Short) ⊎ (r (bytes ++ rest) ≡ extended rest (r bytes))
        → ((r bytes >>= f) ≡ Err Short) ⊎ ((r (bytes ++ rest) >>= f) ≡ extended rest (r bytes >>= f))
    then bytes rest a e (inl s) = inl (ap (λ x. x >>= f) s)
    then bytes rest (Err d) e (inr s) = inr (ap (λ x. x >>= f) (s ∙ ap (extended rest) e)
        ∙ sym (ap (λ x. extended rest (x >>= f)) e))
    then bytes rest (Ok x) e (inr s) =
        elim ((q x.0).more x.1 rest) [
          | inl t ↦ inl (ap (λ y. y >>= f) e ∙ t)
          | inr t ↦ inr (ap (λ y. y >>= f) (s ∙ ap (extended rest) e) ∙ t ∙ sym (ap (λ y. extended rest (y >>= f)) e))
        ]

pub ReadsPrefix-unless : {A : Type 0} (fault : PageFault) (refused : Bool) (r : Reader A) → ReadsPrefix r
    → ReadsPrefix (λ bytes. unless fault refused (r bytes))
unfolding extended
ReadsPrefix-unless fault true r p = record { more = λ bytes rest. inr refl }
ReadsPrefix-unless fault false r p = p

pub ReadsPrefix-done : {A : Type 0} (x : A) → ReadsPrefix (λ bytes. Ok (x, bytes))
unfolding extended
ReadsPrefix-done x = record { more = λ bytes rest. inr refl }

pub ReadsPrefix-number : (w : Width) → ReadsPrefix (number_at w)
ReadsPrefix-number w = ReadsPrefix-then (prefix_at (byte_len w)) _ (ReadsPrefix-field (byte_len w))
    (λ a. ReadsPrefix-done (from_be_bytes w a))

pub ReadsPrefix-signed : (w : Width) → ReadsPrefix (signed_at w)
ReadsPrefix-signed w = ReadsPrefix-then (prefix_at (byte_len w)) _ (ReadsPrefix-field (byte_len w))
    (λ a. ReadsPrefix-done (cast_signed w (from_be_bytes w a)))

-- ---- a cell

pub ReadsPrefix-key : ReadsPrefix key_at
unfolding key_at
ReadsPrefix-key =
    ReadsPrefix-then (number_at w16) _ (ReadsPrefix-number w16) (λ len.
    ReadsPrefix-then (λ bytes. unless BadKey ((len == 0) || nat_lt MAX_KEY_TEXT len) (prefix_at len bytes)) _
    (ReadsPrefix-unless BadKey ((len == 0) || nat_lt MAX_KEY_TEXT len) (prefix_at len) (ReadsPrefix-field len))
    (λ text. ReadsPrefix-unless BadKey (not (is_key_text text)) (λ bytes. Ok (text, bytes)) (ReadsPrefix-done text)))

pub ReadsPrefix-archive : (s : Layout) → ReadsPrefix (archive_at s)
unfolding archive_at
ReadsPrefix-archive s = ReadsPrefix-then (number_at w8) _ (ReadsPrefix-number w8)
    (λ a. ReadsPrefix-unless BadArchive (not (nat_lt a (length s.archives))) (λ bytes. Ok (a, bytes))
    (ReadsPrefix-done a))

pub ReadsPrefix-contribution : (v : Version) → ReadsPrefix (contribution_at v)
unfolding contribution_at
ReadsPrefix-contribution v =
    ReadsPrefix-then (number_at w64) _ (ReadsPrefix-number w64) (λ version.
    ReadsPrefix-then (number_at w64) _ (ReadsPrefix-number w64) (λ count.
    ReadsPrefix-then (signed_at w128) _ (ReadsPrefix-signed w128) (λ sum.
    ReadsPrefix-then (signed_at w64) _ (ReadsPrefix-signed w64) (λ min.
    ReadsPrefix-then (signed_at w64) _ (ReadsPrefix-signed w64) (λ max.
    ReadsPrefix-then (signed_at w64) _ (ReadsPrefix-signed w64) (λ last_time.
    ReadsPrefix-then (signed_at w64) _ (ReadsPrefix-signed w64) (λ last_value.
    ReadsPrefix-then (number_at (mask_width v)) _ (ReadsPrefix-number (mask_width v)) (λ mask.
    ReadsPrefix-done (record {
      version = version;
      count = count;
      sum = sum;
      min = min;
      max = max;
      last_time =
          last_time;
      last_value = last_value;
      mask = mask;
    })))))))))

pub ReadsPrefix-cell : (v : Version) (s : Layout) → ReadsPrefix (cell_at v s)
unfolding cell_at
ReadsPrefix-cell v s =
    ReadsPrefix-then key_at _ ReadsPrefix-key (λ key.
    ReadsPrefix-then (archive_at s) _ (ReadsPrefix-archive s) (λ archive.
    ReadsPrefix-then (signed_at w64) _ (ReadsPrefix-signed w64) (λ slot.
    ReadsPrefix-then (number_at w16) _ (ReadsPrefix-number w16) (λ origin.
    ReadsPrefix-then (contribution_at v) _ (ReadsPrefix-contribution v) (λ c.
    let e : NamedCell = (record { key = key; archive = archive; slot = slot; origin = origin }, c) in
    ReadsPrefix-unless BadContribution ((origin == 0) || not (is_valid s archive slot c)) (λ bytes. Ok (e, bytes))
    (ReadsPrefix-done e))))))

pub ReadsPrefix-cells : (v : Version) (s : Layout) (before : Option CellName) (n : ℕ)
    → ReadsPrefix (cells_at v s before n)
unfolding cells_at
ReadsPrefix-cells v s before zero = ReadsPrefix-done []
ReadsPrefix-cells v s before (suc n) =
    ReadsPrefix-then (cell_at v s) _ (ReadsPrefix-cell v s) (λ e.
    ReadsPrefix-then (λ bytes. unless OutOfOrder (not (is_after before e.0)) (cells_at v s (Some e.0) n bytes)) _
    (ReadsPrefix-unless OutOfOrder (not (is_after before e.0)) (cells_at v s (Some e.0) n)
    (ReadsPrefix-cells v s (Some e.0) n))
    (λ es. ReadsPrefix-done (e ∷ es)))

-- ---- a page

pub ReadsPrefix-version : ReadsPrefix version_at
unfolding version_at
ReadsPrefix-version = ReadsPrefix-then (number_at w8) _ (ReadsPrefix-number w8) (λ n. named (named_version n))
  where
    named : (o : Option Version) → ReadsPrefix (λ bytes. ok_or o BadVersion >>= λ (v : Version). Ok (v, bytes))
    named None = ReadsPrefix-unless BadVersion true (λ bytes. Ok (latest, bytes)) (ReadsPrefix-done latest)
    named (Some v) = ReadsPrefix-done v

ReadsPrefix-start : ReadsPrefix start_at
unfolding start_at
ReadsPrefix-start = ReadsPrefix-then (prefix_at (length magic)) _ (ReadsPrefix-field (length magic))
    (λ start. ReadsPrefix-unless BadMagic (not (pointwise nat_eq start magic)) version_at ReadsPrefix-version)

ReadsPrefix-schema : (s : Layout) → ReadsPrefix (schema_at s)
unfolding schema_at
ReadsPrefix-schema s =
    ReadsPrefix-then start_at _ ReadsPrefix-start (λ version.
    ReadsPrefix-then (prefix_at (length (schema_bytes s))) _ (ReadsPrefix-field (length (schema_bytes s)))
    (λ field. ReadsPrefix-done (version, field)))

ReadsPrefix-head : (s : Layout) → ReadsPrefix (head_at s)
unfolding head_at
ReadsPrefix-head s =
    ReadsPrefix-then (schema_at s) _ (ReadsPrefix-schema s) (λ field.
    ReadsPrefix-then (λ bytes. unless SchemaDiffers (not (is_schema field.0 s field.1)) (number_at w16 bytes)) _
    (ReadsPrefix-unless SchemaDiffers (not (is_schema field.0 s field.1)) (number_at w16) (ReadsPrefix-number w16))
    (λ count. ReadsPrefix-unless TooManyCells (nat_lt MAX_PAGE_CELLS count) (λ bytes. Ok ((field.0, count), bytes))
    (ReadsPrefix-done (field.0, count))))

ReadsPrefix-page : (s : Layout) → ReadsPrefix (prefix_page_at s)
unfolding prefix_page_at
ReadsPrefix-page s = ReadsPrefix-then (head_at s) _ (ReadsPrefix-head s)
    (λ head. ReadsPrefix-cells head.0 s None head.1)

-- bytes are left after what is read, so nothing is read to its end
left_over : (es : List NamedCell) (rest : List ℕ) (read : Result (List NamedCell × List ℕ) PageFault) → 1 ≤ length rest
    → Ok (es, []) ≡ extended rest read → ⊥
unfolding extended
left_over es rest (Ok x) some e =
    let nothing : 0 ≡ length (x.1 ++ rest) = ap (λ (p : List NamedCell × List ℕ). length p.1)
    (ok_is (es, []) (x.0, x.1 ++ rest) e) in
    absurd (omega (arith, nothing, length-append x.1 rest, some))
left_over es rest (Err fault) some e = absurd (cc e)

pub prefixes_are_short : PagePrefixesAreShort
unfolding page_at
prefixes_are_short v s es prefix rest layout wide page whole some =
    let read : prefix_page_at s (prefix ++ rest) ≡ Ok (es, []) =
    ap (prefix_page_at s) (sym whole ∙ sym (append-nil (page_text v s es)))
    ∙ prefix_page_again v s es [] layout wide page in
    elim ((ReadsPrefix-page s).more prefix rest) [
      | inl short ↦ ap (λ (r : Result (List NamedCell × List ℕ) PageFault). r >>=
          λ (page : List NamedCell × List ℕ). unless TrailingBytes (not (length page.1 == 0)) (Ok page.0)) short
      | inr same ↦ absurd (left_over es rest (prefix_page_at s prefix) some (sym read ∙ same))
    ]
