-- The bytes of a snapshot that are cut short are Short.
use Rattle.std.proofs.Common.{◌≡◌, ℕ, ◌<◌, ◌≤◌, Bool, false, List, ◌∷◌, ◌++◌, length, None, Result, Ok, Err, refl, sym, ap, ◌∙◌, ◌⊎◌, arith, inl, inr}
use Rattle.std.specs.Prelude.{◌==◌}
use Rattle.std.specs.Int.{w16, w32, to_be_bytes}
use Rattle.std.specs.List.{flat_map}
use Rattle.std.proofs.lemmas.Bool.{ne_eqb, lt-ltb}
use Rattle.std.proofs.lemmas.List.{length-append}
use Rattle.sha2.specs.Sha256.{sha256}
use Rattle.sha2.proofs.Facts256.{length-sha256}
use Rattle.rr_text.specs.Results.{◌>>=◌, unless}
use Rattle.rr_schema.specs.Schema.{Layout, IsLayout}
use Rattle.rr_schema.specs.SchemaBytes.{archive_bytes}
use Rattle.rr_schema.specs.Added.{older}
use Rattle.rr_schema.specs.declared.added.Addition.{Addition}
use Rattle.rr_cells.specs.CellBounds.{NamedCell}
use Rattle.rr_page.specs.declared.fault.PageFault.{PageFault}
use Rattle.rr_page.specs.declared.fault.PageFault.TheVariants as page
use Rattle.rr_page.specs.declared.version.Version.{Version}
use Rattle.rr_page.specs.CellText.{cell_text}
use Rattle.rr_page.specs.PageReading.{cells_at}
use Rattle.rr_page.specs.Reading.{number_at}
use Rattle.rr_page.specs.Version.{version_byte}
use Rattle.rr_page.proofs.FieldLemmas.{ok_is, number_again}
use Rattle.rr_page.proofs.PrefixLemmas.{Reader, ReadsPrefix, ReadsPrefix-number, ReadsPrefix-cells, extended}
use Rattle.rr_page.proofs.NumberLemmas.{wide32}
use Rattle.rr_snapshot.specs.declared.fault.LoadFault.{LoadFault}
use Rattle.rr_snapshot.specs.declared.fault.LoadFault.TheVariants.{Short, BadOrigin}
use Rattle.rr_snapshot.specs.TextLaws.{SnapshotPrefixesAreShort}
use Rattle.rr_snapshot.specs.declared.heading.Head.{Head}
use Rattle.rr_snapshot.specs.Snapshot.{IsSnapshot, IsSnapshotText, magic, body_text, snapshot_text}
use Rattle.rr_snapshot.specs.SnapshotReading.{as_in_page, start_at, archives_at, head_at, digest_at, end_at, bytes_before, cells_after, snapshot_at}
use Rattle.rr_snapshot.proofs.BodyLemmas.{counted as counted_as, after_archives, after_start, after_cells, after_head}
use Rattle.rr_snapshot.proofs.PieceLemmas.{ReadsPrefix-start, ReadsPrefix-archives}
use Rattle.rr_snapshot.proofs.SnapshotLemmas.{start_again, archives_again, schema_parted, by_schema, body_cells}

-- a field that is cut is Short, or it is read whole and what follows it is cut
abbrev Cut : {A : Type 0} → Reader A → List ℕ → List ℕ → A → List ℕ → Type 0
Cut r prefix rest x after = (r prefix ≡ Err page.Short)
    ⊎ ((left : List ℕ) × (r prefix ≡ Ok (x, left)) × (left ++ rest ≡ after))

cut : {A : Type 0} (r : Reader A) (prefix rest : List ℕ) (x : A) (after : List ℕ) → ReadsPrefix r
    → r (prefix ++ rest) ≡ Ok (x, after) → Cut r prefix rest x after
unfolding extended
cut r prefix rest x after is whole = by_prefix (r prefix) refl (is.more prefix rest)
  where
    by_prefix : (a : Result (_ × List ℕ) PageFault) → r prefix ≡ a
        → (r prefix ≡ Err page.Short) ⊎ (r (prefix ++ rest) ≡ extended rest (r prefix)) → Cut r prefix rest x after
    by_prefix a e (inl short) = inl short
    by_prefix (Err fault) e (inr same) = absurd (cc (sym whole ∙ same ∙ ap (extended rest) e))
    by_prefix (Ok y) e (inr same) =
        let both = ok_is (y.0, y.1 ++ rest) (x, after) (sym (ap (extended rest) e) ∙ sym same ∙ whole) in
        inr (y.1, e ∙ ap (λ z. Ok (z, y.1)) (ap (λ p. p.0) both), ap (λ p. p.1) both)

-- too few bytes for a digest
short_digest : (digest bytes : List ℕ) → length bytes < 32 → digest_at digest bytes ≡ Err Short
unfolding digest_at
short_digest digest bytes few = rw (lt-ltb (length bytes) 32 few) refl

module _ (s : Layout) (h : Head) (es : List NamedCell) (bytes prefix rest : List ℕ) (layout : IsLayout s)
    (is : IsSnapshot (older s h.addition) h.origin es) (of : IsSnapshotText s h es bytes)
    (whole : bytes ≡ prefix ++ rest) (some : 1 ≤ length rest) where
  abbrev v : Version
  v = h.version

  abbrev t : Layout
  t = older s h.addition

  abbrev number : ℕ
  number = length t.archives

  abbrev cells : List ℕ
  cells = flat_map (cell_text v) es

  abbrev digest : List ℕ
  digest = sha256 (body_text v t h.origin es)

  abbrev counted : List ℕ
  counted = to_be_bytes w32 (length es) ++ (cells ++ digest)

  abbrev from : List ℕ
  from = flat_map archive_bytes t.archives ++ (to_be_bytes w16 h.origin ++ counted)

  abbrev with_count : Result (ℕ × List ℕ) LoadFault → Result (Head × List NamedCell) LoadFault
  with_count r = (r >>= counted_as v (h.addition, h.origin)) >>= after_head s prefix

  abbrev with_archives : Result ((Addition × ℕ) × List ℕ) LoadFault → Result (Head × List NamedCell) LoadFault
  with_archives r = (r >>= after_archives v) >>= after_head s prefix

  abbrev with_start : Result ((Version × ℕ) × List ℕ) LoadFault → Result (Head × List NamedCell) LoadFault
  with_start r = (r >>= after_start s) >>= after_head s prefix

  start_whole : start_at s (prefix ++ rest) ≡ Ok ((v, number), from)
  unfolding snapshot_text
  start_whole =
      ap (start_at s) (sym whole ∙ of.text ∙ by_schema v t h.origin es digest
      ∙ ap (λ (l : List ℕ). magic ++ (version_byte v ∷ l))
      (schema_parted s h.addition layout of.addition of.some (to_be_bytes w16 h.origin ++ counted)))
      ∙ start_again s h.addition layout of.addition of.some v from

  abbrev with_cells : Result (List NamedCell × List ℕ) LoadFault → Result (Head × List NamedCell) LoadFault
  with_cells r = r >>= after_cells prefix h

  by_cells : (left : List ℕ) → Cut (cells_at v t None h.count) left rest es digest
      → snapshot_at s prefix ≡ with_cells (cells_after s h left) → snapshot_at s prefix ≡ Err Short
  by_cells left (inl short) so_far = so_far ∙ ap (λ (r : Result (List NamedCell × List ℕ) PageFault). with_cells
      (as_in_page r)) short
  by_cells left (inr c) so_far =
      let few : length c.0 < 32 = omega (
        arith,
        some,
        ap length c.2,
        length-append c.0 rest,
        length-sha256 (body_text v t h.origin es),
      ) in
      so_far
      ∙ ap (λ (r : Result (List NamedCell × List ℕ) PageFault). with_cells (as_in_page r)) c.1
      ∙ ap (λ (r : Result (Unit {0} × List ℕ) LoadFault). r >>= λ d. end_at d.1 >>= λ end. Ok (h, es))
      (short_digest (sha256 (bytes_before c.0 prefix)) c.0 few)

  by_count : (left : List ℕ) → Cut (number_at w32) left rest (length es) (cells ++ digest)
      → snapshot_at s prefix ≡ with_count (as_in_page (number_at w32 left)) → snapshot_at s prefix ≡ Err Short
  by_count left (inl short) so_far = so_far ∙ ap (λ (r : Result (ℕ × List ℕ) PageFault). with_count (as_in_page r))
      short
  by_count left (inr c) so_far =
      by_cells c.0 (cut (cells_at v t None h.count) c.0 rest es digest (ReadsPrefix-cells v t None h.count)
      (ap (cells_at v t None h.count) c.2 ∙ body_cells s h es layout of.addition of.some of.wide of.count is
      digest))
      (so_far ∙ ap (λ (r : Result (ℕ × List ℕ) PageFault). with_count (as_in_page r)) c.1
      ∙ ap (λ (n : ℕ). after_head s prefix (
        record { version = v; addition = h.addition; origin = h.origin; count = n },
        c.0,
      )) (sym of.count))

  by_archives : (left : List ℕ) → Cut (archives_at v s number) left rest (h.addition, h.origin) counted
      → snapshot_at s prefix ≡ with_archives (as_in_page (archives_at v s number left))
      → snapshot_at s prefix ≡ Err Short
  by_archives left (inl short) so_far = so_far ∙ ap
      (λ (r : Result ((Addition × ℕ) × List ℕ) PageFault). with_archives (as_in_page r)) short
  by_archives left (inr c) so_far =
      let named : (h.origin == 0) ≡ false = ne_eqb h.origin 0
      (λ e. absurd (omega (arith, e, is.origin_fits.at_least))) in
      by_count c.0 (cut (number_at w32) c.0 rest (length es) (cells ++ digest) (ReadsPrefix-number w32)
      (ap (number_at w32) c.2 ∙ number_again w32 wide32 (length es) (cells ++ digest)
      (omega (arith, is.count_fits))))
      (so_far ∙ ap (λ (r : Result ((Addition × ℕ) × List ℕ) PageFault). with_archives (as_in_page r)) c.1
      ∙ ap (λ (b : Bool). with_count (unless BadOrigin b (as_in_page (number_at w32 c.0)))) named)

  by_start : Cut (start_at s) prefix rest (v, number) from → snapshot_at s prefix ≡ Err Short
  unfolding snapshot_at head_at
  by_start (inl short) = ap (λ (r : Result ((Version × ℕ) × List ℕ) PageFault). with_start (as_in_page r)) short
  by_start (inr c) =
      by_archives c.0 (cut (archives_at v s number) c.0 rest (h.addition, h.origin) counted
      (ReadsPrefix-archives v s number) (ap (archives_at v s number) c.2
      ∙ archives_again s h.addition layout of.addition of.some v h.origin counted of.wide
      (omega (arith, is.origin_fits.at_most))))
      (ap (λ (r : Result ((Version × ℕ) × List ℕ) PageFault). with_start (as_in_page r)) c.1)

  pub prefix_is_short : snapshot_at s prefix ≡ Err Short
  prefix_is_short = by_start (cut (start_at s) prefix rest (v, number) from (ReadsPrefix-start s) start_whole)

pub prefixes_are_short : SnapshotPrefixesAreShort
prefixes_are_short s h es bytes prefix rest layout is of whole some =
    prefix_is_short s h es bytes prefix rest layout is of whole some
