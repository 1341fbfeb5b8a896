-- A snapshot is read exactly where its text is.
use Rattle.std.proofs.Common.{◌≡◌, ℕ, ◌+◌, ◌*◌, ◌≤◌, ◌<◌, ◌^◌, Bool, true, false, List, [], ◌∷◌, ◌++◌, length, drop, Option, None, Some, Result, Ok, Err, refl, sym, ap, ◌∙◌, append_assoc, arith, drop_at}
use Rattle.std.specs.Prelude.{not, ◌==◌, ◌&&◌, ◌||◌, ok_or}
use Rattle.std.specs.Cmp.Lexicographic.{bytes_decides}
use Rattle.std.specs.Int.{w8, w16, w32, to_be_bytes}
use Rattle.std.specs.List.{flat_map}
use Rattle.std.proofs.lemmas.Bool.{eq-eqb, ne_eqb, or_left, or_right}
use Rattle.std.proofs.lemmas.List.{append-nil}
use Rattle.std.proofs.lemmas.List.Elements.{recursion_from_All}
use Rattle.sha2.specs.Sha256.{sha256}
use Rattle.sha2.proofs.Facts256.{length-sha256}
use Rattle.rr_schema.specs.Origin.{IsOrigin}
use Rattle.rr_text.specs.Results.{◌>>=◌, unless}
use Rattle.rr_schema.specs.Schema.{Layout, IsLayout}
use Rattle.rr_schema.specs.SchemaBytes.{archive_bytes, schema_bytes}
use Rattle.rr_schema.specs.Added.{IsAddition, older, had_archives}
use Rattle.rr_schema.specs.declared.added.Addition.{Addition}
use Rattle.rr_schema.specs.declared.added.Addition.TheVariants.{Nothing, Archive}
use Rattle.rr_schema.proofs.AddedLemmas.{length-without}
use Rattle.rr_schema.proofs.AdditionLemmas.{found_addition, found_is, addition_is_told, had_is_older, had_its_own, older_is_layout, older_step}
use Rattle.rr_schema.proofs.SchemaBytesLemmas.{archives_len, bytes_tell}
use Rattle.rr_cells.specs.CellBounds.{NamedCell, IsCellOf}
use Rattle.rr_page.specs.declared.fault.PageFault.{PageFault}
use Rattle.rr_page.specs.declared.fault.PageFault.TheVariants.{SchemaDiffers}
use Rattle.rr_page.specs.declared.version.Version.{Version}
use Rattle.rr_page.specs.declared.version.Version.TheVariants.{One, Two}
use Rattle.rr_page.specs.CellText.{cell_text}
use Rattle.rr_page.specs.PageReading.{cells_at}
use Rattle.rr_page.specs.Reading.{number_at}
use Rattle.rr_page.specs.Version.{version_byte, HasMasksFor, has_masks_for}
use Rattle.rr_page.proofs.CellsLemmas.{cells_again}
use Rattle.rr_page.proofs.FieldLemmas as field
use Rattle.rr_page.proofs.FieldLemmas.{prefix_again, number_again}
use Rattle.rr_page.proofs.HeadLemmas.{both, masks_tell, version_again}
use Rattle.rr_page.proofs.NumberLemmas.{wide8, wide16, wide32}
use Rattle.rr_page.proofs.OrderLemmas.{sorted_rising}
use Rattle.rr_snapshot.specs.declared.fault.LoadFault.TheVariants as why
use Rattle.rr_snapshot.specs.declared.fault.LoadFault.TheVariants.{BadOrigin, BadDigest}
use Rattle.rr_snapshot.specs.declared.heading.Head.{Head}
use Rattle.rr_snapshot.specs.declared.heading.TheConstants.{MAX_SNAPSHOT_CELLS}
use Rattle.rr_snapshot.specs.TextLaws.{SnapshotsAreTheirText, NoSnapshotBeginsAnother}
use Rattle.rr_snapshot.specs.Snapshot.{IsSnapshot, magic, head_text, body_text, snapshot_text}
use Rattle.rr_snapshot.specs.SnapshotReading.{as_in_page, may_have_had, start_at, fits_addition, fitting_addition, archives_at, head_at, digest_at, end_at, snapshot_at}
use Rattle.rr_snapshot.proofs.BodyLemmas.{after_archives, after_start, prefix_is}
use Rattle.rr_snapshot.proofs.TakenLemmas.{ok_is, step, one_byte, had_fitting, snapshot_takes}

-- ---- from the text

start_by : (s : Layout) (v : Version) (step number : ℕ) (rest : List ℕ) → step < 2 ^ 32 → number < 2 ^ 8
    → start_at s (magic ++ (version_byte v ∷ (to_be_bytes w32 step ++ (number ∷ rest))))
    ≡ unless SchemaDiffers (not (may_have_had s step number)) (Ok ((v, number), rest))
unfolding start_at
start_by s v step number rest short few =
    field.step _ (prefix_again 4 magic (version_byte v ∷ (to_be_bytes w32 step ++ (number ∷ rest))) refl)
    ∙ field.step _ (version_again v (to_be_bytes w32 step ++ (number ∷ rest)))
    ∙ field.step _ (number_again w32 wide32 step (number ∷ rest) short)
    ∙ field.step _ (ap (λ (l : List ℕ). number_at w8 (l ++ rest)) (sym (one_byte number few))
    ∙ number_again w8 wide8 number rest few)

-- the reader's schema is the snapshot's after an addition
module _ (s : Layout) (a : Addition) (is : IsLayout s) (there : IsAddition s a)
    (some : 1 ≤ length (older s a).archives) where
  may_have : may_have_had s s.step (length (older s a).archives) ≡ true
  may_have = λ j. (eq-eqb s.step s.step refl j && not
      (ne_eqb (length (older s a).archives) 0 (λ e. absurd (omega (arith, e, some))) j)) && many a there j
    where
      many : (b : Addition) → IsAddition s b → (length (older s b).archives == length s.archives
          || length (older s b).archives + 1 == length s.archives) ≡ true
      many Nothing h = or_left (length s.archives == length s.archives) (length s.archives + 1 == length s.archives)
          (eq-eqb (length s.archives) (length s.archives) refl)
      many (Archive i) h = or_right (length (older s (Archive i)).archives == length s.archives)
          (length (older s (Archive i)).archives + 1 == length s.archives)
          (eq-eqb (length (older s (Archive i)).archives + 1) (length s.archives) (length-without i s.archives h))

  pub start_again : (v : Version) (rest : List ℕ)
      → start_at s (magic ++ (version_byte v ∷ (to_be_bytes w32 s.step ++ (length (older s a).archives ∷ rest))))
      ≡ Ok ((v, length (older s a).archives), rest)
  start_again v rest =
      start_by s v s.step (length (older s a).archives) rest (let most = is.short_step in omega (arith, most))
      (let most = (older_is_layout s a is there some).few_archives in omega (arith, most))
      ∙ ap (λ (b : Bool). unless SchemaDiffers (not b) (Ok ((v, length (older s a).archives), rest))) may_have

  told : (v : Version) → HasMasksFor v (older s a)
      → fitting_addition v s (flat_map archive_bytes (older s a).archives) ≡ Some a
  told v wide =
      let field = flat_map archive_bytes (older s a).archives in
      found_is s (fits_addition v s field) a there (λ j. masks_tell v (older s a) wide j && had_its_own s a j)
      (λ b p e. addition_is_told s a b is there p (both (has_masks_for v (older s b)) (had_archives s field b) e).1)

  pub archives_again : (v : Version) (o : ℕ) (rest : List ℕ) → HasMasksFor v (older s a) → o < 2 ^ 16
      → archives_at v s (length (older s a).archives)
      (flat_map archive_bytes (older s a).archives ++ (to_be_bytes w16 o ++ rest)) ≡ Ok ((a, o), rest)
  unfolding archives_at
  archives_again v o rest wide low =
      let archives = flat_map archive_bytes (older s a).archives in
      field.step _ (prefix_again (9 * length (older s a).archives) archives (to_be_bytes w16 o ++ rest)
      (archives_len (older s a).archives))
      ∙ ap (λ (t : Option Addition). ok_or t SchemaDiffers >>= λ (b : Addition). number_at w16
      (to_be_bytes w16 o ++ rest) >>= λ (origin : ℕ × List ℕ). Ok ((b, origin.0), origin.1)) (told v wide)
      ∙ field.step _ (number_again w16 wide16 o rest low)

  -- what follows the magic and the version
  pub schema_parted : (rest : List ℕ) → schema_bytes (older s a) ++ rest ≡ to_be_bytes w32 s.step
      ++ (length (older s a).archives ∷ (flat_map archive_bytes (older s a).archives ++ rest))
  unfolding schema_bytes
  schema_parted rest =
      append_assoc (to_be_bytes w32 (older s a).step)
      (length (older s a).archives ∷ flat_map archive_bytes (older s a).archives) rest
      ∙ ap (λ (m : ℕ). to_be_bytes w32 m ++ (length (older s a).archives ∷
      (flat_map archive_bytes (older s a).archives ++ rest))) (older_step s a)

  pub head_again : (v : Version) (o n : ℕ) (rest : List ℕ) → HasMasksFor v (older s a) → IsOrigin o
      → n ≤ MAX_SNAPSHOT_CELLS
      → head_at s (head_text v (older s a) o n ++ rest)
      ≡ Ok (record { version = v; addition = a; origin = o; count = n }, rest)
  unfolding head_at head_text
  head_again v o n rest wide origin few =
      let after = to_be_bytes w32 n ++ rest in
      let from = to_be_bytes w16 o ++ after in
      let named : (o == 0) ≡ false = ne_eqb o 0 (λ e. absurd (omega (arith, e, origin.at_least))) in
      let low : o < 2 ^ 16 = omega (arith, origin.at_most) in
      let below : n < 2 ^ 32 = omega (arith, few) in
      ap (λ (l : List ℕ). head_at s (magic ++ (version_byte v ∷ l)))
      (four (schema_bytes (older s a)) (to_be_bytes w16 o) (to_be_bytes w32 n) rest ∙ schema_parted from)
      ∙ step _ (ap as_in_page (start_again v (flat_map archive_bytes (older s a).archives ++ from)))
      ∙ step _ (ap as_in_page (archives_again v o after wide low))
      ∙ ap (λ (b : Bool). unless BadOrigin b (as_in_page (number_at w32 after)) >>= λ (count : ℕ × List ℕ). Ok
      (record { version = v; addition = a; origin = o; count = count.0 }, count.1)) named
      ∙ step _ (ap as_in_page (number_again w32 wide32 n rest below))
    where
      four : (a b c d : List ℕ) → (a ++ (b ++ c)) ++ d ≡ a ++ (b ++ (c ++ d))
      four a b c d = simp append_assoc

digest_again : (digest rest : List ℕ) → length digest ≡ 32 → digest_at digest (digest ++ rest) ≡ Ok (tt, rest)
unfolding digest_at
digest_again digest rest len =
    step _ (ap as_in_page (prefix_again 32 digest rest len))
    ∙ ap (λ (b : Bool). unless BadDigest (not b) (Ok (tt, rest))) ((bytes_decides digest digest).1 refl)

nothing_left : end_at [] ≡ Ok (tt, [])
unfolding end_at
nothing_left = refl

module _ (s : Layout) (h : Head) (es : List NamedCell) (layout : IsLayout s) (there : IsAddition s h.addition)
    (some : 1 ≤ length (older s h.addition).archives) (wide : HasMasksFor h.version (older s h.addition))
    (count : h.count ≡ length es) (is : IsSnapshot (older s h.addition) h.origin es) where
  abbrev own : Layout
  own = older s h.addition

  -- the head and the cells, and what follows them
  pub body_head : (rest : List ℕ) → head_at s (body_text h.version (older s h.addition) h.origin es ++ rest)
      ≡ Ok (h, flat_map (cell_text h.version) es ++ rest)
  unfolding body_text
  body_head rest =
      ap (head_at s) (append_assoc (head_text h.version own h.origin (length es)) (flat_map (cell_text h.version) es)
      rest)
      ∙ head_again s h.addition layout there some h.version h.origin (length es)
      (flat_map (cell_text h.version) es ++ rest) wide is.origin_fits is.count_fits
      ∙ ap (λ (n : ℕ). Ok (
        record { version = h.version; addition = h.addition; origin = h.origin; count = n },
        flat_map (cell_text h.version) es ++ rest,
      )) (sym count)

  pub body_cells : (rest : List ℕ) → cells_at h.version (older s h.addition) None h.count
      (flat_map (cell_text h.version) es ++ rest) ≡ Ok (es, rest)
  body_cells rest =
      ap (λ (n : ℕ). cells_at h.version own None n (flat_map (cell_text h.version) es ++ rest)) count
      ∙ cells_again h.version own None es rest (older_is_layout s h.addition layout there some) wide
      (recursion_from_All (IsCellOf own) es is.cells) (sorted_rising es is.names_ascend)

  pub snapshot_read : snapshot_at s (snapshot_text h.version (older s h.addition) h.origin es) ≡ Ok (h, es)
  unfolding snapshot_at snapshot_text
  snapshot_read =
      let body = body_text h.version own h.origin es in
      let digest = sha256 body in
      let last : digest_at digest digest ≡ Ok (tt, []) = ap (digest_at digest) (sym (append-nil digest))
      ∙ digest_again digest [] (length-sha256 body) in
      step _ (body_head digest)
      ∙ step _ (ap as_in_page (body_cells digest))
      ∙ ap (λ (l : List ℕ). digest_at (sha256 l) digest >>= λ (d : Unit {0} × List ℕ). end_at d.1 >>= λ end. Ok (h, es))
      (prefix_is body digest (body ++ digest) refl)
      ∙ step _ last
      ∙ step _ nothing_left

pub snapshots_are_their_text : SnapshotsAreTheirText
snapshots_are_their_text s bytes h es layout fits = (
  (λ e. snapshot_takes s bytes h es fits e),
  (λ p. ap (snapshot_at s) p.1.text
      ∙ snapshot_read s h es layout p.1.addition p.1.some p.1.wide p.1.count p.0),
)

-- ---- no snapshot begins another

-- what follows the schema
abbrev pub after_schema : Version → ℕ → List NamedCell → List ℕ → List ℕ
after_schema v o es x = to_be_bytes w16 o ++ (to_be_bytes w32 (length es) ++ (flat_map (cell_text v) es ++ x))

pub by_schema : (v : Version) (s : Layout) (o : ℕ) (es : List NamedCell) (x : List ℕ)
    → body_text v s o es ++ x ≡ magic ++ (version_byte v ∷ (schema_bytes s ++ after_schema v o es x))
unfolding body_text head_text
by_schema v s o es x = ap (λ (l : List ℕ). magic ++ (version_byte v ∷ l))
    (five (schema_bytes s) (to_be_bytes w16 o) (to_be_bytes w32 (length es)) (flat_map (cell_text v) es) x)
  where
    five : (a b c d x : List ℕ) → ((a ++ (b ++ c)) ++ d) ++ x ≡ a ++ (b ++ (c ++ (d ++ x)))
    five a b c d x = simp append_assoc

version_tells : (v w : Version) → version_byte v ≡ version_byte w → v ≡ w
version_tells One One e = refl
version_tells One Two e = absurd (omega (arith, e))
version_tells Two One e = absurd (omega (arith, e))
version_tells Two Two e = refl

first_or_none : List ℕ → ℕ
first_or_none [] = 0
first_or_none (x ∷ xs) = x

-- the head under its own schema
abbrev pub own_head : Version → ℕ → List NamedCell → Head
own_head v o es = record { version = v; addition = Nothing; origin = o; count = length es }

pub no_snapshot_begins_another : NoSnapshotBeginsAnother
unfolding snapshot_text first_or_none
no_snapshot_begins_another v w s t o p es fs x y layout other wide wide_too is second e =
    let d = sha256 (body_text v s o es) in
    let f = sha256 (body_text w t p fs) in
    let whole : body_text v s o es ++ (d ++ x) ≡ body_text w t p fs ++ (f ++ y) =
    sym (append_assoc (body_text v s o es) d x) ∙ e ∙ append_assoc (body_text w t p fs) f y in
    let starts = sym (by_schema v s o es (d ++ x)) ∙ whole ∙ by_schema w t p fs (f ++ y) in
    let versions = version_tells v w (ap (λ (l : List ℕ). first_or_none (drop 4 l)) starts) in
    let schemas = bytes_tell s t (after_schema v o es (d ++ x)) (after_schema w p fs (f ++ y)) layout other
    (ap (drop 5) starts) in
    let one : Head = own_head v o es in
    let two : Head = own_head w p fs in
    let heads = ok_is (one, flat_map (cell_text v) es ++ (d ++ x)) (two, flat_map (cell_text w) fs ++ (f ++ y))
    (sym (body_head s one es layout tt layout.some_archive wide refl is (d ++ x))
    ∙ (λ i. head_at (schemas.0 i) (whole i)) ∙ body_head t two fs other tt other.some_archive wide_too refl second
    (f ++ y)) in
    let origins : o ≡ p = ap (λ (h : Head × List ℕ). h.0.origin) heads in
    let counts : length es ≡ length fs = ap (λ (h : Head × List ℕ). h.0.count) heads in
    let lefts : flat_map (cell_text v) es ++ (d ++ x) ≡ flat_map (cell_text w) fs ++ (f ++ y) =
    ap (λ (h : Head × List ℕ). h.1) heads in
    let cells = field.ok_is (es, d ++ x) (fs, f ++ y)
    (sym (body_cells s one es layout tt layout.some_archive wide refl is (d ++ x))
    ∙ (λ i. cells_at (versions i) (schemas.0 i) None (counts i) (lefts i))
    ∙ body_cells t two fs other tt other.some_archive wide_too refl second (f ++ y)) in
    let ends : d ++ x ≡ f ++ y = ap (λ (c : List NamedCell × List ℕ). c.1) cells in (
      versions,
      schemas.0,
      origins,
      ap (λ (c : List NamedCell × List ℕ). c.0) cells,
      sym (drop_at d x 32 (length-sha256 (body_text v s o es))) ∙ ap (drop 32) ends
          ∙ drop_at f y 32 (length-sha256 (body_text w t p fs)),
    )

-- ---- another schema

module _ (s t : Layout) (v : Version) (o : ℕ) (es : List NamedCell) (layout : IsLayout s) (other : IsLayout t)
    (missed : (a : Addition) → IsAddition s a → t ≡ older s a → ⊥) where
  abbrev from : List ℕ
  from = after_schema v o es (sha256 (body_text v t o es))

  abbrev archives : List ℕ
  archives = flat_map archive_bytes t.archives

  none_fits : t.step ≡ s.step → fitting_addition v s archives ≡ None
  none_fits step = by_fitting (fitting_addition v s archives) refl
    where
      by_fitting : (found : Option Addition) → fitting_addition v s archives ≡ found
          → fitting_addition v s archives ≡ None
      by_fitting None e = e
      by_fitting (Some a) e =
          let f = found_addition s (fits_addition v s archives) a e in
          let same = (both (has_masks_for v (older s a)) (had_archives s archives a) f.1).1 in
          absurd (missed a f.0 (had_is_older s t a layout other step same))

  archives_differ : t.step ≡ s.step → archives_at v s (length t.archives) (archives ++ from) ≡ Err SchemaDiffers
  unfolding archives_at
  archives_differ step =
      field.step _ (prefix_again (9 * length t.archives) archives from (archives_len t.archives))
      ∙ ap (λ (found : Option Addition). ok_or found SchemaDiffers >>= λ (a : Addition). number_at w16 from >>=
      λ (origin : ℕ × List ℕ). Ok ((a, origin.0), origin.1)) (none_fits step)

  by_had : (b : Bool) → may_have_had s t.step (length t.archives) ≡ b
      → (as_in_page (unless SchemaDiffers (not b) (Ok ((v, length t.archives), archives ++ from))) >>= after_start s)
      ≡ Err why.SchemaDiffers
  by_had false e = refl
  by_had true e = ap (λ (r : Result ((Addition × ℕ) × List ℕ) PageFault). as_in_page r >>= after_archives v)
      (archives_differ (had_fitting s t.step (length t.archives) e).step_is)

  pub other_schema : head_at s (snapshot_text v t o es) ≡ Err why.SchemaDiffers
  unfolding head_at snapshot_text
  other_schema =
      let short : t.step < 2 ^ 32 = let most = other.short_step in omega (arith, most) in
      let few : length t.archives < 2 ^ 8 = let most = other.few_archives in omega (arith, most) in
      ap (head_at s) (by_schema v t o es (sha256 (body_text v t o es))
      ∙ ap (λ (l : List ℕ). magic ++ (version_byte v ∷ l))
      (schema_parted t Nothing other tt other.some_archive from))
      ∙ ap (λ (r : Result ((Version × ℕ) × List ℕ) PageFault). as_in_page r >>= after_start s)
      (start_by s v t.step (length t.archives) (archives ++ from) short few)
      ∙ by_had (may_have_had s t.step (length t.archives)) refl
