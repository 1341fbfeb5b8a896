-- What is read as a snapshot is the text of one.
use Rattle.std.proofs.Common.{◌≡◌, ℕ, zero, suc, ◌+◌, ◌*◌, ◌≤◌, ◌<◌, ◌^◌, Bool, true, false, List, [], ◌∷◌, ◌++◌, length, Option, None, Some, Result, Ok, Err, refl, sym, ap, subst, ◌∙◌, append_assoc, arith}
use Rattle.std.specs.Prelude.{nat_eq, not, ◌==◌, ◌&&◌, ◌||◌, ok_or}
use Rattle.std.specs.Cmp.Lexicographic.{pointwise, bytes_decides}
use Rattle.std.specs.Int.{w8, w16, w32, to_be_bytes}
use Rattle.std.specs.List.{flat_map}
use Rattle.std.proofs.Math.Nat as nat
use Rattle.std.proofs.lemmas.Bool.{eqb-true}
use Rattle.std.proofs.lemmas.List.{append-nil, nil_from_length}
use Rattle.std.proofs.lemmas.List.Elements.{All-from_recursion}
use Rattle.sha2.specs.Sha256.{sha256}
use Rattle.rr_schema.specs.Origin.{IsOrigin}
use Rattle.rr_text.specs.Results.{◌>>=◌, unless}
use Rattle.rr_schema.specs.Schema.{Layout}
use Rattle.rr_schema.specs.SchemaBytes.{archive_bytes, schema_bytes}
use Rattle.rr_schema.specs.Added.{IsAddition, older, had_archives}
use Rattle.rr_schema.specs.declared.added.Addition.{Addition}
use Rattle.rr_schema.proofs.AdditionLemmas.{found_addition, older_step}
use Rattle.rr_schema.proofs.SchemaBytesLemmas.{archives_len}
use Rattle.rr_cells.specs.CellBounds.{NamedCell, IsCellOf}
use Rattle.rr_page.specs.declared.fault.PageFault.{PageFault}
use Rattle.rr_page.specs.declared.fault.PageFault.TheVariants.{BadMagic, SchemaDiffers}
use Rattle.rr_page.specs.declared.version.Version.{Version}
use Rattle.rr_page.specs.Laws.{AreBytes}
use Rattle.rr_page.specs.PageReading.{version_at, cells_at}
use Rattle.rr_page.specs.Reading.{prefix_at, number_at}
use Rattle.rr_page.specs.Version.{version_byte, HasMasksFor, has_masks_for}
use Rattle.rr_page.proofs.CellsLemmas.{cells_take}
use Rattle.rr_page.proofs.FieldLemmas as field
use Rattle.rr_page.proofs.FieldLemmas.{not_false, and_then, Takes, prefix_takes, number_takes}
use Rattle.rr_page.proofs.HeadLemmas.{both, masks_told, version_takes}
use Rattle.rr_page.proofs.NumberLemmas.{wide8, wide16, wide32}
use Rattle.rr_page.proofs.OrderLemmas.{rising_sorted}
use Rattle.rr_snapshot.specs.declared.fault.LoadFault.{LoadFault}
use Rattle.rr_snapshot.specs.declared.fault.LoadFault.TheVariants.{BadOrigin, BadDigest, TrailingBytes}
use Rattle.rr_snapshot.specs.declared.heading.Head.{Head}
use Rattle.rr_snapshot.specs.declared.heading.TheConstants.{MAX_SNAPSHOT_CELLS}
use Rattle.rr_snapshot.specs.Snapshot.{IsSnapshot, IsSnapshotText, magic, head_text, body_text, snapshot_text}
use Rattle.rr_snapshot.specs.SnapshotReading.{as_in_page, may_have_had, start_at, fits_addition, fitting_addition, archives_at, head_at, digest_at, end_at, bytes_before, cells_after, snapshot_at}
use Rattle.rr_snapshot.proofs.CellsLemmas.{page_ok}
use Rattle.rr_snapshot.proofs.BodyLemmas.{prefix_is}

-- ---- steps that found no fault

with_ok : {A B P : Type 0} (r : Result A LoadFault) (f : A → Result B LoadFault) (y : B) → (r >>= f) ≡ Ok y
    → ((x : A) → r ≡ Ok x → f x ≡ Ok y → P) → P
with_ok (Ok x) f y e next = next x refl e
with_ok (Err fault) f y e next = absurd (cc e)

unless_ok : {A : Type 0} (fault : LoadFault) (refused : Bool) (r : Result A LoadFault) (y : A)
    → unless fault refused r ≡ Ok y → (refused ≡ false) × (r ≡ Ok y)
unless_ok fault true r y e = absurd (cc e)
unless_ok fault false r y e = (refl, e)

abbrev pub done : {A : Type 0} → A → Result A LoadFault
done x = Ok x

pub ok_is : {A : Type 0} (x y : A) → done x ≡ done y → x ≡ y
ok_is x y e = cc

pub step : {A B : Type 0} {r : Result A LoadFault} {x : A} (f : A → Result B LoadFault) → r ≡ Ok x → (r >>= f) ≡ f x
step f e = ap (λ r. r >>= f) e

-- ---- from the bytes

pub one_byte : (n : ℕ) → n < 2 ^ 8 → to_be_bytes w8 n ≡ n ∷ []
one_byte n low = ap (λ (b : ℕ). b ∷ []) (nat.mod-eq_of_lt low)

-- the step, and so many archives
pub record MayHaveHad (s : Layout) (step number : ℕ) : Type 0 where
  pub step_is : step ≡ s.step
  pub some : 1 ≤ number

pub had_fitting : (s : Layout) (seconds number : ℕ) → may_have_had s seconds number ≡ true → MayHaveHad s seconds number
had_fitting s seconds number e =
    let first = both (seconds == s.step && not (number == 0))
    (number == length s.archives || number + 1 == length s.archives) e in
    let same = both (seconds == s.step) (not (number == 0)) first.0 in
    record { step_is = eqb-true seconds s.step same.0; some = some_number number (not_true (number == 0) same.1) }
  where
    not_true : (b : Bool) → not b ≡ true → b ≡ false
    not_true true h = absurd (cc h)
    not_true false h = refl

    some_number : (n : ℕ) → (n == 0) ≡ false → 1 ≤ n
    some_number zero h = absurd (cc h)
    some_number (suc n) h = omega arith

-- up to the archives
abbrev start_text : Version → ℕ → ℕ → List ℕ
start_text v step number = magic ++ (version_byte v ∷ (to_be_bytes w32 step ++ number ∷ []))

start_takes : (s : Layout) (bytes : List ℕ) (v : Version) (n : ℕ) (rest : List ℕ) → AreBytes bytes
    → start_at s bytes ≡ Ok ((v, n), rest)
    → Takes bytes (start_text v s.step n) rest × (1 ≤ n)
unfolding start_at
start_takes s bytes v n rest fits e =
    field.with_ok (prefix_at 4 bytes) _ ((v, n), rest) e (λ start i0 e0.
    field.with_ok (unless BadMagic (not (pointwise nat_eq start.0 magic)) (version_at start.1)) _ ((v, n), rest) e0
    (λ version i1 e1.
    field.with_ok (number_at w32 version.1) _ ((v, n), rest) e1 (λ step i2 e2.
    field.with_ok (number_at w8 step.1) _ ((v, n), rest) e2 (λ number i3 e3.
    let g1 = field.unless_ok BadMagic (not (pointwise nat_eq start.0 magic)) (version_at start.1) version i1 in
    let g3 = field.unless_ok SchemaDiffers (not (may_have_had s step.0 number.0)) (Ok ((version.0, number.0), number.1))
    ((v, n), rest) e3 in
    let had = had_fitting s step.0 number.0 (not_false (may_have_had s step.0 number.0) g3.0) in
    let t0 = prefix_takes 4 bytes start.0 start.1 fits i0 in
    let same0 = (bytes_decides start.0 magic).0 (not_false (pointwise nat_eq start.0 magic) g1.0) in
    let t1 = version_takes start.1 version.0 version.1 t0.0.rest_fits g1.1 in
    let t2 = number_takes w32 wide32 version.1 step.0 step.1 t1.rest_fits i2 in
    let t3 = number_takes w8 wide8 step.1 number.0 number.1 t2.0.rest_fits i3 in
    let first : Takes bytes magic start.1 = subst (λ (l : List ℕ). Takes bytes l start.1) same0 t0.0 in
    let third : Takes version.1 (to_be_bytes w32 s.step) step.1 =
    subst (λ (m : ℕ). Takes version.1 (to_be_bytes w32 m) step.1) had.step_is t2.0 in
    let fourth : Takes step.1 (number.0 ∷ []) number.1 =
    subst (λ (l : List ℕ). Takes step.1 l number.1) (one_byte number.0 t3.1) t3.0 in
    let whole : Takes bytes (start_text version.0 s.step number.0) number.1 =
    and_then first (and_then t1 (and_then third fourth)) in
    subst (λ (p : (Version × ℕ) × List ℕ). Takes bytes (start_text p.0.0 s.step p.0.1) p.1 × (1 ≤ p.0.1))
    (field.ok_is ((version.0, number.0), number.1) ((v, n), rest) g3.1)
    (whole, had.some)))))

ok_or_is : {A : Type 0} (o : Option A) (fault : PageFault) (x : A) → ok_or o fault ≡ Ok x → o ≡ Some x
ok_or_is None fault x e = absurd (cc e)
ok_or_is (Some y) fault x e = ap Some (field.ok_is y x e)

archives_takes : (v : Version) (s : Layout) (n : ℕ) (bytes : List ℕ) (a : Addition) (o : ℕ) (rest : List ℕ)
    → AreBytes bytes → archives_at v s n bytes ≡ Ok ((a, o), rest)
    → Takes bytes (flat_map archive_bytes (older s a).archives ++ to_be_bytes w16 o) rest
    × (n ≡ length (older s a).archives) × (o < 2 ^ 16) × IsAddition s a × HasMasksFor v (older s a)
unfolding archives_at
archives_takes v s n bytes a o rest fits e =
    field.with_ok (prefix_at (9 * n) bytes) _ ((a, o), rest) e (λ own i0 e0.
    field.with_ok (ok_or (fitting_addition v s own.0) SchemaDiffers) _ ((a, o), rest) e0 (λ told i1 e1.
    field.with_ok (number_at w16 own.1) _ ((a, o), rest) e1 (λ origin i2 e2.
    let found = found_addition s (fits_addition v s own.0) told
    (ok_or_is (fitting_addition v s own.0) SchemaDiffers told i1) in
    let is = both (has_masks_for v (older s told)) (had_archives s own.0 told) found.1 in
    let archives = flat_map archive_bytes (older s told).archives in
    let same : own.0 ≡ archives = (bytes_decides own.0 archives).0 is.1 in
    let t0 = prefix_takes (9 * n) bytes own.0 own.1 fits i0 in
    let t1 = number_takes w16 wide16 own.1 origin.0 origin.1 t0.0.rest_fits i2 in
    let many : n ≡ length (older s told).archives =
    omega (arith, t0.1, ap length same, archives_len (older s told).archives) in
    let first : Takes bytes archives own.1 = subst (λ (l : List ℕ). Takes bytes l own.1) same t0.0 in
    subst (λ (p : (Addition × ℕ) × List ℕ). Takes bytes
    (flat_map archive_bytes (older s p.0.0).archives ++ to_be_bytes w16 p.0.1) p.1
    × (n ≡ length (older s p.0.0).archives) × (p.0.1 < 2 ^ 16) × IsAddition s p.0.0 × HasMasksFor v (older s p.0.0))
    (field.ok_is ((told, origin.0), origin.1) ((a, o), rest) e2)
    (and_then first t1.0, many, t1.1, found.0, masks_told v (older s told) is.0))))

some_number : (n : ℕ) → (n == 0) ≡ false → 1 ≤ n
some_number zero e = absurd (cc e)
some_number (suc n) e = omega arith

-- a head that is read: its bytes, and what it says
record IsHeadOf (s : Layout) (h : Head) (bytes rest : List ℕ) : Type 0 where
  pub takes : Takes bytes (head_text h.version (older s h.addition) h.origin h.count) rest
  pub origin : IsOrigin h.origin
  pub few : h.count ≤ MAX_SNAPSHOT_CELLS
  pub addition : IsAddition s h.addition
  pub some : 1 ≤ length (older s h.addition).archives
  pub wide : HasMasksFor h.version (older s h.addition)

-- the start, the archives and the number of cells are the text of a head
head_parts : (v : Version) (t : Layout) (step o n : ℕ) → step ≡ t.step
    → start_text v step (length t.archives) ++ ((flat_map archive_bytes t.archives ++ to_be_bytes w16 o)
    ++ to_be_bytes w32 n) ≡ head_text v t o n
unfolding head_text schema_bytes
head_parts v t step o n is =
    let archives = flat_map archive_bytes t.archives in
    ap (λ (l : List ℕ). magic ++ (version_byte v ∷ l))
    (append_assoc (to_be_bytes w32 step) (length t.archives ∷ []) ((archives ++ to_be_bytes w16 o) ++ to_be_bytes w32 n)
    ∙ ap (λ (l : List ℕ). to_be_bytes w32 step ++ (length t.archives ∷ l))
    (append_assoc archives (to_be_bytes w16 o) (to_be_bytes w32 n))
    ∙ sym (append_assoc (to_be_bytes w32 step) (length t.archives ∷ archives) (to_be_bytes w16 o ++ to_be_bytes w32 n))
    ∙ ap (λ (m : ℕ). (to_be_bytes w32 m ++ (length t.archives ∷ archives)) ++ (to_be_bytes w16 o ++ to_be_bytes w32 n))
    is)

head_takes : (s : Layout) (bytes : List ℕ) (h : Head) (rest : List ℕ) → AreBytes bytes → head_at s bytes ≡ Ok (h, rest)
    → IsHeadOf s h bytes rest
unfolding head_at
head_takes s bytes h rest fits e =
    with_ok (as_in_page (start_at s bytes)) _ (h, rest) e (λ start i0 e0.
    with_ok (as_in_page (archives_at start.0.0 s start.0.1 start.1)) _ (h, rest) e0 (λ from i1 e1.
    with_ok (unless BadOrigin (from.0.1 == 0) (as_in_page (number_at w32 from.1))) _ (h, rest) e1 (λ count i2 e2.
    let g = unless_ok BadOrigin (from.0.1 == 0) (as_in_page (number_at w32 from.1)) count i2 in
    let t0 = start_takes s bytes start.0.0 start.0.1 start.1 fits (page_ok (start_at s bytes) start i0) in
    let t1 = archives_takes start.0.0 s start.0.1 start.1 from.0.0 from.0.1 from.1 t0.0.rest_fits
    (page_ok (archives_at start.0.0 s start.0.1 start.1) from i1) in
    let t2 = number_takes w32 wide32 from.1 count.0 count.1 t1.0.rest_fits (page_ok (number_at w32 from.1) count g.1) in
    let t = older s from.0.0 in
    let first : Takes bytes (start_text start.0.0 s.step (length t.archives)) start.1 =
    subst (λ (m : ℕ). Takes bytes (start_text start.0.0 s.step m) start.1) t1.1 t0.0 in
    let whole = and_then first (and_then t1.0 t2.0) in
    let some = some_number from.0.1 g.0 in
    subst (λ (p : Head × List ℕ). IsHeadOf s p.0 bytes p.1)
    (ok_is (record { version = start.0.0; addition = from.0.0; origin = from.0.1; count = count.0 }, count.1)
    (h, rest) e2)
    (record {
      takes = subst (λ (l : List ℕ). Takes bytes l count.1)
          (head_parts start.0.0 t s.step from.0.1 count.0 (sym (older_step s from.0.0))) whole;
      origin = record { at_least = some; at_most = omega (arith, t1.2) };
      few = omega (arith, t2.1);
      addition = t1.3;
      some = omega (arith, t0.1, t1.1);
      wide = t1.4;
    }))))

digest_takes : (digest bytes rest : List ℕ) → AreBytes bytes → digest_at digest bytes ≡ Ok (tt, rest)
    → bytes ≡ digest ++ rest
unfolding digest_at
digest_takes digest bytes rest fits e =
    with_ok (as_in_page (prefix_at 32 bytes)) _ (tt, rest) e (λ own i e0.
    let g = unless_ok BadDigest (not (pointwise nat_eq own.0 digest)) (Ok (tt, own.1)) (tt, rest) e0 in
    let t = prefix_takes 32 bytes own.0 own.1 fits (page_ok (prefix_at 32 bytes) own i) in
    let same = (bytes_decides own.0 digest).0 (not_false (pointwise nat_eq own.0 digest) g.0) in
    let left : own.1 ≡ rest = ap (λ (p : Unit {0} × List ℕ). p.1) (ok_is (tt, own.1) (tt, rest) g.1) in
    t.0.parts ∙ (λ i. same i ++ left i))

end_takes : (bytes rest : List ℕ) → end_at bytes ≡ Ok (tt, rest) → bytes ≡ []
unfolding end_at
end_takes bytes rest e =
    let g = unless_ok TrailingBytes (not (length bytes == 0)) (Ok (tt, bytes)) (tt, rest) e in
    nil_from_length bytes (eqb-true (length bytes) 0 (not_false (length bytes == 0) g.0))

pub snapshot_takes : (s : Layout) (bytes : List ℕ) (h : Head) (es : List NamedCell) → AreBytes bytes
    → snapshot_at s bytes ≡ Ok (h, es) → IsSnapshot (older s h.addition) h.origin es × IsSnapshotText s h es bytes
unfolding snapshot_at body_text snapshot_text
snapshot_takes s bytes h es fits e =
    with_ok (head_at s bytes) _ (h, es) e (λ head i0 e0.
    let v = head.0.version in
    let t = older s head.0.addition in
    let o = head.0.origin in
    with_ok (cells_after s head.0 head.1) _ (h, es) e0 (λ cells i1 e1.
    with_ok (digest_at (sha256 (bytes_before cells.1 bytes)) cells.1) _ (h, es) e1 (λ digest i2 e2.
    with_ok (end_at digest.1) _ (h, es) e2 (λ end i3 e3.
    let t0 = head_takes s bytes head.0 head.1 fits i0 in
    let t1 = cells_take v t None head.0.count head.1 cells t0.takes.rest_fits
    (page_ok (cells_at v t None head.0.count head.1) cells i1) in
    let body : List ℕ = body_text v t o cells.0 in
    let t2 : Takes bytes body cells.1 = and_then (subst (λ (n : ℕ). Takes bytes (head_text v t o n) head.1)
    (sym t1.many) t0.takes) t1.takes in
    let before = prefix_is body cells.1 bytes t2.parts in
    let parts = digest_takes (sha256 (bytes_before cells.1 bytes)) cells.1 digest.1 t2.rest_fits i2 in
    let none = end_takes digest.1 end.1 i3 in
    let text : bytes ≡ body ++ sha256 body = t2.parts
    ∙ ap (λ (l : List ℕ). body ++ l) (parts ∙ (λ i. sha256 (before i) ++ none i) ∙ append-nil (sha256 body)) in
    subst (λ (p : Head × List NamedCell). IsSnapshot (older s p.0.addition) p.0.origin p.1
    × IsSnapshotText s p.0 p.1 bytes) (ok_is (head.0, cells.0) (h, es) e3) (
      record {
        origin_fits = t0.origin;
        count_fits = subst (λ (n : ℕ). n ≤ MAX_SNAPSHOT_CELLS) (sym t1.many) t0.few;
        cells = All-from_recursion (IsCellOf t) cells.0 t1.each;
        names_ascend = rising_sorted None cells.0 t1.rising;
      },
      record { addition = t0.addition; some = t0.some; wide = t0.wide; count = sym t1.many; text = text },
    )))))
