-- A cell is read exactly where its text is.
use Rattle.std.proofs.Common.{◌≡◌, ℕ, zero, suc, ◌-◌, ◌^◌, ◌<◌, ◌≤◌, Bool, true, false, ◌||◌, not, List, [], ◌∷◌, ◌++◌, length, drop, Result, Ok, refl, sym, ap, subst, ◌∙◌, append_assoc, arith}
use Rattle.std.specs.Prelude.{FitsSigned, nat_lt, ◌==◌}
use Rattle.std.specs.Int.{w8, w16, w64, w128, to_be_bytes}
use mir.Val.{bits}
use Rattle.std.proofs.Math.Nat as nat
use Rattle.std.proofs.Math.Pow.{pow_mono}
use Rattle.std.proofs.lemmas.Bool.{ltb-true, le-ltb, lt-ltb, ne_eqb}
use Rattle.std.proofs.lemmas.List.{length-append, drop_at}
use Rattle.rr_text.specs.declared.limits.TheConstants.{MAX_KEY_TEXT}
use Rattle.rr_schema.specs.Schema.{Layout, IsLayout}
use Rattle.rr_schema.specs.Schema as schema
use Rattle.rr_contrib.specs.declared.contribution.Contribution.{Contribution}
use Rattle.rr_key.specs.Reading.{is_key_text}
use Rattle.std.specs.FinMap.{entries}
use Rattle.std.specs.List.{flat_map}
use Rattle.rr_key.specs.declared.class.Class.TheVariants.{Measurement, Other}
use Rattle.rr_key.specs.Series.{IsKeyText, tag_text}
use Rattle.rr_key.specs.Unit.{escape}
use Rattle.rr_key.proofs.DecisionLemmas.{Decides-is_key_text}
use Rattle.rr_page.specs.declared.fault.PageFault.{PageFault}
use Rattle.rr_page.specs.declared.fault.PageFault.TheVariants.{BadKey, BadArchive, BadContribution}
use Rattle.rr_page.specs.declared.version.Version.{Version}
use Rattle.rr_page.specs.declared.version.Version.TheVariants.{One, Two}
use Rattle.rr_page.specs.Version.{mask_width, HasMasksFor}
use Rattle.rr_cells.specs.CellBounds.{NamedCell, IsCellOf}
use Rattle.rr_page.specs.CellText.{signed_bytes, sums_text, values_text, name_text, cell_text}
use Rattle.rr_page.specs.Laws.{AreBytes, CellsAreTheirText}
use Rattle.rr_text.specs.Results.{◌>>=◌, unless}
use Rattle.rr_page.specs.Reading.{prefix_at, number_at, key_at, archive_at, contribution_at, cell_at}
use Rattle.rr_contrib.specs.Validity.{is_valid}
use Rattle.rr_contrib.proofs.ValidityLemmas.{Decides-is_valid}
use Rattle.rr_page.proofs.NumberLemmas.{IsWide, wide8, wide16, wide64, wide128}
use Rattle.rr_page.proofs.FieldLemmas.{not_false, and_then, bind_ok, unless_ok, ok_is, Takes, Takes-then, prefix_takes, prefix_again, number_takes, number_again, signed_again, with_number, with_signed, with_ok, step}

mask_wide : (v : Version) → IsWide (mask_width v)
mask_wide One = wide64
mask_wide Two = wide128

-- ---- the key

abbrev pub key_field : List ℕ → List ℕ
key_field key = to_be_bytes w16 (length key) ++ key

pub key_takes : (bytes key rest : List ℕ) → AreBytes bytes → key_at bytes ≡ Ok (key, rest)
    → Takes bytes (key_field key) rest × IsKeyText key
unfolding key_at
key_takes bytes key rest fits e =
    let a = bind_ok (number_at w16 bytes) (λ len. unless BadKey ((len.0 == 0) || nat_lt MAX_KEY_TEXT len.0)
    (prefix_at len.0 len.1) >>= λ text. unless BadKey (not (is_key_text text.0)) (Ok text)) (key, rest) e in
    let b = bind_ok (unless BadKey ((a.0.0 == 0) || nat_lt MAX_KEY_TEXT a.0.0) (prefix_at a.0.0 a.0.1))
    (λ text. unless BadKey (not (is_key_text text.0)) (Ok text)) (key, rest) a.2 in
    let g = unless_ok BadKey ((a.0.0 == 0) || nat_lt MAX_KEY_TEXT a.0.0) (prefix_at a.0.0 a.0.1) b.0 b.1 in
    let h = unless_ok BadKey (not (is_key_text b.0.0)) (Ok b.0) (key, rest) b.2 in
    let t0 = number_takes w16 wide16 bytes a.0.0 a.0.1 fits a.1 in
    let t1 = prefix_takes a.0.0 a.0.1 b.0.0 b.0.1 t0.0.rest_fits g.1 in
    let both : Takes bytes (to_be_bytes w16 a.0.0 ++ b.0.0) b.0.1 =
    Takes-then bytes (to_be_bytes w16 a.0.0) a.0.1 b.0.0 b.0.1 t0.0 t1.0 in
    let whole : Takes bytes (key_field b.0.0) b.0.1 =
    subst (λ (n : ℕ). Takes bytes (to_be_bytes w16 n ++ b.0.0) b.0.1) (sym t1.1) both in
    let told : IsKeyText b.0.0 = (Decides-is_key_text b.0.0).0 (not_false (is_key_text b.0.0) h.0) in
    subst (λ (p : List ℕ × List ℕ). Takes bytes (key_field p.0) p.1 × IsKeyText p.0) (ok_is b.0 (key, rest) h.1)
    (whole, told)

-- a key text has a space
pub some_text : (key : List ℕ) → IsKeyText key → (1 ≤ length key) × (length key ≤ MAX_KEY_TEXT)
some_text key k =
    let tags = flat_map tag_text (entries k.series.tags) in
    let name = escape Measurement k.series.measurement in
    let whole = ap length k.whole in
    let a = length-append name (tags ++ 32 ∷ escape Other k.series.field) in
    let b = length-append tags (32 ∷ escape Other k.series.field) in
    let short = k.named.short in
    (omega arith, omega arith)

pub key_again : (key rest : List ℕ) → IsKeyText key → key_at (key_field key ++ rest) ≡ Ok (key, rest)
unfolding key_at
key_again key rest k =
    let len = some_text key k in
    let fits : ((length key == 0) || nat_lt MAX_KEY_TEXT (length key)) ≡ false =
    rw (ne_eqb (length key) 0 (λ e. absurd (omega (arith, e, len.0))), le-ltb MAX_KEY_TEXT (length key) len.1)
    refl in
    ap key_at (append_assoc (to_be_bytes w16 (length key)) key rest)
    ∙ ap (λ (r : Result (ℕ × List ℕ) PageFault). r >>= λ (n : ℕ × List ℕ). unless BadKey
    ((n.0 == 0) || nat_lt MAX_KEY_TEXT n.0) (prefix_at n.0 n.1) >>= λ (text : List ℕ × List ℕ). unless BadKey
    (not (is_key_text text.0)) (Ok text)) (number_again w16 wide16 (length key) (key ++ rest)
    (omega (arith, len.1)))
    ∙ ap (λ (b : Bool). unless BadKey b (prefix_at (length key) (key ++ rest)) >>= λ (text : List ℕ × List ℕ). unless
    BadKey (not (is_key_text text.0)) (Ok text)) fits
    ∙ ap (λ (r : Result (List ℕ × List ℕ) PageFault). r >>= λ (text : List ℕ × List ℕ). unless BadKey
    (not (is_key_text text.0)) (Ok text)) (prefix_again (length key) key rest refl)
    ∙ ap (λ (b : Bool). unless BadKey (not b) (Ok (key, rest))) ((Decides-is_key_text key).1 k)

-- ---- the archive

pub archive_takes : (s : Layout) (bytes : List ℕ) (a : ℕ) (rest : List ℕ) → AreBytes bytes
    → archive_at s bytes ≡ Ok (a, rest) → Takes bytes (a ∷ []) rest × (a < length s.archives)
unfolding archive_at
archive_takes s bytes a rest fits e =
    let b = bind_ok (number_at w8 bytes) (λ archive. unless BadArchive (not (nat_lt archive.0 (length s.archives)))
    (Ok archive)) (a, rest) e in
    let g = unless_ok BadArchive (not (nat_lt b.0.0 (length s.archives))) (Ok b.0) (a, rest) b.2 in
    let t = number_takes w8 wide8 bytes b.0.0 b.0.1 fits b.1 in
    let one : to_be_bytes w8 b.0.0 ≡ b.0.0 ∷ [] = ap (λ (n : ℕ). n ∷ []) (nat.mod-eq_of_lt t.1) in
    subst (λ (p : ℕ × List ℕ). Takes bytes (p.0 ∷ []) p.1 × (p.0 < length s.archives)) (ok_is b.0 (a, rest) g.1) (
      subst (λ (x : List ℕ). Takes bytes x b.0.1) one t.0,
      ltb-true _ _ (not_false (nat_lt b.0.0 (length s.archives)) g.0),
    )

pub archive_again : (s : Layout) (a : ℕ) (rest : List ℕ) → a < length s.archives → a < 256
    → archive_at s (a ∷ rest) ≡ Ok (a, rest)
unfolding archive_at
archive_again s a rest within low =
    ap (λ (n : ℕ). archive_at s (n ∷ rest)) (sym (nat.mod-eq_of_lt low))
    ∙ ap (λ (r : Result (ℕ × List ℕ) PageFault). r >>= λ (archive : ℕ × List ℕ). unless BadArchive
    (not (nat_lt archive.0 (length s.archives))) (Ok archive)) (number_again w8 wide8 a rest low)
    ∙ ap (λ (b : Bool). unless BadArchive (not b) (Ok (a, rest))) (lt-ltb a (length s.archives) within)

-- ---- the contribution

pub record AreFields (v : Version) (c : Contribution) : Type 0 where
  pub version : c.version < 2 ^ 64
  pub count : c.count < 2 ^ 64
  pub sum : FitsSigned w128 c.sum
  pub min : FitsSigned w64 c.min
  pub max : FitsSigned w64 c.max
  pub last_time : FitsSigned w64 c.last_time
  pub last_value : FitsSigned w64 c.last_value
  pub mask : c.mask < 2 ^ bits (mask_width v)

pub contribution_takes : (v : Version) (bytes : List ℕ) (c : Contribution) (rest : List ℕ) → AreBytes bytes
    → contribution_at v bytes ≡ Ok (c, rest) → Takes bytes (sums_text c ++ values_text v c) rest × AreFields v c
unfolding contribution_at sums_text values_text
contribution_takes v bytes c rest fits e =
    with_number w64 wide64 bytes _ (c, rest) fits e (λ version r0 t0 l0 e0.
    with_number w64 wide64 r0 _ (c, rest) t0.rest_fits e0 (λ count r1 t1 l1 e1.
    with_signed w128 wide128 r1 _ (c, rest) t1.rest_fits e1 (λ sum r2 t2 l2 e2.
    with_signed w64 wide64 r2 _ (c, rest) t2.rest_fits e2 (λ min r3 t3 l3 e3.
    with_signed w64 wide64 r3 _ (c, rest) t3.rest_fits e3 (λ max r4 t4 l4 e4.
    with_signed w64 wide64 r4 _ (c, rest) t4.rest_fits e4 (λ last_time r5 t5 l5 e5.
    with_signed w64 wide64 r5 _ (c, rest) t5.rest_fits e5 (λ last_value r6 t6 l6 e6.
    with_number (mask_width v) (mask_wide v) r6 _ (c, rest) t6.rest_fits e6 (λ mask r7 t7 l7 e7.
    let whole = and_then (and_then t0 (and_then t1 t2)) (and_then t3 (and_then t4 (and_then t5 (and_then t6 t7)))) in
    subst (λ (p : Contribution × List ℕ). Takes bytes (sums_text p.0 ++ values_text v p.0) p.1 × AreFields v p.0)
    (ok_is (
      record {
        version = version;
        count = count;
        sum = sum;
        min = min;
        max = max;
        last_time =
            last_time;
        last_value = last_value;
        mask = mask;
      },
      r7,
    ) (c, rest) e7) (
      whole,
      record {
        version = l0;
        count = l1;
        sum = l2;
        min = l3;
        max = l4;
        last_time = l5;
        last_value = l6;
        mask =
            l7;
      },
    )))))))))

contribution_again : (v : Version) (c : Contribution) (rest : List ℕ) → AreFields v c
    → contribution_at v ((sums_text c ++ values_text v c) ++ rest) ≡ Ok (c, rest)
unfolding contribution_at sums_text values_text
contribution_again v c rest fits =
    let r7 = to_be_bytes (mask_width v) c.mask ++ rest in
    let r6 = signed_bytes w64 c.last_value ++ r7 in
    let r5 = signed_bytes w64 c.last_time ++ r6 in
    let r4 = signed_bytes w64 c.max ++ r5 in
    let r3 = signed_bytes w64 c.min ++ r4 in
    let r2 = signed_bytes w128 c.sum ++ r3 in
    let r1 = to_be_bytes w64 c.count ++ r2 in
    step _ (number_again w64 wide64 c.version r1 fits.version)
    ∙ step _ (number_again w64 wide64 c.count r2 fits.count)
    ∙ step _ (signed_again w128 wide128 c.sum r3 fits.sum)
    ∙ step _ (signed_again w64 wide64 c.min r4 fits.min)
    ∙ step _ (signed_again w64 wide64 c.max r5 fits.max)
    ∙ step _ (signed_again w64 wide64 c.last_time r6 fits.last_time)
    ∙ step _ (signed_again w64 wide64 c.last_value r7 fits.last_value)
    ∙ step _ (number_again (mask_width v) (mask_wide v) c.mask rest fits.mask)

-- ---- the cell

pub either_false : (a b : Bool) → (a || b) ≡ false → (a ≡ false) × (b ≡ false)
either_false true b e = absurd cc
either_false false b e = (refl, e)

abbrev cell_text_of : Version → NamedCell → List ℕ
cell_text_of v e = key_field e.0.key ++ ((e.0.archive ∷ [])
    ++ (signed_bytes w64 e.0.slot ++ (to_be_bytes w16 e.0.origin ++ (sums_text e.1 ++ values_text v e.1))))

six : (k a s o x y : List ℕ) → k ++ (a ++ (s ++ (o ++ (x ++ y)))) ≡ ((((k ++ a) ++ s) ++ o) ++ x) ++ y
six k a s o x y = simp append_assoc

regrouped : (v : Version) (e : NamedCell) → cell_text_of v e ≡ cell_text v e
unfolding cell_text name_text
regrouped v e = six (key_field e.0.key) (e.0.archive ∷ []) (signed_bytes w64 e.0.slot) (to_be_bytes w16 e.0.origin)
    (sums_text e.1) (values_text v e.1)

pub cell_takes : (v : Version) (s : Layout) (bytes : List ℕ) (e : NamedCell) (rest : List ℕ) → AreBytes bytes
    → cell_at v s bytes ≡ Ok (e, rest) → Takes bytes (cell_text v e) rest × IsCellOf s e
unfolding cell_at
cell_takes v s bytes e rest fits is =
    with_ok (key_at bytes) _ (e, rest) is (λ key i0 e0.
    let t0 = key_takes bytes key.0 key.1 fits i0 in
    with_ok (archive_at s key.1) _ (e, rest) e0 (λ archive i1 e1.
    let t1 = archive_takes s key.1 archive.0 archive.1 t0.0.rest_fits i1 in
    with_signed w64 wide64 archive.1 _ (e, rest) t1.0.rest_fits e1 (λ slot r2 t2 l2 e2.
    with_number w16 wide16 r2 _ (e, rest) t2.rest_fits e2 (λ origin r3 t3 l3 e3.
    with_ok (contribution_at v r3) _ (e, rest) e3 (λ c i4 e4.
    let t4 = contribution_takes v r3 c.0 c.1 t3.rest_fits i4 in
    let g = unless_ok BadContribution ((origin == 0) || not (is_valid s archive.0 slot c.0))
    (Ok ((record { key = key.0; archive = archive.0; slot = slot; origin = origin }, c.0), c.1)) (e, rest) e4 in
    let h = either_false (origin == 0) (not (is_valid s archive.0 slot c.0)) g.0 in
    let some : 1 ≤ origin = some_origin origin h.0 in
    let valid = (Decides-is_valid s archive.0 slot c.0).0 (not_false (is_valid s archive.0 slot c.0) h.1) in
    let whole = and_then t0.0 (and_then t1.0 (and_then t2 (and_then t3 t4.0))) in
    subst (λ (p : NamedCell × List ℕ). Takes bytes (cell_text v p.0) p.1 × IsCellOf s p.0)
    (ok_is ((record { key = key.0; archive = archive.0; slot = slot; origin = origin }, c.0), c.1) (e, rest) g.1) (
      subst (λ (x : List ℕ). Takes bytes x c.1) (regrouped v
          (record { key = key.0; archive = archive.0; slot = slot; origin = origin }, c.0)) whole,
      record {
        key = t0.1;
        archive = t1.1;
        origin = record { at_least = some; at_most = omega (arith, l3) };
        valid = valid;
        slot_fits = l2;
        sum_fits = t4.1.sum;
        min_fits = t4.1.min;
        max_fits = t4.1.max;
        last_time_fits = t4.1.last_time;
        last_value_fits = t4.1.last_value;
      },
    ))))))
  where
    some_origin : (n : ℕ) → (n == 0) ≡ false → 1 ≤ n
    some_origin zero d = absurd cc
    some_origin (suc n) d = omega arith

fields_fit : (v : Version) (s : Layout) (e : NamedCell) → HasMasksFor v s → IsCellOf s e → AreFields v e.1
fields_fit v s e room is =
    let steps : (schema.archive_at s e.0.archive).steps ≤ bits (mask_width v) = room e.0.archive _ is.archive in
    let most = pow_mono steps in
    let c = is.valid.bounded.counted in
    let n = is.valid.bounded.numbered in
    let m = is.valid.in_steps in
    record {
      version = omega arith;
      count = omega arith;
      sum = is.sum_fits;
      min = is.min_fits;
      max =
          is.max_fits;
      last_time = is.last_time_fits;
      last_value = is.last_value_fits;
      mask = omega arith;
    }

pub cell_again : (v : Version) (s : Layout) (e : NamedCell) (rest : List ℕ) → IsLayout s → HasMasksFor v s
    → IsCellOf s e → cell_at v s (cell_text v e ++ rest) ≡ Ok (e, rest)
unfolding cell_at
cell_again v s e rest layout room is =
    let after = (sums_text e.1 ++ values_text v e.1) ++ rest in
    let r2 = to_be_bytes w16 e.0.origin ++ after in
    let r1 = signed_bytes w64 e.0.slot ++ r2 in
    let few = layout.few_archives in
    let low : e.0.archive < 256 = omega (arith, is.archive) in
    let some : (e.0.origin == 0) ≡ false = ne_eqb e.0.origin 0 (λ z. absurd (omega (arith, z, is.origin.at_least))) in
    let parted : cell_text v e ++ rest ≡ key_field e.0.key ++ (e.0.archive ∷ r1) =
    ap (λ (l : List ℕ). l ++ rest) (sym (regrouped v e))
    ∙ ap (λ (l : List ℕ). to_be_bytes w16 (length e.0.key) ++ l)
    (append_assoc e.0.key (e.0.archive ∷ (signed_bytes w64 e.0.slot
    ++ (to_be_bytes w16 e.0.origin ++ (sums_text e.1 ++ values_text v e.1)))) rest) in
    ap (cell_at v s) parted
    ∙ step _ (key_again e.0.key (e.0.archive ∷ r1) is.key)
    ∙ step _ (archive_again s e.0.archive r1 is.archive low)
    ∙ step _ (signed_again w64 wide64 e.0.slot r2 is.slot_fits)
    ∙ step _ (number_again w16 wide16 e.0.origin after (omega (arith, is.origin.at_most)))
    ∙ step _ (contribution_again v e.1 rest (fields_fit v s e room is))
    ∙ (λ i. unless BadContribution (some i || not ((Decides-is_valid s e.0.archive e.0.slot e.1).1 is.valid i))
    (Ok (e, rest)))

pub cells_are_their_text : CellsAreTheirText
cells_are_their_text v s bytes e rest layout room fits = (
  (λ is. let t = cell_takes v s bytes e rest fits is in (t.1, t.0.parts)),
  (λ p. ap (cell_at v s) p.1 ∙ cell_again v s e rest layout room p.0),
)

-- what follows a text, by how many bytes there are
rest_is : (bytes text rest : List ℕ) → bytes ≡ text ++ rest → drop (length bytes - length rest) bytes ≡ rest
rest_is bytes text rest e =
    let n : length bytes - length rest ≡ length text = omega (arith, ap length e, length-append text rest) in
    ap (λ (k : ℕ). drop k bytes) n ∙ ap (drop (length text)) e ∙ drop_at text rest (length text) refl

-- a cell that was read, by how many bytes are left
module _ (v : Version) (s : Layout) (bytes : List ℕ) (e : NamedCell) (rest : List ℕ) (fits : AreBytes bytes)
    (is : cell_at v s bytes ≡ Ok (e, rest)) where
  parts : bytes ≡ cell_text v e ++ rest
  parts = (cell_takes v s bytes e rest fits is).0.parts

  left : rest ≡ drop (length bytes - length rest) bytes
  left = sym (rest_is bytes (cell_text v e) rest parts)

  pub rest_fits : length rest ≤ length bytes
  rest_fits = omega (arith, ap length parts, length-append (cell_text v e) rest)

  pub len_read : length bytes - length rest ≡ length (cell_text v e)
  len_read = omega (arith, ap length parts, length-append (cell_text v e) rest)

  pub rest_read : cell_at v s bytes ≡ Ok (e, drop (length bytes - length rest) bytes)
  rest_read = is ∙ ap (λ (l : List ℕ). Ok (e, l)) left

  pub text_read : bytes ≡ cell_text v e ++ drop (length bytes - length rest) bytes
  text_read = parts ∙ ap (λ (l : List ℕ). cell_text v e ++ l) left

  pub cell_bounded : IsCellOf s e
  cell_bounded = (cell_takes v s bytes e rest fits is).1
