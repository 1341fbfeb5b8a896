-- A name is live beside others exactly where none of them puts it past the horizon.
use Rattle.std.proofs.Common.{◌≡◌, ℕ, ◌≤◌, ℤ, pos, ◌-ℤ◌, Bool, true, false, cond, not, ◌&&◌, List, [], ◌∷◌, map, refl, sym, ap, ◌∙◌, subst, arith, Option, Some, None, length, ⊎_elim}
use Rattle.std.specs.Prelude.{int_lt, nat_eq, ◌==◌}
use Rattle.std.specs.List.{list_all, filter}
use Rattle.std.specs.Ordering.{int_cmp, int_eq, ord_max}
use Rattle.std.specs.Cmp.Lexicographic.{pointwise, bytes_decides}
use Rattle.std.specs.FinMap.{int_cmp-IsAntisymmetric}
use Rattle.std.proofs.Math.Bool.{and-true}
use Rattle.std.proofs.lemmas.List.{get_or_past}
use Rattle.std.proofs.lemmas.Bool.{eqb-true, cases_lt, and_from, and_right, not-true}
use Rattle.std.proofs.lemmas.Int.{ints}
use Rattle.rr_schema.specs.declared.archive.ArchiveSpec.{ArchiveSpec}
use Rattle.rr_schema.specs.Schema.{Layout, IsArchive, IsLayout, archive_at}
use Rattle.rr_join.specs.Maps.{greatest, greater, IsHorizon}
use Rattle.rr_join.proofs.Booleans.{and_first, and_second}
use Rattle.rr_join.proofs.Members.{Equal_from_is_eq}
use Rattle.rr_join.specs.Horizon.{is_above}
use Rattle.rr_cells.specs.CellNames.{CellName, is_of, newest, is_live}
use Rattle.rr_cells.specs.Rows.{is_at}

-- ---- names of one archive of a key, and of one slot in it

pub is_of_says : (key : List ℕ) (archive : ℕ) (n : CellName) → is_of key archive n ≡ true
    → (n.key ≡ key) × (n.archive ≡ archive)
is_of_says key archive n e = (
  (bytes_decides n.key key).0
      (and_first (pointwise nat_eq n.key key) (n.archive == archive) e),
  eqb-true n.archive archive (and_second (pointwise nat_eq n.key key) (n.archive == archive) e),
)

pub is_at_says : (key : List ℕ) (archive : ℕ) (slot : ℤ) (n : CellName) → is_at key archive slot n ≡ true
    → (n.key ≡ key) × (n.archive ≡ archive) × (n.slot ≡ slot)
is_at_says key archive slot n e =
    let of = is_of_says key archive n (and_first (is_of key archive n) (int_eq n.slot slot) e) in (
      of.0,
      of.1,
      int_cmp-IsAntisymmetric n.slot slot
          (Equal_from_is_eq (int_cmp n.slot slot) (and_second (is_of key archive n) (int_eq n.slot slot) e)),
    )

-- ---- slots above a horizon

above_both : (x y slot : ℤ) (rows : ℕ) → int_lt (ord_max int_cmp x y -ℤ pos rows) slot
    ≡ (int_lt (x -ℤ pos rows) slot && int_lt (y -ℤ pos rows) slot)
above_both x y slot rows = grind (arith, ints)

pub is_above-greater : (rows : ℕ) (x y : Option ℤ) (slot : ℤ)
    → is_above rows (greater int_cmp x y) slot ≡ (is_above rows x slot && is_above rows y slot)
is_above-greater rows None y slot = refl
is_above-greater rows (Some x) None slot = sym (and-true (int_lt (x -ℤ pos rows) slot))
is_above-greater rows (Some x) (Some y) slot = above_both x y slot rows

pub above_itself : (slot : ℤ) (rows : ℕ) → 1 ≤ rows → int_lt (slot -ℤ pos rows) slot ≡ true
above_itself slot rows h = grind (arith, ints)

past_further : (l m n : ℤ) (rows : ℕ) → int_lt (l -ℤ pos rows) m ≡ false → int_lt (m -ℤ pos rows) n ≡ false
    → int_lt (l -ℤ pos rows) n ≡ false
past_further l m n rows p q = grind (arith, ints)

-- each archive is within the limits, also the one that stands for those past the last
pub archive_is : (s : Layout) → IsLayout s → (i : ℕ) → IsArchive (archive_at s i)
archive_is s is i =
    let past : ArchiveSpec = record { steps = 1; rows = 1; num = 0; den = 1 } in
    let kept : IsArchive past = record {
      some_step = omega arith;
      few_steps = omega arith;
      some_row =
          omega arith;
      few_rows = omega arith;
      fraction = omega arith;
      fine = omega arith;
    } in
    ⊎_elim (is.each i past) (λ h. subst IsArchive (sym (get_or_past s.archives i past h)) kept)
    (cases_lt i (length s.archives))

-- ---- the horizon of names

-- m is of the same archive of the same key as n, and so far ahead that n is past the horizon
abbrev pub is_past : Layout → CellName → CellName → Bool
is_past s m n = is_of n.key n.archive m && not (int_lt (m.slot -ℤ pos (archive_at s n.archive).rows) n.slot)

not_not : (a : Bool) → a ≡ not (not a)
not_not true = refl
not_not false = refl

live_says : (s : Layout) (ns : List CellName) (n : CellName) → is_live s ns n ≡ list_all (λ m. not (is_past s m n)) ns
unfolding newest
live_says s [] n = refl
live_says s (m ∷ ns) n =
    let rows = (archive_at s n.archive).rows in
    let kept = filter (is_of n.key n.archive) ns in
    let rest = list_all (λ k. not (is_past s k n)) ns in
    elim (is_of n.key n.archive m) as (λ b. is_above rows
    (greatest int_cmp (map (λ k. k.slot) (cond b (m ∷ kept) kept))) n.slot
    ≡ (not (b && not (int_lt (m.slot -ℤ pos rows) n.slot)) && rest)) [
      | true ↦ is_above-greater rows (Some m.slot) (greatest int_cmp (map (λ k. k.slot) kept)) n.slot
          ∙ (λ i. not_not (int_lt (m.slot -ℤ pos rows) n.slot) i && live_says s ns n i)
      | false ↦ live_says s ns n
    ]

past_further_on : (s : Layout) (l m n : CellName) → is_past s l m ≡ true → is_past s m n ≡ true → is_past s l n ≡ true
past_further_on s l m n p q =
    let same = is_of_says n.key n.archive m (and_first (is_of n.key n.archive m) _ q) in
    let ahead : int_lt (l.slot -ℤ pos (archive_at s n.archive).rows) m.slot ≡ false =
    subst (λ i. int_lt (l.slot -ℤ pos (archive_at s i).rows) m.slot ≡ false) same.1
    (not-true _ (and_second (is_of m.key m.archive l) _ p)) in
    and_from (is_of n.key n.archive l) _
    (subst (λ i. is_of n.key i l ≡ true) same.1 (subst (λ k. is_of k m.archive l ≡ true) same.0
    (and_first (is_of m.key m.archive l) _ p)))
    (ap not (past_further l.slot m.slot n.slot (archive_at s n.archive).rows ahead
    (not-true _ (and_second (is_of n.key n.archive m) _ q))))

pub live_horizon : (s : Layout) → IsLayout s → IsHorizon (is_live s) (is_past s)
live_horizon s is = record {
  says = live_says s;
  itself = λ n. and_right (is_of n.key n.archive n) _
      (ap not (above_itself n.slot (archive_at s n.archive).rows (archive_is s is n.archive).some_row));
  further = past_further_on s;
}
