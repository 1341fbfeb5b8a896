-- A cell slot is live beside others exactly where none of them puts it past the horizon.
use Rattle.std.proofs.Common.{◌≡◌, arith, ℕ, ◌<◌, ℤ, pos, ◌-ℤ◌, Bool, true, false, not, ◌&&◌, List, [], ◌∷◌, refl, sym, ap, ◌∙◌, Option, Some, None}
use Rattle.std.specs.Prelude.{int_lt}
use Rattle.std.specs.List.{list_all}
use Rattle.std.specs.Ordering.{int_cmp, ord_max}
use Rattle.std.proofs.Math.Bool.{and-true}
use Rattle.std.proofs.lemmas.Bool.{not-true}
use Rattle.std.proofs.lemmas.Int.{ints}
use Rattle.rr_join.specs.Maps.{greater, IsHorizon}
use Rattle.rr_join.specs.Horizon.{is_above}
use Rattle.rr_archive.specs.CellSlots.{CellSlot, newest_of, is_live_at}

above_both : (x y slot : ℤ) (rows : ℕ) → int_lt (ord_max int_cmp x y -ℤ pos rows) slot
    ≡ (int_lt (x -ℤ pos rows) slot && int_lt (y -ℤ pos rows) slot)
above_both x y slot rows = grind (arith, ints)

is_above-greater : (rows : ℕ) (x y : Option ℤ) (slot : ℤ)
    → is_above rows (greater int_cmp x y) slot ≡ (is_above rows x slot && is_above rows y slot)
is_above-greater rows None y slot = refl
is_above-greater rows (Some x) None slot = sym (and-true (int_lt (x -ℤ pos rows) slot))
is_above-greater rows (Some x) (Some y) slot = above_both x y slot rows

above_itself : (slot : ℤ) (rows : ℕ) → 0 < rows → int_lt (slot -ℤ pos rows) slot ≡ true
above_itself slot rows h = grind (arith, ints)

past_further : (l m n : ℤ) (rows : ℕ) → int_lt (l -ℤ pos rows) m ≡ false → int_lt (m -ℤ pos rows) n ≡ false
    → int_lt (l -ℤ pos rows) n ≡ false
past_further l m n rows p q = grind (arith, ints)

-- q is so far ahead that p is past the horizon
abbrev pub is_past_at : ℕ → CellSlot → CellSlot → Bool
is_past_at rows q p = not (int_lt (q.slot -ℤ pos rows) p.slot)

not_not : (a : Bool) → a ≡ not (not a)
not_not true = refl
not_not false = refl

live_says : (rows : ℕ) (ps : List CellSlot) (p : CellSlot)
    → is_live_at rows ps p ≡ list_all (λ q. not (is_past_at rows q p)) ps
live_says rows [] p = refl
live_says rows (q ∷ ps) p =
    is_above-greater rows (Some q.slot) (newest_of ps) p.slot
    ∙ (λ i. not_not (int_lt (q.slot -ℤ pos rows) p.slot) i && live_says rows ps p i)

pub live_at_horizon : (rows : ℕ) → 0 < rows → IsHorizon (is_live_at rows) (is_past_at rows)
live_at_horizon rows some = record {
  says = live_says rows;
  itself = λ p. ap not (above_itself p.slot rows some);
  further = λ l m n p q. ap not (past_further l.slot m.slot n.slot rows (not-true _ p) (not-true _ q));
}
