-- The order of cell slots is total, and only equal ones tie.
use Rattle.std.proofs.Common.{◌≡◌}
use Rattle.std.specs.Ordering.{int_cmp}
use Rattle.std.specs.Cmp.{IsTotalOrder, nat_cmp_total, int_cmp_total, then_total, on_total}
use Rattle.std.specs.FinMap.{IsAntisymmetric, nat_cmp-IsAntisymmetric, int_cmp-IsAntisymmetric}
use Rattle.rr_join.proofs.Orders.{first_Equal, then_Equal}
use Rattle.rr_archive.specs.CellSlots.{cell_slot_cmp}

pub cell_slot_cmp_total : IsTotalOrder cell_slot_cmp
cell_slot_cmp_total = then_total (on_total (λ p. p.slot) int_cmp_total) (on_total (λ p. p.origin) nat_cmp_total)

pub cell_slot_cmp-IsAntisymmetric : IsAntisymmetric cell_slot_cmp
cell_slot_cmp-IsAntisymmetric a b e =
    let slot : a.slot ≡ b.slot = int_cmp-IsAntisymmetric a.slot b.slot (first_Equal _ _ e) in
    let origin : a.origin ≡ b.origin = nat_cmp-IsAntisymmetric a.origin b.origin
    (then_Equal (int_cmp a.slot b.slot) _ e) in
    λ j. record { slot = slot j; origin = origin j }
