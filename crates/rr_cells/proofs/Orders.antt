-- The orders of cell names, marks and sample ids are total, and only equal ones tie.
use Rattle.std.proofs.Common.{◌≡◌}
use Rattle.std.specs.Ordering.{nat_cmp, int_cmp}
use Rattle.std.specs.Cmp.{IsTotalOrder, nat_cmp_total, int_cmp_total, then_total, on_total}
use Rattle.std.specs.Cmp.Lexicographic.{slice_cmp, nat_list_cmp_total}
use Rattle.std.specs.FinMap.{IsAntisymmetric, nat_cmp-IsAntisymmetric, int_cmp-IsAntisymmetric, slice_cmp-IsAntisymmetric}
use Rattle.rr_join.proofs.Orders.{first_Equal, then_Equal}
use Rattle.rr_cells.specs.CellNames.{cell_name_cmp}
use Rattle.rr_cells.specs.Samples.{mark_cmp}
use Rattle.rr_cells.specs.World.{id_cmp}

pub cell_name_cmp_total : IsTotalOrder cell_name_cmp
cell_name_cmp_total =
    then_total (on_total (λ n. n.key) nat_list_cmp_total)
    (then_total (on_total (λ n. n.archive) nat_cmp_total)
    (then_total (on_total (λ n. n.slot) int_cmp_total) (on_total (λ n. n.origin) nat_cmp_total)))

pub cell_name_cmp-IsAntisymmetric : IsAntisymmetric cell_name_cmp
cell_name_cmp-IsAntisymmetric a b e =
    let e1 = then_Equal (slice_cmp nat_cmp a.key b.key) _ e in
    let e2 = then_Equal (nat_cmp a.archive b.archive) _ e1 in
    let k : a.key ≡ b.key = slice_cmp-IsAntisymmetric nat_cmp-IsAntisymmetric a.key b.key (first_Equal _ _ e) in
    let i : a.archive ≡ b.archive = nat_cmp-IsAntisymmetric a.archive b.archive (first_Equal _ _ e1) in
    let t : a.slot ≡ b.slot = int_cmp-IsAntisymmetric a.slot b.slot (first_Equal _ _ e2) in
    let o : a.origin ≡ b.origin = nat_cmp-IsAntisymmetric a.origin b.origin (then_Equal (int_cmp a.slot b.slot) _ e2) in
    λ j. record { key = k j; archive = i j; slot = t j; origin = o j }

pub mark_cmp_total : IsTotalOrder mark_cmp
mark_cmp_total =
    then_total (on_total (λ m. m.time) int_cmp_total)
    (then_total (on_total (λ m. m.origin) nat_cmp_total)
    (then_total (on_total (λ m. m.number) nat_cmp_total)
    (then_total (on_total (λ m. m.archive) nat_cmp_total)
    (then_total (on_total (λ m. m.key) nat_list_cmp_total) (on_total (λ m. m.value) int_cmp_total)))))

pub mark_cmp-IsAntisymmetric : IsAntisymmetric mark_cmp
mark_cmp-IsAntisymmetric a b e =
    let e1 = then_Equal (int_cmp a.time b.time) _ e in
    let e2 = then_Equal (nat_cmp a.origin b.origin) _ e1 in
    let e3 = then_Equal (nat_cmp a.number b.number) _ e2 in
    let e4 = then_Equal (nat_cmp a.archive b.archive) _ e3 in
    let t : a.time ≡ b.time = int_cmp-IsAntisymmetric a.time b.time (first_Equal _ _ e) in
    let o : a.origin ≡ b.origin = nat_cmp-IsAntisymmetric a.origin b.origin (first_Equal _ _ e1) in
    let n : a.number ≡ b.number = nat_cmp-IsAntisymmetric a.number b.number (first_Equal _ _ e2) in
    let i : a.archive ≡ b.archive = nat_cmp-IsAntisymmetric a.archive b.archive (first_Equal _ _ e3) in
    let k : a.key ≡ b.key = slice_cmp-IsAntisymmetric nat_cmp-IsAntisymmetric a.key b.key (first_Equal _ _ e4) in
    let v : a.value ≡ b.value = int_cmp-IsAntisymmetric a.value b.value
    (then_Equal (slice_cmp nat_cmp a.key b.key) _ e4) in
    λ j. record { sample = record { time = t j; origin = o j; number = n j; key = k j; value = v j }; archive = i j }

pub id_cmp_total : IsTotalOrder id_cmp
id_cmp_total = then_total (on_total (λ n. n.0) nat_cmp_total) (on_total (λ n. n.1) nat_cmp_total)

pub id_cmp-IsAntisymmetric : IsAntisymmetric id_cmp
id_cmp-IsAntisymmetric a b e =
    let o : a.0 ≡ b.0 = nat_cmp-IsAntisymmetric a.0 b.0 (first_Equal _ _ e) in
    let n : a.1 ≡ b.1 = nat_cmp-IsAntisymmetric a.1 b.1 (then_Equal (nat_cmp a.0 b.0) _ e) in
    λ j. (o j, n j)
