-- The order of samples is total, and only equal ones tie.
use Rattle.std.proofs.Common.{◌≡◌}
use Rattle.std.specs.Ordering.{nat_cmp, int_cmp}
use Rattle.std.specs.Cmp.{IsTotalOrder, nat_cmp_total, int_cmp_total, then_total, on_total}
use Rattle.std.specs.FinMap.{IsAntisymmetric, nat_cmp-IsAntisymmetric, int_cmp-IsAntisymmetric}
use Rattle.rr_contrib.specs.Samples.{sample_cmp}
use Rattle.rr_join.proofs.Orders.{first_Equal, then_Equal}

pub sample_cmp_total : IsTotalOrder sample_cmp
sample_cmp_total =
    then_total (on_total (λ x. x.time) int_cmp_total)
    (then_total (on_total (λ x. x.number) nat_cmp_total)
    (then_total (on_total (λ x. x.place) nat_cmp_total) (on_total (λ x. x.value) int_cmp_total)))

pub sample_cmp-IsAntisymmetric : IsAntisymmetric sample_cmp
sample_cmp-IsAntisymmetric a b e =
    let e1 = then_Equal (int_cmp a.time b.time) _ e in
    let e2 = then_Equal (nat_cmp a.number b.number) _ e1 in
    let time : a.time ≡ b.time = int_cmp-IsAntisymmetric a.time b.time (first_Equal _ _ e) in
    let number : a.number ≡ b.number = nat_cmp-IsAntisymmetric a.number b.number (first_Equal _ _ e1) in
    let place : a.place ≡ b.place = nat_cmp-IsAntisymmetric a.place b.place (first_Equal _ _ e2) in
    let value : a.value ≡ b.value = int_cmp-IsAntisymmetric a.value b.value
    (then_Equal (nat_cmp a.place b.place) _ e2) in
    λ j. record { number = number j; place = place j; time = time j; value = value j }
