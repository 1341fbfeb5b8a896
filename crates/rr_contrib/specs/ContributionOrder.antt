-- The order of contributions is total, and only equal ones tie.
use Rattle.std.proofs.Common.{◌≡◌}
use Rattle.std.specs.Ordering.{nat_cmp, int_cmp}
use Rattle.std.specs.Cmp.{IsTotalOrder, nat_cmp_total, int_cmp_total, then_total, on_total}
use Rattle.std.specs.FinMap.{IsAntisymmetric, nat_cmp-IsAntisymmetric, int_cmp-IsAntisymmetric}
use Rattle.rr_join.proofs.Orders.{first_Equal, then_Equal}
use Rattle.rr_contrib.specs.Contributions.{contribution_cmp}

pub contribution_cmp_total : IsTotalOrder contribution_cmp
contribution_cmp_total =
    then_total (on_total (λ c. c.version) nat_cmp_total)
    (then_total (on_total (λ c. c.count) nat_cmp_total)
    (then_total (on_total (λ c. c.sum) int_cmp_total)
    (then_total (on_total (λ c. c.min) int_cmp_total)
    (then_total (on_total (λ c. c.max) int_cmp_total)
    (then_total (on_total (λ c. c.last_time) int_cmp_total)
    (then_total (on_total (λ c. c.last_value) int_cmp_total) (on_total (λ c. c.mask) nat_cmp_total)))))))

pub contribution_cmp-IsAntisymmetric : IsAntisymmetric contribution_cmp
contribution_cmp-IsAntisymmetric a b e =
    let e1 = then_Equal (nat_cmp a.version b.version) _ e in
    let e2 = then_Equal (nat_cmp a.count b.count) _ e1 in
    let e3 = then_Equal (int_cmp a.sum b.sum) _ e2 in
    let e4 = then_Equal (int_cmp a.min b.min) _ e3 in
    let e5 = then_Equal (int_cmp a.max b.max) _ e4 in
    let e6 = then_Equal (int_cmp a.last_time b.last_time) _ e5 in
    let version : a.version ≡ b.version = nat_cmp-IsAntisymmetric a.version b.version (first_Equal _ _ e) in
    let count : a.count ≡ b.count = nat_cmp-IsAntisymmetric a.count b.count (first_Equal _ _ e1) in
    let sum : a.sum ≡ b.sum = int_cmp-IsAntisymmetric a.sum b.sum (first_Equal _ _ e2) in
    let least : a.min ≡ b.min = int_cmp-IsAntisymmetric a.min b.min (first_Equal _ _ e3) in
    let most : a.max ≡ b.max = int_cmp-IsAntisymmetric a.max b.max (first_Equal _ _ e4) in
    let time : a.last_time ≡ b.last_time = int_cmp-IsAntisymmetric a.last_time b.last_time (first_Equal _ _ e5) in
    let value : a.last_value ≡ b.last_value = int_cmp-IsAntisymmetric a.last_value b.last_value (first_Equal _ _ e6) in
    let mask : a.mask ≡ b.mask = nat_cmp-IsAntisymmetric a.mask b.mask
    (then_Equal (int_cmp a.last_value b.last_value) _ e6) in
    λ j. record {
      version = version j;
      count = count j;
      sum = sum j;
      min = least j;
      max = most j;
      last_time = time j;
      last_value = value j;
      mask = mask j;
    }
