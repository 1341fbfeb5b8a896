use Rattle.std.proofs.Common.{rules, ◌≡◌, false, refl, [], ◌++◌, ap, sym, subst}
use Rattle.std.specs.List.Sorted.{IsStrictlySortedBy}
use Rattle.std.specs.Map.{keys_of}
use Rattle.std.specs.Ordering.{int_cmp}
use Rattle.rr_packed.specs.Slots.{begins_before}
use Rattle.rr_packed.proofs.blocks.Blocks.new.Goals as goal

pub invariant_of-result : goal.invariant_of-result
unfolding IsStrictlySortedBy
invariant_of-result c =
    let none : c.new.result.items ≡ [] = search rules in
    record {
      ordered = subst (λ es. IsStrictlySortedBy int_cmp (keys_of (es ++ []))) (sym none) tt;
      none_before =
          subst (λ es. begins_before _ (keys_of (es ++ [])) ≡ false) (sym none) refl;
    }

pub returns : goal.returns
returns c =
    let none : c.new.result.items ≡ [] = search rules in
    ap (λ es. es ++ []) none
