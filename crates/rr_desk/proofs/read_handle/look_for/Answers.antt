use Rattle.std.proofs.Common.{rules, ◌≡◌, List, sym, ap, ◌∙◌, subst}
use mathlib.Core.List.{IsPrefix}
use Rattle.left_right.specs.Sides.{view}
use Rattle.rr_cells.specs.declared.op.Op.{Op}
use Rattle.rr_desk.specs.Editions.{flat}
use Rattle.rr_desk.proofs.EditionsLemmas.{flat-prefix}
use Rattle.rr_desk.proofs.RuleLemmas.{sees}
use Rattle.rr_desk.proofs.read_handle.look_for.Goals as goal

pub enter_as-requires : goal.enter_as-requires
enter_as-requires g c x = sees _ _ _

pub returns-then-newer : goal.returns-then-newer
returns-then-newer g c =
    let x = c.in-Ok.guard.part.value in
    let book : flat x.prefix.editions ≡ (view c.in-Ok.guard.place).seen = search rules in
    let left : view c.leave-inner.result.place ≡ view c.in-Ok.guard.place = search rules in
    let begins : IsPrefix c.args.prefix.now.editions x.prefix.editions = search rules in
    record {
      seen = search rules;
      answer = subst (λ (l : List Op). IsPrefix (flat c.args.prefix.now.editions) l)
          (book ∙ sym (ap (λ v. v.seen) left))
          (flat-prefix c.args.prefix.now.editions x.prefix.editions begins);
    }
