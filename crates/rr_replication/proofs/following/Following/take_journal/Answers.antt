use Rattle.std.proofs.Common.{◌≡◌, Some, None, sym, ap, ◌∙◌}
use Rattle.std.proofs.lemmas.Result.{IfOk-weaker}
use Rattle.rr_replication.specs.declared.following.Next.{Next}
use Rattle.rr_replication.specs.declared.following.Next.TheVariants.{More}
use Rattle.rr_replication.specs.Following.{after_journal}
use Rattle.rr_replication.proofs.following.Following.take_journal.Goals as goal

pub returns-in-410-clause-position : goal.returns-in-410-clause-position
returns-in-410-clause-position c =
    IfOk-weaker c.begin_again.result (λ next. next ≡ More None)
    (λ next. c.begin_again.new.self.position ≡ Some (after_journal c.args.place next))
    (λ next is. c.begin_again.ensures.position ∙ ap (λ (n : Next). Some (after_journal c.args.place n)) (sym is))
    c.begin_again.ensures.next
