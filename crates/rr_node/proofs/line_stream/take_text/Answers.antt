use Rattle.std.proofs.Common.{List, ℕ, [], ◌++◌, take, ap, ◌∙◌}
use Rattle.rr_host.proofs.ClockLemmas.{HasGiven-trans}
use Rattle.rr_node.proofs.LineStreamLemmas.{take_again}
use Rattle.rr_node.proofs.line_stream.take_text.Goals as goal

pub returns-clause-taken : goal.returns-clause-taken
returns-clause-taken g c =
    let limit = c.args.limit in
    let taken = c.in_ok-take.ensures.taken in
    let ended = c.in_ok-report.ensures.ended in
    let nothing = c.new-stream.ensures.nothing c.args.keeper.now in (
      taken.0 ++ ended.0,
      taken.1 ++ ended.1,
      HasGiven-trans _ _ _ taken.0 ended.0 taken.2 ended.2,
      ended.3 ∙ ap (λ (l : List ℕ). take limit (l ++ ended.1))
          (taken.3 ∙ ap (λ (l : List ℕ). take limit (l ++ taken.1)) c.new-refusals.ensures.items)
          ∙ take_again limit taken.1 ended.1,
      rw (taken.4.rules ∙ c.new-stream.ensures.rules) at (ended.4 c.args.keeper.now c.args.text.now taken.0 taken.1
          (taken.4.taken c.args.keeper.now [] [] [] nothing)),
    )
