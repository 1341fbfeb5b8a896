use Rattle.std.proofs.Common.{◌≡◌, map}
use Rattle.rr_batch.specs.Answers.{answer_to, answer_view}
use Rattle.rr_batch.proofs.answering.answers_of.Given as goal

-- the items so far are answered
abbrev pub invariant-loop-waiting : goal.invariant-loop-waiting
invariant-loop-waiting l =
    map answer_view l.answers.items ≡ map (answer_to l.product l.is_saved) l.yielded
