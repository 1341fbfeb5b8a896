use Rattle.std.proofs.Common.{rules, ◌≡◌, true, [], ◌∷◌}
use Rattle.rr_desk.proofs.RuleLemmas.{sees}
use Rattle.rr_desk.specs.declared.gate.GateCall.TheVariants.{After, Before}
use Rattle.rr_desk.proofs.GateLemmas.{asked_more}
use Rattle.rr_desk.proofs.answers.answer.Goals as goal

pub enter_as-requires : goal.enter_as-requires
enter_as-requires g c x = sees _ _ _

pub returns-in-Ok-answer_text-clause-gate : goal.returns-in-Ok-answer_text-clause-gate
returns-in-Ok-answer_text-clause-gate g c =
    let passed : c.before-2.result ≡ true = search rules in
    asked_more _ _ _ (Before true ∷ []) (After ∷ []) (rw passed at c.before-2.ensures) c.after.ensures

pub after-requires : goal.after-requires
after-requires g c = search rules

pub returns-in-Err-answer_text-clause-gate : goal.returns-in-Err-answer_text-clause-gate
returns-in-Err-answer_text-clause-gate g c = search rules
