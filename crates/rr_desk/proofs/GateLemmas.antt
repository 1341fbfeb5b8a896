-- Calls of gates.
use Rattle.std.proofs.Common.{List, ◌++◌, Option, None, Some, ap, ◌∙◌, append_assoc}
use Rattle.rr_desk.specs.declared.gate.GateCall.{GateCall}
use Rattle.rr_desk.specs.Gate.{WasAsked}

-- calls, and then others
pub asked_more : (a b c : Option (List GateCall)) (xs ys : List GateCall) → WasAsked a b xs → WasAsked b c ys
    → WasAsked a c (xs ++ ys)
asked_more None None None xs ys first later = tt
asked_more None None (Some since) xs ys first later = absurd later
asked_more None (Some mid) c xs ys first later = absurd first
asked_more (Some before) None None xs ys first later = tt
asked_more (Some before) None (Some since) xs ys first later = absurd later
asked_more (Some before) (Some mid) None xs ys first later = tt
asked_more (Some before) (Some mid) (Some since) xs ys first later =
    later ∙ ap (λ (l : List GateCall). l ++ ys) first ∙ append_assoc before xs ys
