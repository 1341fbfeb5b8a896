use Rattle.std.proofs.Common.{◌≡◌, ℕ, ℤ, List, ◌++◌, length, take}
use Rattle.rr_host.specs.Clock.{HasGiven}
use Rattle.rr_feed.specs.Items.{Item}
use Rattle.rr_node.specs.LineStream.{Takes, TakesAmong}
use Rattle.rr_node.proofs.line_stream.LineStream.take.Given as goal

-- the first bytes are taken, and the others are left
abbrev pub invariant-loop-left : goal.invariant-loop-left
invariant-loop-left g l = record {
  taken : (first : List ℕ) × (moments : List ℤ) × (text : List ℕ)
      × (first ++ l.left ≡ l.initial.left)
      × HasGiven (g.C.Clock.given l.initial.clock) (g.C.Clock.given l.clock) moments
      × (l.answers.items ≡ take l.fn.limit (l.initial.answers.items ++ text))
      × Takes l.initial.self l.self l.initial.keeper l.keeper first moments text;
  among : (first : List ℕ) × (handed : List Item) × (moments : List ℤ) × (text : List ℕ)
      × (first ++ l.left ≡ l.initial.left)
      × HasGiven (g.C.Clock.given l.initial.clock) (g.C.Clock.given l.clock) moments
      × (l.answers.items ≡ take l.fn.limit (l.initial.answers.items ++ text))
      × TakesAmong l.initial.self l.self l.initial.keeper l.keeper first handed moments text;
  renewals : g.C.Clock.renewals l.clock ≡ g.C.Clock.renewals l.initial.clock;
}

abbrev pub decreases-loop-left : goal.decreases-loop-left
decreases-loop-left g l = length l.left
