use Rattle.std.proofs.Common.{◌≡◌, ℕ, ℤ, List, ◌++◌, length}
use Rattle.rr_host.specs.Clock.{HasGiven}
use Rattle.rr_feed.specs.Items.{Item}
use Rattle.rr_node.specs.Connection.{ServedItems, ServesAmong}
use Rattle.rr_node.proofs.connection.Connection.write_lines.Given as goal

-- what was handed out is served
abbrev pub invariant-loop-item : goal.invariant-loop-item
invariant-loop-item g l = record {
  served : (moments : List ℤ) × (text : List ℕ)
      × HasGiven (g.C.Clock.given l.initial.clock) (g.C.Clock.given l.clock) moments
      × (l.answers.items ≡ l.initial.answers.items ++ text)
      × ServedItems l.initial.self l.self l.initial.keeper l.keeper moments text;
  among : (handed : List Item) × (moments : List ℤ) × (text : List ℕ)
      × HasGiven (g.C.Clock.given l.initial.clock) (g.C.Clock.given l.clock) moments
      × (l.answers.items ≡ l.initial.answers.items ++ text)
      × ServesAmong l.initial.self l.self l.initial.keeper l.keeper handed moments text;
  renewals : g.C.Clock.renewals l.clock ≡ g.C.Clock.renewals l.initial.clock;
}

abbrev pub decreases-loop-item : goal.decreases-loop-item
decreases-loop-item g l = length l.self.feed.left
