use Rattle.std.proofs.Common.{◌≡◌, take}
use Rattle.rr_web.specs.NodeMetrics.{families_text}
use Rattle.rr_web.proofs.node_metrics.text_of.Given as goal

-- the text of the families so far is there
abbrev pub invariant-loop-family : goal.invariant-loop-family
invariant-loop-family l = l.text.items ≡ families_text (take l.family-index l.families)
