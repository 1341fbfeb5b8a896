use Rattle.std.proofs.Common.{◌≡◌, ◌++◌, map, take, length}
use Rattle.std.specs.Int.{w16, to_be_bytes}
use Rattle.std.specs.List.{flat_map}
use Rattle.rr_delta.specs.Names.{owned_name}
use Rattle.rr_gossip.specs.Summary.{entry_text}
use Rattle.rr_gossip.proofs.summary.summary_bytes.Given as goal

abbrev pub invariant-loop-name : goal.invariant-loop-name
invariant-loop-name l = l.bytes.items ≡ to_be_bytes w16 (length l.names)
    ++ flat_map entry_text (map owned_name (take l.name-index l.names))
