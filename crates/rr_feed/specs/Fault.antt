-- The printed names of faults: each is its variant's.
use Rattle.std.specs.Prelude.{ℕ, List, codes}
use Rattle.rr_feed.specs.declared.fault.FeedFault.{FeedFault}
use Rattle.rr_feed.specs.declared.fault.FeedFault.TheVariants.{Ended, Memory}

abbrev pub feed_fault_name : FeedFault → List ℕ
feed_fault_name Ended = codes "Ended"
feed_fault_name Memory = codes "Memory"
