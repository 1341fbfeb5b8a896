use Rattle.rr_web.proofs.ListingLemmas.{SoFar}
use Rattle.rr_web.proofs.listing.list_with_prefix.Given as goal

-- the keys of the pieces so far are listed
abbrev pub invariant-loop : goal.invariant-loop
invariant-loop g l = SoFar l.prefix l.fn.first l.count l.initial.reader l.reader l.after l.left l.text.items
