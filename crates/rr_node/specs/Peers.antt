-- How the pulls of a round go, from one peer after the other.
use Rattle.std.specs.Prelude.{◌≡◌, ◌≢◌, ◌⊎◌, ℕ, ◌+◌, nat_lt, Bool, true, false, List, [], ◌∷◌, ◌++◌, Option, None, Some, IfSome, Result, Ok, Err}
use Rattle.rr_desk.specs.KeeperState.{KeeperState}
use Rattle.rr_gossip.specs.declared.fault.GossipFault.{GossipFault}
use Rattle.rr_node.specs.declared.fault.NodeFault.{NodeFault}
use Rattle.rr_node.specs.declared.fault.NodeFault.TheVariants.{BadAddress, Memory}
use Rattle.rr_host.specs.Calls.{DialCall, due, handed_back, passed_over, reached, unreached}
use Rattle.rr_host.specs.Streams.{Stream}
use Rattle.rr_node.specs.Shelf.{ShelfCall, own_origin, peer_failed}
use Rattle.rr_node.specs.Fault.{IsToBlame, of_session_fault}
use Rattle.rr_node.specs.Pull.{HasPulledAll, HasStoppedPulling}

-- the fault that ended something, if one did
abbrev pub fault_in : {A F : Type 0} → Result A F → Option F
fault_in (Ok x) = None
fault_in (Err fault) = Some fault

-- over a stream all was pulled, or a fault ended the session
abbrev pub EndsSession : KeeperState → KeeperState → Stream → Stream → Option NodeFault → Type 0
EndsSession old new before after None =
    HasPulledAll old new before.input.left after.input.left before.output.written after.output.written
EndsSession old new before after (Some fault) =
    (why : GossipFault) × (fault ≡ of_session_fault why) × IsToBlame before after fault
    × HasStoppedPulling old new before.input.left after.input.left before.output.written after.output.written why

-- the peer at an address isn't due, and nothing is done; or it is due, and can't be reached; or it is reached, and its
-- stream is handed back when the session is over
abbrev pub EndsPull : List ℕ → KeeperState → KeeperState → List DialCall → Option NodeFault → Type 0
EndsPull address old new dialed fault =
    ((dialed ≡ passed_over address ∷ []) × (new ≡ old) × (fault ≡ None))
    ⊎ ((dialed ≡ due address ∷ unreached address ∷ []) × (new ≡ old) × (fault ≡ Some BadAddress))
    ⊎ ((before after : Stream) × (dialed ≡ due address ∷ reached address before ∷ handed_back after ∷ [])
    × EndsSession old new before after fault)

-- what is reported of a peer's fault, if it had one
abbrev pub reported_of : ℕ → Option NodeFault → List ShelfCall
reported_of number None = []
reported_of number (Some fault) = peer_failed number fault ∷ []

-- what is reported of a peer that is done with, by whether the keeper's next number rose meanwhile: it puts no sample
-- in a pull, so if it rose, a cell of its own origin came that it never wrote
abbrev pub reported_of_peer : ℕ → Bool → Option NodeFault → List ShelfCall
reported_of_peer number false fault = reported_of number fault
reported_of_peer number true fault = own_origin number ∷ reported_of number fault

-- a peer is done with, and what ended it is reported
pub record IsPast (number : ℕ) (address : List ℕ) (old new : KeeperState) (dialed : List DialCall)
    (reported : List ShelfCall) : Type 0 where
  pub fault : Option NodeFault
  pub skipped : IfSome fault (λ why. why ≢ Memory)
  pub pulled : EndsPull address old new dialed fault
  pub reported_so : reported ≡ reported_of_peer number (nat_lt old.next new.next) fault

-- the pulls from these peers, the first of which has this number, go on to the last, or until memory runs out in one
abbrev pub EndsPulls : Bool → ℕ → List (List ℕ) → KeeperState → KeeperState → List DialCall → List ShelfCall → Type 0
EndsPulls whole number [] old new dialed reported = (whole ≡ true) × (new ≡ old) × (dialed ≡ []) × (reported ≡ [])
EndsPulls whole number (address ∷ later) old new dialed reported =
    ((whole ≡ false) × EndsPull address old new dialed (Some Memory) × (reported ≡ []))
    ⊎ ((mid : KeeperState) × (first next : List DialCall) × (reported_first reported_next : List ShelfCall)
    × IsPast number address old mid first reported_first × EndsPulls whole (number + 1) later mid new next reported_next
    × (dialed ≡ first ++ next) × (reported ≡ reported_first ++ reported_next))
