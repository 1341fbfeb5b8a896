-- Peers over memory, and the calls of the dial that reaches them.
use Rattle.std.specs.Prelude.{◌≡◌, nat_eq, ℕ, List, [], ◌∷◌, Option, None, Some, option_map, if◌then◌else◌}
use Rattle.std.specs.Cmp.Lexicographic.{pointwise}
use Rattle.rr_fakes.specs.declared.dial.Entry.{Entry}
use Rattle.rr_fakes.specs.declared.dial.Entry.TheVariants as entry
use Rattle.rr_fakes.specs.declared.dial.PreparedPeer.{PreparedPeer}
use Rattle.rr_host.specs.Calls.{DialCall, due, handed_back, reached, unreached}
use Rattle.rr_fakes.specs.Log.{HasNoted, Log}
use Rattle.rr_host.specs.Streams.{new_stream, stream_of}

-- a peer: its address, and the bytes that it sends, or none if it can't be reached
pub record Peer : Type 0 where
  pub address : List ℕ
  pub sends : Option (List ℕ)

abbrev pub peer_view : PreparedPeer → Peer
peer_view p = record { address = p.address.now; sends = option_map (λ bytes. bytes.now) p.sends }

-- the first peer of an address
abbrev pub peer_of : List Peer → List ℕ → Option Peer
peer_of [] address = None
peer_of (peer ∷ later) address = if pointwise nat_eq peer.address address then Some peer else peer_of later address

-- a dial: its peers, and its calls
pub record DialState : Type 0 where
  pub peers : List Peer
  pub log : Log DialCall

-- the bytes of a peer that is reached
abbrev pub sent_by : Option Peer → Option (List ℕ)
sent_by None = None
sent_by (Some peer) = peer.sends

-- the call that reaches a peer that sends these bytes, or can't reach it
abbrev pub call_by : List ℕ → Option (List ℕ) → DialCall
call_by address None = unreached address
call_by address (Some bytes) = reached address (new_stream bytes)

abbrev pub due_call : Peer → DialCall
due_call peer = due peer.address

abbrev pub call_to : Peer → DialCall
call_to peer = call_by peer.address peer.sends

-- a call about a peer was noted; one about an address that no peer has can't be, and then the calls are unknown
abbrev pub NotesCall : (Peer → DialCall) → Option Peer → Log DialCall → Log DialCall → Type 0
NotesCall call None old new = new.calls ≡ None
NotesCall call (Some peer) old new = HasNoted (call peer) old new

-- a call was noted, and the peers are as they were
pub record NotesOnly (call : DialCall) (old new : DialState) : Type 0 where
  pub noted : HasNoted call old.log new.log
  pub peers : new.peers ≡ old.peers

-- a call that was noted
abbrev pub noted_call : Entry → DialCall
noted_call (entry.Due address) = due address.now
noted_call (entry.Reached address bytes) = reached address.now (new_stream bytes.now)
noted_call (entry.Unreached address) = unreached address.now
noted_call (entry.HandedBack input output) = handed_back (stream_of (λ r. Some r.now) (λ w. Some w.items) input output)
