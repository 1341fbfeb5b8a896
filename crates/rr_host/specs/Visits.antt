-- The calls of visits.
use Rattle.std.specs.Prelude.{ℕ, List, Option}
use Rattle.rr_host.specs.Calls.{Grows}
use Rattle.rr_host.specs.declared.visits.Visit.{Visit}
use Rattle.rr_host.specs.declared.visits.Visit.TheVariants as visit
use Rattle.rr_host.specs.Streams.{Stream, stream_of}

-- a call: it gave a stream, or failed, or no more will come; or it reported that the peer of the stream has another
-- schema; or it handed a stream back
pub data Call : Type 0 where
  Gave : Stream → Call
  Failed : Call
  Over : Call
  Differs : Call
  TookBack : Stream → Call

-- the call with this answer
abbrev pub call_of : {R W : Type 0} → (R → Option (List ℕ)) → (W → Option (List ℕ)) → Visit R W → Call
call_of left written (visit.Stream input output) = Gave (stream_of left written input output)
call_of left written visit.Failed = Failed
call_of left written visit.Over = Over

-- these calls were made, as far as calls are known
abbrev pub HasCalled : Option (List Call) → Option (List Call) → List Call → Type 0
HasCalled before since calls = Grows before since calls
