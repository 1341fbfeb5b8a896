-- The connections that a seat serves.
use Rattle.std.specs.Prelude.{◌≡◌, ◌≢◌, ◌⊎◌, ℕ, zero, suc, ◌<◌, ◌==◌, ◌-◌, ◌^◌, Bool, true, false, List, [], ◌∷◌, ◌++◌, Result, Ok, Err, IfErr, if◌then◌else◌}
use Rattle.rr_gossip.specs.declared.fault.GossipFault.TheVariants.{SchemaDiffers}
use Rattle.rr_node.specs.declared.fault.NodeFault.{NodeFault}
use Rattle.rr_node.specs.declared.fault.NodeFault.TheVariants.{Memory, Session}
use Rattle.rr_node.specs.Fault.{IsOfReader, IsToBlame}
use Rattle.rr_node.specs.Fetches.{ReaderAndGate, IsServed}
use Rattle.rr_host.specs.Streams.{Stream}
use Rattle.rr_host.specs.Visits.{Call, Differs, Gave, Failed, Over, TookBack}

-- what the visits are told of a connection before it is handed back: that the peer has another schema, if this ended a
-- session
abbrev pub reported_of_schema : Result (Unit {0}) NodeFault → List Call
reported_of_schema (Ok x) = []
reported_of_schema (Err (Session SchemaDiffers)) = Differs ∷ []
reported_of_schema (Err fault) = []

-- a connection was given, served with this result, and handed back
pub record IsStreamServed (result : Result (Unit {0}) NodeFault) (calls : List Call) (old new : ReaderAndGate)
    : Type 0 where
  pub before : Stream
  pub after : Stream
  pub made : calls ≡ Gave before ∷ (reported_of_schema result ++ TookBack after ∷ [])
  pub served : IsServed result before.input.left after.input.left before.output.written after.output.written old new
  pub faults : IfErr result IsOfReader
  pub blamed : IfErr result (IsToBlame before after)

-- one visit: it failed, or a connection was served, with or without a fault other than Memory
abbrev pub IsVisit : List Call → ReaderAndGate → ReaderAndGate → Type 0
IsVisit calls old new =
    ((calls ≡ Failed ∷ []) × (new ≡ old))
    ⊎ ((result : Result (Unit {0}) NodeFault) × (result ≢ Err Memory) × IsStreamServed result calls old new)

-- n visits, in order
abbrev pub AreVisits : ℕ → List Call → ReaderAndGate → ReaderAndGate → Type 0
AreVisits zero calls old new = (calls ≡ []) × (new ≡ old)
AreVisits (suc n) calls old new =
    (mid : ReaderAndGate) × (first later : List Call) × IsVisit first old mid × AreVisits n later mid new
    × (calls ≡ first ++ later)

-- what one call did, by whether another visit may come
abbrev pub HasVisited : Result Bool NodeFault → List Call → ReaderAndGate → ReaderAndGate → Type 0
HasVisited (Ok true) calls old new = IsVisit calls old new
HasVisited (Ok false) calls old new = (calls ≡ Over ∷ []) × (new ≡ old)
HasVisited (Err fault) calls old new = (fault ≡ Memory) × IsStreamServed (Err Memory) calls old new

-- how many visits a seat serves: 0 means without end, which is as many as 64 bits can count
abbrev pub visits_of : ℕ → ℕ
visits_of visits = if visits == 0 then 2 ^ 64 - 1 else visits

-- A seat served visits: as many as it may, or those before no more would come, or those before memory ran out
abbrev pub HasServedSeat : ℕ → Result (Unit {0}) NodeFault → List Call → ReaderAndGate → ReaderAndGate → Type 0
HasServedSeat most (Ok x) calls old new =
    AreVisits most calls old new
    ⊎ ((n : ℕ) × (n < most) × (visits : List Call) × AreVisits n visits old new × (calls ≡ visits ++ Over ∷ []))
HasServedSeat most (Err fault) calls old new =
    (fault ≡ Memory) × (n : ℕ) × (n < most) × (visits last : List Call) × (mid : ReaderAndGate)
    × AreVisits n visits old mid × IsStreamServed (Err Memory) last mid new × (calls ≡ visits ++ last)

-- a call that served all seats of a node: for how many connections each, and whether memory sufficed in all of them
pub record SeatsCall : Type 0 where
  pub visits : ℕ
  pub sufficed : Bool

abbrev pub served : ℕ → Bool → SeatsCall
served visits sufficed = record { visits = visits; sufficed = sufficed }
