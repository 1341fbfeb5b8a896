-- The rounds of a keeper, one after the other.
use Rattle.std.specs.Prelude.{◌≡◌, ◌⊎◌, ℕ, zero, suc, ◌<◌, ◌==◌, ◌-◌, ◌^◌, ℤ, Bool, true, false, List, [], ◌∷◌, ◌++◌, Option, None, Some, if◌then◌else◌}
use Rattle.rr_desk.specs.KeeperState.{KeeperState}
use Rattle.rr_config.specs.declared.config.Config.{Config}
use Rattle.rr_host.specs.Calls.{DialCall, Grows}
use Rattle.rr_host.specs.Halt.{HaltCall, Halted}
use Rattle.rr_node.specs.Shelf.{ShelfCall}
use Rattle.rr_node.specs.Round.{EndsRound}
use Rattle.rr_host.specs.Visits.{Call, HasCalled}

-- a keeper, and the moments that its clock gave
pub record KeeperAndClock : Type 0 where
  pub keeper : KeeperState
  pub given : Option (List ℤ)

abbrev pub post : KeeperState → Option (List ℤ) → KeeperAndClock
post keeper given = record { keeper = keeper; given = given }

-- the calls of lines, of a dial and of a shelf
pub record Log : Type 0 where
  pub visits : List Call
  pub dialed : List DialCall
  pub shelved : List ShelfCall

abbrev pub no_calls : Log
no_calls = record { visits = []; dialed = []; shelved = [] }

abbrev pub and_then : Log → Log → Log
and_then a b = record { visits = a.visits ++ b.visits; dialed = a.dialed ++ b.dialed; shelved = a.shelved ++ b.shelved }

-- a round, by whether a connection came
abbrev pub IsRound : Config → Option Bool → KeeperAndClock → KeeperAndClock → Log → Type 0
IsRound config came old new log =
    EndsRound config came old.keeper new.keeper old.given new.given log.visits log.dialed log.shelved

-- n rounds, to each of which a connection came
abbrev pub AreRounds : ℕ → Config → KeeperAndClock → KeeperAndClock → Log → Type 0
AreRounds zero config old new log = (new ≡ old) × (log ≡ no_calls)
AreRounds (suc n) config old new log =
    (mid : KeeperAndClock) × (first last : Log) × AreRounds n config old mid first
    × IsRound config (Some true) mid new last
    × (log ≡ and_then first last)

-- fewer rounds than this, and one more that ended otherwise
pub record AreFewer (most : ℕ) (config : Config) (came : Option Bool) (old new : KeeperAndClock) (log : Log)
    : Type 0 where
  pub n : ℕ
  pub few : n < most
  pub mid : KeeperAndClock
  pub first : Log
  pub last : Log
  pub rounds : AreRounds n config old mid first
  pub ended : IsRound config came mid new last
  pub whole : log ≡ and_then first last

-- the rounds up to as many as there may be, until no connection will come, or until memory runs out
abbrev pub EndRounds : ℕ → Config → Bool → KeeperAndClock → KeeperAndClock → Log → Type 0
EndRounds most config true old new log = AreRounds most config old new log
    ⊎ AreFewer most config (Some false) old new log
EndRounds most config false old new log = AreFewer most config None old new log

-- how many rounds a configuration has: 0 means without end, which is as many as 64 bits can count
abbrev pub rounds_of : Config → ℕ
rounds_of config = if config.rounds == 0 then 2 ^ 64 - 1 else config.rounds

-- The rounds of a configuration, as far as memory lasts: the calls of lines, dial and shelf that were known before, and
-- those that are known after them, and what the keeper and its clock became.
pub record HasKept (config : Config) (whole : Bool) (visits visits_since : Option (List Call))
    (dials dials_since : Option (List DialCall)) (shelves shelves_since : Option (List ShelfCall))
    (old new : KeeperAndClock) : Type 0 where
  pub log : Log
  pub visited : HasCalled visits visits_since log.visits
  pub dialed : Grows dials dials_since log.dialed
  pub shelved : Grows shelves shelves_since log.shelved
  pub rounds : EndRounds (rounds_of config) config whole old new log

-- the calls of a halt, by whether memory sufficed for the rounds: one if it ran out
abbrev pub halts : Bool → List HaltCall
halts true = []
halts false = Halted ∷ []

-- the rounds of a configuration were kept, as far as memory lasts, and the node was halted if memory ran out in them
pub record KeepsOrHalts (config : Config) (whole : Bool) (visits visits_since : Option (List Call))
    (dials dials_since : Option (List DialCall)) (shelves shelves_since : Option (List ShelfCall))
    (ends ends_since : Option (List HaltCall)) (old new : KeeperAndClock) : Type 0 where
  pub rounds : HasKept config whole visits visits_since dials dials_since shelves shelves_since old new
  pub halted : Grows ends ends_since (halts whole)
