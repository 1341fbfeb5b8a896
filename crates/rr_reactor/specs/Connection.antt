-- The item of a connection.
use Rattle.std.specs.Prelude.{◌≡◌, ℕ, Option, Some, None, IsSome}
use Rattle.rr_reactor.specs.declared.connection.Connection.{Connection}
use Rattle.rr_reactor.specs.declared.connection.Progress.{Progress}
use Rattle.rr_reactor.specs.declared.item.Work.{Work}

-- how much is held for the item that is out, if one is
abbrev pub item_of : {S : Type 0} → Connection S → Option ℕ
item_of c = c.out

-- an item of it is out
abbrev pub IsOut : {S : Type 0} → Connection S → Type 0
IsOut c = IsSome c.out

-- one is given only if none is out, and then it is out
abbrev pub GivesOne : Option ℕ → Option Work → Option ℕ → Type 0
GivesOne old None new = new ≡ old
GivesOne old (Some work) new = (old ≡ None) × IsSome new

abbrev pub GivesStep : Option ℕ → Progress → Option ℕ → Type 0
GivesStep old (Progress.Work work) new = (old ≡ None) × IsSome new
GivesStep old Progress.Waits new = new ≡ old
GivesStep old Progress.Goes new = new ≡ old
