-- What connections may take.
use Rattle.std.specs.Prelude.{ℕ, ◌-◌, ◌/◌, Bool, ◌||◌, max, min, Option, Some, None, nat_le, nat_lt, if◌then◌else◌}
use Rattle.rr_reactor.specs.declared.limits.Limits.{Limits}
use Rattle.rr_reactor.specs.declared.limits.TheConstants.{PART, SMALL}
use Rattle.rr_reactor.specs.declared.order.Rank.{Rank}
use Rattle.rr_reactor.specs.declared.order.Rank.TheVariants.{First, Behind}

-- how many bytes are free
abbrev pub free : Limits → ℕ → ℕ
free limits all = limits.held - all

-- how many more bytes may be received
abbrev pub room : Limits → ℕ → ℕ
room limits all = limits.received - all

-- from a connection that holds little, a little may be read
abbrev pub little : ℕ → ℕ
little own = if nat_le own SMALL then SMALL else 0

-- from the one that waits first, as much may be read as there is room for; from another one, as much as it needs in
-- all, if there is room for that and none that waits needs less; and from either, a little if it holds little
abbrev pub may_read : Limits → Rank → ℕ → ℕ → ℕ → ℕ
may_read limits First all own needs = max (room limits all) (little own)
may_read limits (Behind least) all own needs = if nat_le needs (min (room limits all) least) then needs else little own

-- an answer fits, or is small
abbrev pub takes : Limits → ℕ → ℕ → Bool
takes limits all size = nat_le size (free limits all) || nat_le size SMALL

-- what is promised for an answer of at most this size: nothing if that is small, all of it if it fits
abbrev pub promise : Limits → ℕ → ℕ → Option ℕ
promise limits all size =
    if nat_le size SMALL then Some 0 else (if nat_le size (free limits all) then Some size else None)

-- less is free than an answer wanted, or less room is left than a quarter of all
abbrev pub must_let_go : Limits → ℕ → ℕ → Bool
must_let_go limits all wanted =
    nat_lt (free limits all) wanted || nat_lt (room limits all) (limits.received / PART)

-- too many bytes wait, or the first item has waited too long
abbrev pub is_behind : Limits → ℕ → ℕ → Bool
is_behind limits bytes wait = nat_lt limits.waiting bytes || nat_lt limits.wait wait
