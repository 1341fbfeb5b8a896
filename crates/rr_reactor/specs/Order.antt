-- The order in which connections that wait for memory advance.
use Rattle.std.specs.Prelude.{◌≡◌, ℕ, ◌+◌, ◌<◌, ◌≤◌, ◌⊎◌, List, length, slice_index_or}
use Rattle.rr_reactor.specs.declared.order.Waiter.{Waiter}

-- one advances no later than another: it needs less, or as much and has waited at least as long
abbrev pub GetsOnBefore : Waiter → Waiter → Type 0
GetsOnBefore a b = (a.needs < b.needs) ⊎ ((a.needs ≡ b.needs) × (a.since ≤ b.since))

-- each advances no later than the next
abbrev pub IsInOrder : List Waiter → Type 0
IsInOrder waiters =
    (k : ℕ) (d : Waiter) → k + 1 < length waiters → GetsOnBefore (slice_index_or waiters k d) (slice_index_or waiters (k + 1) d)
