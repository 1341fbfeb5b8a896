-- What samples and points make of a keeper.
use Rattle.std.specs.Prelude.{ℕ, ℤ, List, [], ◌∷◌}
use Rattle.rr_point.specs.Point.{PointView}
use Rattle.rr_cells.specs.declared.op.Op.TheVariants.{Put}
use Rattle.rr_replica.specs.Writing.{all_put}
use Rattle.rr_desk.specs.KeeperState.{KeeperState, with_pending}
use Rattle.rr_desk.specs.declared.samples.KeyedValue.{KeyedValue}

-- with a put of the next sample pending
abbrev pub with_put : KeeperState → List ℕ → ℤ → ℤ → KeeperState
with_put k key time value = with_pending k (Put (record
    { origin = k.origin; number = k.next; key = key; time = time; value = value }))

-- with a put of a sample of each of these fields pending, in order
abbrev pub with_puts : KeeperState → PointView → ℤ → List (List ℕ × ℤ) → KeeperState
with_puts = all_put with_put

-- a value of a series
abbrev pub keyed_value : KeyedValue → List ℕ × ℤ
keyed_value v = (v.key, v.value)

-- with a put of a sample of each of these series pending, in order
abbrev pub with_samples : KeeperState → ℤ → List (List ℕ × ℤ) → KeeperState
with_samples k time [] = k
with_samples k time (sample ∷ samples) = with_samples (with_put k sample.0 time sample.1) time samples
