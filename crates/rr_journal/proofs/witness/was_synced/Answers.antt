use Rattle.std.proofs.Common.{◌≡◌, ◌<◌, ℕ, false, List, [], ◌∷◌, length, refl, arith}
use Rattle.rr_journal.specs.Witness.{has_witness, was_synced}
use Rattle.rr_journal.proofs.witness.was_synced.Goals as goal

none : (key : List ℕ) (offset : ℕ) (bytes : List ℕ) → length bytes < 1 → false ≡ was_synced key offset bytes
unfolding has_witness
none key offset [] few = refl
none key offset (b ∷ bytes) few = absurd (omega (arith, few))

pub returns-in-empty : goal.returns-in-empty
returns-in-empty c = none c.args.key.now.bytes c.args.offset c.args.bytes.now c.in-empty.len_below
