-- Packed cells read one after the other.
use Rattle.std.specs.Prelude.{◌≡◌, ◌≢◌, List, [], ◌∷◌, Option, None, Some, Result, Ok, Err}
use Rattle.rr_text.specs.Results.{◌>>=◌}
use Rattle.rr_codec.specs.declared.fault.CodecFault.{CodecFault}
use Rattle.rr_codec.specs.declared.fault.CodecFault.TheVariants.{Memory}
use Rattle.rr_codec.specs.Fields.{SlotEntry}

-- the cells that are left to read, or the first fault
pub record LeftState : Type 0 where
  pub cells : Result (List SlotEntry) CodecFault

-- a cell, and those that are read after it
abbrev pub with_cell : SlotEntry → LeftState → LeftState
with_cell e left = record { cells = left.cells >>= λ es. Ok (e ∷ es) }

-- the first of the cells that are left is taken; or there is none, or there is a fault, and nothing has changed
abbrev pub TakesNext : LeftState → LeftState → Result (Option SlotEntry) CodecFault → Type 0
TakesNext old new (Ok (Some e)) = old ≡ with_cell e new
TakesNext old new (Ok None) = (old.cells ≡ Ok []) × (new ≡ old)
TakesNext old new (Err fault) = (old.cells ≡ Err fault) × (new ≡ old) × (fault ≢ Memory)
