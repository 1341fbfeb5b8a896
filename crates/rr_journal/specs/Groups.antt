-- Groups that are read one after the other.
use Rattle.std.specs.Prelude.{◌≡◌, ℕ, List, [], ◌∷◌, ◌++◌, Result, Ok, Err, ◌⊎◌}
use Rattle.rr_text.specs.Results.{◌>>=◌}
use Rattle.rr_journal.specs.declared.fault.JournalFault.{JournalFault}
use Rattle.rr_journal.specs.declared.fault.JournalFault.TheVariants.{Memory}
use Rattle.rr_journal.specs.declared.grouping.FoundGroup.{FoundGroup}
use Rattle.rr_journal.specs.Body.{PackedCells}

-- a group that is still in the bytes it was read from
abbrev pub found_cells : FoundGroup → PackedCells
found_cells g = record { key = g.key.now; archive = g.archive; bytes = g.packed.now }

-- what follows a group
abbrev pub rest_of : Result (PackedCells × List ℕ) JournalFault → Result (List ℕ) JournalFault
rest_of read = read >>= λ x. Ok x.1

-- a group was read and added behind others, and what follows it is given; or it is refused, or memory ran out
abbrev pub TakesGroup : {X : Type 0} → List PackedCells → List PackedCells → Result (PackedCells × List ℕ) JournalFault
    → (X → List ℕ) → Result X JournalFault → Type 0
TakesGroup old new read view (Ok rest) = (g : PackedCells) × (read ≡ Ok (g, view rest)) × (new ≡ old ++ g ∷ [])
TakesGroup old new read view (Err fault) = (fault ≡ Memory) ⊎ (read ≡ Err fault)
