-- The bytes of a journal's files, and the parts of them that are given.
use Rattle.std.specs.Prelude.{◌≡◌, ℕ, zero, suc, ◌+◌, ◌-◌, ◌<◌, ◌≤◌, ◌==◌, List, [], ◌∷◌, ◌++◌, length, drop, take, if◌then◌else◌}
use Rattle.std.specs.List.{AllByRecursion, Contains, concat}
use Rattle.rr_replication.specs.declared.part.Part.{Part}
use Rattle.rr_replication.specs.declared.part.Part.TheVariants.{Bytes, Nothing, Gone}
use Rattle.rr_replication.specs.declared.part.TheConstants.{MAX_PART}
use Rattle.rr_replication.specs.Part.{part_from}

-- ---- any part

-- a part of this length, from an offset on, lies in one file: it has at least one byte, no more than a part may have,
-- none behind the end, and none behind where the next file begins
pub record AreWithin (files : List ℕ) (end from file skip len : ℕ) : Type 0 where
  pub begins : Contains files file
  pub skipped : file + skip ≡ from
  pub some : 1 ≤ len
  pub few : len ≤ MAX_PART
  pub ends : from + len ≤ end
  pub alone : AllByRecursion (λ other. from < other → from + len ≤ other) files

abbrev pub PartsAreWithin : Type 0
PartsAreWithin =
    (files : List ℕ) (end from file skip len : ℕ) → part_from files end from ≡ Bytes file skip len
    → AreWithin files end from file skip len

-- ---- over a journal whose files have these bytes of records, the first file from an offset on

-- where its files begin: each where the one before it ends
abbrev pub offsets : ℕ → List (List ℕ) → List ℕ
offsets begin [] = []
offsets begin (bytes ∷ files) = begin ∷ offsets (begin + length bytes) files

-- the bytes of the file that begins at an offset
abbrev pub file_at : ℕ → List (List ℕ) → ℕ → List ℕ
file_at begin [] offset = []
file_at begin (bytes ∷ files) offset =
    if offset == begin then bytes else file_at (begin + length bytes) files offset

-- each file but the last has bytes
abbrev pub HaveBytes : List (List ℕ) → Type 0
HaveBytes [] = Unit {0}
HaveBytes (bytes ∷ []) = Unit {0}
HaveBytes (bytes ∷ (next ∷ files)) = (1 ≤ length bytes) × HaveBytes (next ∷ files)

-- the bytes of a part
abbrev pub bytes_of : ℕ → List (List ℕ) → Part → List ℕ
bytes_of begin files (Bytes file skip len) = take len (drop skip (file_at begin files file))
bytes_of begin files Nothing = []
bytes_of begin files Gone = []

-- the bytes of this number of parts, each asked for from the end of the one before it
abbrev pub given : ℕ → ℕ → List (List ℕ) → ℕ → ℕ → List ℕ
given zero begin files end from = []
given (suc n) begin files end from =
    let bytes = bytes_of begin files (part_from (offsets begin files) end from) in
    bytes ++ given n begin files end (from + length bytes)

-- if the parts are no fewer than the bytes from there up to the end, they are these bytes, without gap or overlap
abbrev pub PartsComeToTheEnd : Type 0
PartsComeToTheEnd =
    (n begin end from : ℕ) (files : List (List ℕ)) → HaveBytes files → begin ≤ from → from ≤ end
    → end ≤ begin + length (concat files) → end ≤ from + n
    → given n begin files end from ≡ take (end - from) (drop (from - begin) (concat files))
