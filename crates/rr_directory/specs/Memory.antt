-- A directory over memory, as its files.
use Rattle.std.specs.Prelude.{ℕ, Bool, false, ◌==◌, List, [], ◌∷◌, Option, None, Some, option_map, unwrap_or, if◌then◌else◌}
use Rattle.rr_directory.specs.declared.memory.MemoryFile.{MemoryFile}
use Rattle.rr_directory.specs.declared.name.FileName.{FileName}
use Rattle.rr_directory.specs.declared.name.FileName.TheVariants.{Journal, Checkpoint}

-- a file and its bytes
pub record KnownFile : Type 0 where
  pub name : FileName
  pub bytes : List ℕ

abbrev pub known_file : MemoryFile → KnownFile
known_file f = record { name = f.name; bytes = f.bytes.now }

abbrev pub has_name : FileName → FileName → Bool
has_name (Journal name) (Journal other) = name == other
has_name (Checkpoint name) (Checkpoint other) = name == other
has_name (Journal name) (Checkpoint other) = false
has_name (Checkpoint name) (Journal other) = false

-- the first file of a name
abbrev pub file_named : List KnownFile → FileName → Option KnownFile
file_named [] name = None
file_named (f ∷ fs) name = if has_name f.name name then Some f else file_named fs name

-- its bytes; none if there is no such file
abbrev pub bytes_named : List KnownFile → FileName → List ℕ
bytes_named fs name = unwrap_or (option_map (λ f. f.bytes) (file_named fs name)) []
