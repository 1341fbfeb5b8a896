use Rattle.std.proofs.Common.{◌≡◌, drop, map}
use Rattle.rr_directory.specs.Memory.{file_named, known_file}
use Rattle.rr_directory.proofs.memory.file_named.Given as goal

-- the files before have other names
abbrev pub invariant-loop-file : goal.invariant-loop-file
invariant-loop-file l =
    file_named (map known_file (drop l.file-index l.files)) l.name ≡ file_named (map known_file l.files) l.name
