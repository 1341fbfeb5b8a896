use Rattle.std.proofs.Common.{◌≡◌, ◌++◌, option_map, List}
use Rattle.rr_schema.specs.declared.archive.ArchiveSpec.{ArchiveSpec}
use Rattle.rr_cluster.specs.Command.{archive_words, bytes_left}
use Rattle.rr_cluster.specs.Words.{archives_of}
use Rattle.rr_cluster.proofs.commands.schema.archives_of.Given as goal

-- the archives so far and those of the words that are left are all archives
abbrev pub invariant-loop-word : goal.invariant-loop-word
invariant-loop-word l =
    option_map (λ (others : List ArchiveSpec). l.archives.items ++ others) (archives_of (archive_words l.rest))
    ≡ archives_of (archive_words l.words)

abbrev pub decreases-loop-word : goal.decreases-loop-word
decreases-loop-word l = bytes_left l.rest
