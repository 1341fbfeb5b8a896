use Rattle.std.proofs.Common.{◌≡◌, ◌-◌, length, map}
use Rattle.std.specs.List.{find, range_with_len}
use Rattle.rr_schema.specs.declared.added.Addition.TheVariants.{Archive}
use Rattle.rr_snapshot.specs.SnapshotReading.{fits_addition}
use Rattle.rr_snapshot.proofs.fields.fitting_archive.Given as goal

-- what is found among the archives that are left is what is found among all
abbrev pub invariant-loop-number : goal.invariant-loop-number
invariant-loop-number l =
    find (fits_addition l.version l.schema l.field) (map Archive
    (range_with_len l.number (length l.schema.archives - l.number)))
    ≡ find (fits_addition l.version l.schema l.field) (map Archive (range_with_len 0 (length l.schema.archives)))
