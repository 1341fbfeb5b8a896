-- Which bytes of a journal are given from an offset on.
use Rattle.std.specs.Prelude.{ℕ, ◌-◌, min, max, nat_lt, ◌==◌, List, [], ◌∷◌, Option, None, Some, if◌then◌else◌}
use Rattle.rr_replication.specs.declared.part.Part.{Part}
use Rattle.rr_replication.specs.declared.part.Part.TheVariants.{Bytes, Nothing, Gone}
use Rattle.rr_replication.specs.declared.part.TheConstants.{MAX_PART}

-- the later of two beginnings, the first of which may be absent
abbrev pub latest : Option ℕ → ℕ → Option ℕ
latest None file = Some file
latest (Some begin) file = Some (max begin file)

-- the same, but the second counts only if it isn't above an offset
abbrev pub later : Option ℕ → ℕ → ℕ → Option ℕ
later begin file from = if nat_lt from file then begin else latest begin file

-- the earlier of an end and a file's beginning, which counts only if it is above an offset
abbrev pub sooner : ℕ → ℕ → ℕ → ℕ
sooner end file from = if nat_lt from file then min end file else end

-- the greatest of these beginnings that is not above an offset
abbrev pub begins_at : List ℕ → ℕ → Option ℕ
begins_at [] from = None
begins_at (file ∷ files) from = later (begins_at files from) file from

-- the least of these beginnings that is above an offset, and not above the end; or the end
abbrev pub ends_at : List ℕ → ℕ → ℕ → ℕ
ends_at [] end from = end
ends_at (file ∷ files) end from = sooner (ends_at files end from) file from

-- in a file that begins there: up to where it ends, and no more than a part may have
abbrev pub part_in : Option ℕ → ℕ → ℕ → ℕ → Part
part_in None until end from = Gone
part_in (Some file) until end from =
    if nat_lt end from then Gone
    else (if end == from then Nothing else Bytes file (from - file) (min (until - from) MAX_PART))

-- from an offset on: in the last file that begins at or before it, up to where the next one begins or the journal ends
abbrev pub part_from : List ℕ → ℕ → ℕ → Part
part_from files end from = part_in (begins_at files from) (ends_at files end from) end from
