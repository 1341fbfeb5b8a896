-- Whether a peer failed, by what its streams count.
use Rattle.std.specs.Prelude.{Bool, ◌&&◌, ◌==◌}
use Rattle.rr_io.specs.declared.counted.Counted.{Counted}
use Rattle.rr_io.specs.Counted.{ends_of, failures_of}

-- no call of these streams failed, and the input didn't end
abbrev pub is_without_fault : {R W : Type 0} → Counted R → Counted W → Bool
is_without_fault input output = (failures_of input == 0) && ((ends_of input == 0) && (failures_of output == 0))
