-- What follows a part that was read, or why it is refused.
use Rattle.std.specs.Prelude.{ℕ, List, Result, Ok, Err}
use Rattle.std.specs.Borrow.{Bor}
use Rattle.rr_line.specs.declared.fault.LineFault.{LineFault}

-- what follows a part, by its bytes
abbrev pub rest_view : Result (Bor (List ℕ)) LineFault → Result (List ℕ) LineFault
rest_view (Ok rest) = Ok rest.now
rest_view (Err fault) = Err fault
