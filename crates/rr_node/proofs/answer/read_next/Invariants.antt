use Rattle.std.proofs.Common.{◌≤◌, length, map}
use Rattle.rr_line.specs.KnownLine.{HasRead}
use Rattle.rr_desk.specs.Points.{keyed_value}
use Rattle.rr_node.proofs.answer.read_next.Given as goal

-- the values so far are those that the line says
abbrev pub invariant-loop : goal.invariant-loop
invariant-loop g l = record {
  read : HasRead l.line (map keyed_value l.values.items) l.known;
  few : length l.values.items ≤ l.counter;
}
