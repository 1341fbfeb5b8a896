use Rattle.std.proofs.Common.{◌≡◌, map, take}
use Rattle.std.specs.List.{flat_map}
use Rattle.rr_web.specs.Json.{row_behind}
use Rattle.rr_web.proofs.rows.rows_behind.Given as goal

-- the rows of the lines so far are there
abbrev pub invariant-loop-line : goal.invariant-loop-line
invariant-loop-line l = l.rows.items ≡ flat_map row_behind (map (λ line. line.now) (take l.line-index l.lines))
