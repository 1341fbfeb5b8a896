use Rattle.std.proofs.Common.{◌≡◌, map, drop}
use Rattle.rr_text.specs.Bytes.{is_among}
use Rattle.rr_text.proofs.bytes.is_among.Given as goal

abbrev pub invariant-loop-entry : goal.invariant-loop-entry
invariant-loop-entry g l =
    is_among l.key (map g.T.Keyed.key_of (drop l.entry-index l.entries))
    ≡ is_among l.key (map g.T.Keyed.key_of l.entries)
