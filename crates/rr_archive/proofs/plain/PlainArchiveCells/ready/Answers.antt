use Rattle.std.proofs.Common.{rules}
use Rattle.std.proofs.Math.Facts.{to_z-of_z}
use Rattle.std.specs.Int.{w64}
use Rattle.std.proofs.lemmas.Bool.{or_right}
use Rattle.std.proofs.lemmas.Result.{on_ok_weaker}
use Rattle.rr_archive.proofs.plain.PlainArchiveCells.ready.Goals as goal

pub returns-clause-room : goal.returns-clause-room
returns-clause-room c =
    let back = to_z-of_z {w = w64} {z = c.args.slot} (search rules) in
    on_ok_weaker c.make_room.result (λ room. or_right _ _ room) (rw back at (c.make_room.ensures.room c.args._origin))

pub returns-clause-room_suffices : goal.returns-clause-room_suffices
returns-clause-room_suffices c =
    let back = to_z-of_z {w = w64} {z = c.args.slot} (search rules) in
    let kept = rw back at (c.make_room.ensures.room_suffices c.args._origin) in
    λ ready. kept (search (c.if-not-is_live.ensures, rules))
