use Rattle.std.proofs.Common.{◌≡◌, ◌≤◌, min, length, take, ◌∙◌, sym, inr, arith}
use Rattle.rr_text.specs.Bytes.{HasNoLineFeed}
use Rattle.rr_connection.specs.declared.lines.TheConstants.{PIECE}
use Rattle.rr_connection.proofs.PieceLemmas.{none_found, starved}
use Rattle.rr_connection.proofs.lines.LineConnection.next_len.Goals as goal

pub returns-in-None : goal.returns-in-None
returns-in-None c =
    let unread = c.args.self.now.unread.items in
    let len : c.min-len.result ≤ min (length unread) PIECE = omega arith in
    let none : HasNoLineFeed (take c.min-len.result unread) = none_found (take c.min-len.result unread) (rw c.as_slice.ensures at c.in-None.ensures) in
    (len, inr (none, sym c.is_cut.ensures ∙ c.if-is_cut.true))

pub returns-in-None-2 : goal.returns-in-None-2
returns-in-None-2 c =
    let unread = c.args.self.now.unread.items in
    let len : c.min-len.result ≡ min (length unread) PIECE = omega arith in
    let none : HasNoLineFeed (take c.min-len.result unread) = none_found (take c.min-len.result unread) (rw c.as_slice.ensures at c.in-None-2.ensures) in
    starved unread c.args.self.now.has_ended c.min-len.result len none (sym c.is_cut.ensures ∙ c.if-is_cut.false)
