use Rattle.std.proofs.Common.{rules, ◌≡◌, drop, true, false, sym, ◌∙◌, w64, to_z, of_z}
use Rattle.rr_archive.specs.ArchiveState.{starts_dead, first_len}
use Rattle.rr_archive.proofs.Leaving.{LeftOver, left_all, left_fewer, left_live, left_count}
use Rattle.rr_archive.proofs.slots.Slots.drop_dead.Goals as goal

pub loop-self-init : goal.loop-self-init
loop-self-init c =
    let back : to_z w64 (of_z w64 c.args.newest) ≡ c.args.newest = search rules in
    rw back (left_all c.args.rows c.args.newest c.args.self.now.rows.entries c.args.cells c.args.self.now.ascend
    c.args.self.now.ordered c.requires)

pub loop-self-preserved : goal.loop-self-preserved
loop-self-preserved c =
    let top = to_z w64 (of_z w64 c.args.newest) in
    let back : top ≡ c.args.newest = search rules in
    let dead : starts_dead c.args.rows top c.loop-self.self.rows.entries ≡ true = sym c.starts_dead.ensures
    ∙ c.loop-self-test.true in
    let len : c.drop_first-left.result ≡ first_len c.loop-self.self.rows.entries = search rules in
    let rest : c.drop_first-left.new.self.rows.entries ≡ drop 1 c.loop-self.self.rows.entries = search rules in
    rw (len, rest) (left_fewer c.args.rows top c.args.self.now.rows.entries c.loop-self.self.rows.entries
    c.loop-self.left c.loop-self.invariant dead)

pub returns-clause-live : goal.returns-clause-live
returns-clause-live c =
    let top = to_z w64 (of_z w64 c.args.newest) in
    let back : top ≡ c.args.newest = search rules in
    let left : LeftOver c.args.rows c.args.newest c.args.self.now.rows.entries c.loop-self.self.rows.entries
    c.loop-self.left = rw back at c.loop-self.invariant in
    let dead : starts_dead c.args.rows c.args.newest c.loop-self.self.rows.entries ≡ false =
    rw back at (sym c.starts_dead.ensures ∙ c.loop-self-test.false) in
    left_live c.args.rows c.args.newest c.args.self.now.rows.entries c.loop-self.self.rows.entries c.loop-self.left
    c.args.self.now.ascend c.args.self.now.ordered left dead

pub returns-clause-counted : goal.returns-clause-counted
returns-clause-counted c = left_count c.args.rows (to_z w64 (of_z w64 c.args.newest)) c.args.self.now.rows.entries
    c.loop-self.self.rows.entries c.loop-self.left c.loop-self.invariant
