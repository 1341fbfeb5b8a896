use Rattle.std.proofs.Common.{List, ℕ, Ok, ap, subst, sym, ◌∙◌}
use Rattle.std.specs.Prelude.{Option}
use Rattle.rr_codec.specs.Decoding.{TakesNext}
use Rattle.rr_codec.specs.Fields.{SlotEntry}
use Rattle.rr_codec.specs.Reading.{cells_left, packed_at}
use Rattle.rr_journal.specs.Body.{packed_cells}
use Rattle.rr_recovery.specs.Joining.{group_cells}
use Rattle.rr_recovery.proofs.TakingLemmas.{is_opened}
use Rattle.rr_replication.proofs.CellLemmas.{all_left, others_left}
use Rattle.rr_replication.proofs.cells.push_group.Goals as goal

pub returns-in_err-packed : goal.returns-in_err-packed
returns-in_err-packed c =
    absurd (is_opened c.args.schema.now c.args.group.now.archive c.args.group.now.packed.items _ c.requires.1
    (sym (ap packed_at c.deref.ensures.value) ∙ c.in_err-packed.ensures.0))

pub loop-entry-init : goal.loop-entry-init
loop-entry-init c =
    all_left c.args.schema.now c.args.group.now.key c.args.group.now.archive c.args.group.now.packed.items
    c.in_ok-packed.packed.cells c.args.cells.now.items c.requires.1
    (c.in_ok-packed.ensures ∙ ap (λ (bytes : List ℕ). cells_left (packed_at bytes)) c.deref.ensures.value)

pub loop-entry-preserved : goal.loop-entry-preserved
loop-entry-preserved c =
    let takes = subst (λ (o : Option SlotEntry). TakesNext c.loop-entry.packed c.next.new.self (Ok o)) c.in-Some.is
    c.in_ok-entry.ensures in
    others_left c.args.schema.now c.args.group.now.key c.args.group.now.archive c.in-Some.entry c.in_ok-cell.cell
    c.is_of-is_of.result c.loop-entry.packed c.next.new.self c.args.cells.now.items c.loop-entry.cells.items
    c.push.new.self.items (group_cells (packed_cells c.args.group.now)) c.requires.0 c.loop-entry.invariant takes
    c.in_ok-cell.ensures c.is_of-is_of.ensures.tested c.is_of-is_of.ensures.cell c.in_ok-push.ensures.items
