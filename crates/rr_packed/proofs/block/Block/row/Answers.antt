use Rattle.std.proofs.Common.{rules, ◌≡◌, sym, ◌∙◌, None}
use Rattle.rr_packed.specs.Sparse.{item_in}
use Rattle.rr_packed.proofs.BlockLemmas.{items_by_entries, items_by_sample}
use Rattle.rr_packed.proofs.block.Block.row.Goals as goal

pub returns-in-Some : goal.returns-in-Some
returns-in-Some c = c.as_slice.ensures ∙ sym (items_by_entries c.args.self.now c.args.number.value c.in-Some.entries.now
    (sym c.in-Some.ensures.value))

pub returns-in-Some-entry_read : goal.returns-in-Some-entry_read
returns-in-Some-entry_read c =
    let none : item_in c.args.self.now.rows c.args.number.value ≡ None = search rules in
    sym (items_by_sample c.args.self.now c.args.number.value none ∙ c.in-Some-entry_read.ensures.found)

pub returns-in-None : goal.returns-in-None
returns-in-None c =
    let none : item_in c.args.self.now.rows c.args.number.value ≡ None = search rules in
    sym (items_by_sample c.args.self.now c.args.number.value none ∙ c.entry_read.ensures.none c.in-None.is)
