use Rattle.std.proofs.Common.{rules, ◌<◌, length, sym, ap, ◌∙◌, is_some}
use Rattle.rr_packed.proofs.SparseLemmas.{item_found, item_none, get_there}
use Rattle.rr_packed.proofs.block.Block.has_entries.Goals as goal

pub returns-in-Some-clause-held : goal.returns-in-Some-clause-held
returns-in-Some-clause-held c =
    let rows = c.args.self.now.rows in
    let within : c.in-Some._at < length rows.items.items = search rules in
    sym (ap is_some (item_found rows.mask rows.items.items c.args.number.value c.in-Some._at c.in-Some.ensures.place)
    ∙ get_there rows.items.items c.in-Some._at within)

pub returns-in-None-clause-held : goal.returns-in-None-clause-held
returns-in-None-clause-held c =
    let rows = c.args.self.now.rows in
    sym (ap is_some (item_none rows.mask rows.items.items c.args.number.value (sym c.in-None.ensures.place)))
