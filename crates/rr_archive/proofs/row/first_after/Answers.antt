use Rattle.std.proofs.Common.{rules, tests, ◌∙◌}
use Rattle.std.proofs.lemmas.Iterator.{YieldsList-from_slice}
use Rattle.std.proofs.lemmas.Iterator.Search.{find_from_yields_List}
use Rattle.rr_archive.specs.Row.{is_after}
use Rattle.rr_archive.proofs.row.first_after.Goals as goal

pub returns : goal.returns
returns c = c.copied.ensures ∙ find_from_yields_List (is_after c.args.is_later c.args.origin) _ _ c.find.result
    c.find.ensures.ran (YieldsList-from_slice c.args.row.now cc) (λ x b q k. search (rules, tests))
