use Rattle.std.proofs.Common.{◌+◌, take, subst, Option, ℕ, sym, ap, ◌∙◌}
use Rattle.rr_directory.specs.declared.name.FileName.TheVariants.{Journal}
use Rattle.rr_directory.specs.Start.{IsNewest, greater}
use Rattle.rr_directory.proofs.StartLemmas.{newest_more}
use Rattle.rr_directory.proofs.start.newest.Goals as goal

pub loop-name-preserved : goal.loop-name-preserved
loop-name-preserved c =
    let names = c.args.names.now in
    let i = c.loop-name.name-index in
    let more = newest_more names i (Journal 0) c.loop-name.newest c.loop-name-test.true c.loop-name.invariant in
    subst (λ (o : Option ℕ). IsNewest (take (i + 1) names) o)
    (sym (c.greater-newest.ensures ∙ ap (greater c.loop-name.newest) c.checkpoint_offset.ensures)) more
