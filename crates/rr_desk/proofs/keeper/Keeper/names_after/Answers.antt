use Rattle.std.proofs.Common.{◌≡◌, All, IfOk, map, subst, take, ap, ◌∙◌}
use Rattle.std.specs.FinMap.{entries}
use Rattle.rr_schema.specs.Schema.{Layout}
use Rattle.rr_cells.specs.Cells.{Cells}
use Rattle.rr_delta.specs.Names.{IsNameOf, name_in, named_version, owned_name}
use Rattle.rr_delta.specs.Summaries.{cells_after}
use Rattle.rr_desk.specs.KeeperState.{cells_of}
use Rattle.rr_desk.proofs.keeper.Keeper.names_after.Goals as goal

pub returns : goal.returns
returns g c = record {
  listed =
      subst (λ (m : Cells). IfOk c.summary_after.result
      (λ names. map owned_name names.items ≡ take c.args.count
      (map named_version (cells_after (name_in c.args.after) (entries m)))))
      (c.replica.ensures.cells ∙ ap cells_of c.self.view_is) c.summary_after.ensures.listed;
  ascending = c.summary_after.ensures.ascending;
  of_schema =
      subst (λ (s : Layout). IfOk c.summary_after.result (λ names. All (λ n. IsNameOf s (owned_name n)) names.items))
      (c.replica.ensures.schema ∙ ap (λ k. k.schema) c.self.view_is) c.summary_after.ensures.of_schema;
}
