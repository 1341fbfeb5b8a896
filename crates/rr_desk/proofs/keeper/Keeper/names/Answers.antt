use Rattle.std.proofs.Common.{◌≡◌, All, IfOk, drop, map, subst, take, ap, ◌∙◌}
use Rattle.rr_schema.specs.Schema.{Layout}
use Rattle.rr_cells.specs.Cells.{Cells}
use Rattle.rr_delta.specs.Names.{IsNameOf, owned_name, versions_of}
use Rattle.rr_desk.specs.KeeperState.{cells_of}
use Rattle.rr_desk.proofs.keeper.Keeper.names.Goals as goal

pub returns : goal.returns
returns g c = record {
  listed =
      subst (λ (m : Cells). IfOk c.summary.result (λ names. map owned_name names.items
      ≡ take c.args.count (drop c.args.from (versions_of m))))
      (c.replica.ensures.cells ∙ ap cells_of c.self.view_is) c.summary.ensures.listed;
  ascending = c.summary.ensures.ascending;
  of_schema =
      subst (λ (s : Layout). IfOk c.summary.result (λ names. All (λ n. IsNameOf s (owned_name n)) names.items))
      (c.replica.ensures.schema ∙ ap (λ k. k.schema) c.self.view_is) c.summary.ensures.of_schema;
}
