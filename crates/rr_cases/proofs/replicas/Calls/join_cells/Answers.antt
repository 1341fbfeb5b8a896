use Rattle.rr_cases.proofs.replicas.Calls.join_cells.Goals as goal

-- the page is read under the schema of the replica
pub join_cells-joined-requires : goal.join_cells-joined-requires
join_cells-joined-requires g c = rw c.deref-2.ensures.value (rw c.schema.ensures.value at c.in_ok-cells.ensures.cells)
