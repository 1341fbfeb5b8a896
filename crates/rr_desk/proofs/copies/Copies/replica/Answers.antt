use Rattle.rr_desk.proofs.KeeperStateLemmas.{cells-state, own-state}
use Rattle.rr_desk.proofs.copies.Copies.replica.Goals as goal

pub returns-clause-state : goal.returns-clause-state
returns-clause-state g c = own-state _ _ _ _ _ _ _ _ _ _ _ c.self.invariant.0 c.self.view_is

pub returns-clause-cells : goal.returns-clause-cells
returns-clause-cells g c = cells-state _ _ _ _ _ _ _ _ _ _ _ c.self.invariant.0 c.self.view_is
