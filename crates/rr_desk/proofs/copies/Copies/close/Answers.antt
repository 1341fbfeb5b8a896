use Rattle.rr_desk.proofs.KeeperStateLemmas.{own-state}
use Rattle.rr_desk.proofs.copies.Copies.close.Goals as goal

pub returns : goal.returns
returns g c = own-state _ _ _ _ _ _ _ _ _ _ _ c.self.invariant.0 c.self.view_is
