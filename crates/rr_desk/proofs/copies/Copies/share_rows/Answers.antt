use Rattle.std.proofs.Common.{◌-◌, length, refl, sym, ◌∙◌, subst}
use Rattle.left_right.specs.Sides.{view}
use Rattle.rr_cells.specs.ReplicaState.{ReplicaState}
use Rattle.rr_replica.specs.ReplicaWithRoom.{replica_state}
use Rattle.rr_desk.specs.Changes.{AreNamed, names_of, ops_in}
use Rattle.rr_desk.specs.KeeperState.{IsKeeper}
use Rattle.rr_desk.specs.Writers.{all_ops, changes}
use Rattle.rr_desk.proofs.UnwrittenLemmas.{same_keys, unwritten-kept}
use Rattle.rr_desk.proofs.copies.Copies.share_rows.Goals as goal

pub invariant_of-self : goal.invariant_of-self
invariant_of-self g c =
    let k = c.self.inside in
    let w = k.writer in
    let names = names_of w.desk.shown.value.replica in (
      subst (λ (own : ReplicaState). IsKeeper (view w.desk.place) (replica_state w.desk.shown.value.replica) names own
          w.desk.shown.value.prefix k.book (changes w) k.ended) (sym c.share_rows.ensures.unchanged) c.self.invariant.0,
      subst (λ keys. AreNamed names keys (changes w) k.named) (sym c.share_rows.ensures.keys) c.self.invariant.1,
      unwritten-kept (replica_state k.own) _ k.own.keys _ k.unwritten k.unwritten (all_ops w) (all_ops w)
          c.self.invariant.2 c.share_rows.ensures.unchanged (same_keys _ _ c.share_rows.ensures.keys) (λ i. refl) refl
          refl,
    )

pub returns : goal.returns
returns g c =
    let w = c.self.inside.writer in
    let same = c.share_rows.ensures.unchanged in
    (λ i. record {
      desk = (view w.desk.place).desk;
      schema = (same i).schema;
      origin = (same i).origin;
      next = (same i).next;
      published = (view w.desk.place).seen;
      pending = ops_in (names_of w.desk.shown.value.replica) (changes w);
      written = length (all_ops w) - c.self.inside.unwritten.count;
    })
    ∙ c.self.view_is
