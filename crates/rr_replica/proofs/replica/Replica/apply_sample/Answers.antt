use Rattle.std.proofs.Common.{◌≡◌, true, true≢false, sym, subst, ◌∙◌, rules}
use Rattle.std.proofs.Math.Facts.{to_z-of_z}
use Rattle.std.specs.Int.{w64}
use Rattle.std.specs.Prelude.{IsOk}
use Rattle.rr_cells.specs.Operations.{accepts}
use Rattle.rr_cells.specs.declared.op.Op.TheVariants.{Put}
use Rattle.rr_replica.specs.ReplicaWithRoom.{replica_state}
use Rattle.rr_replica.proofs.replica.Replica.apply_sample.Goals as goal

pub invariant_of-unkeyed : goal.invariant_of-unkeyed
invariant_of-unkeyed g c =
    let taken = c.accepts_sample.ensures.op c.if-not-accepts_sample.false in
    record { number_at_least = taken.1; number_at_most = taken.2 }

pub returns-in_err-put_unkeyed : goal.returns-in_err-put_unkeyed
returns-in_err-put_unkeyed g c = record {
  accepted = search rules;
  state = search rules;
  room =
      λ ready.
      let taken : accepts (replica_state c.args.self.now) (Put c.args.sample.now) ≡ true =
      sym c.accepts_sample.ensures.accepted ∙ c.if-not-accepts_sample.false in
      let back = to_z-of_z {w = w64} {z = c.args.sample.now.time} (search rules) in
      let ok : IsOk c.put_unkeyed.result = (rw back at c.put_unkeyed.ensures.room) (ready taken) in
      absurd (true≢false (sym (subst IsOk c.in_err-put_unkeyed.was ok)));
}
