use Rattle.std.proofs.Common.{rules, ◌≡◌, ◌<◌, true, [], ◌∷◌, get_or, length, fold, sym, ap, ◌∙◌, subst}
use Rattle.std.specs.List.{AllByRecursion}
use Rattle.std.proofs.Math.Facts.{to_z-of_z}
use Rattle.std.proofs.lemmas.Option.{slice_get-get_or}
use Rattle.std.proofs.lemmas.Result.{on_ok_weaker}
use Rattle.std.specs.Int.{w64}
use Rattle.rr_cells.specs.declared.op.Op.TheVariants.{Put}
use Rattle.rr_cells.specs.Operations.{accepts, step}
use Rattle.rr_cells.proofs.OperationsLemmas.{step_accepted}
use Rattle.rr_replica.specs.Numbered.{put_of, puts_at}
use Rattle.rr_replica.specs.ReplicaWithRoom.{replica_state, IsReadyFor}
use Rattle.rr_replica.proofs.replica.Replica.apply_put_numbered.Goals as goal

pub returns : goal.returns
returns g c = record {
  state = record {
    made =
        let r = c.args.self.now in
        let key = get_or r.keys c.args.series [] in
        let op = Put (record {
          origin = r.origin;
          number = c.args.number;
          key = key;
          time = c.args.time;
          value = c.args.value;
        }) in
        let within : c.args.series < length r.keys = search rules in
        let puts : puts_at r.keys r.origin c.args.series c.args.number c.args.time c.args.value ≡ op ∷ [] =
        ap (put_of r.origin c.args.number c.args.time c.args.value) (slice_get-get_or r.keys c.args.series [] within) in
        let may : accepts (replica_state r) op ≡ true = search rules in
        let time = to_z-of_z {w = w64} {z = c.args.time} (search rules) in
        let value = to_z-of_z {w = w64} {z = c.args.value} (search rules) in
        let put = rw (time, value, c.origin.ensures) at c.put_unkeyed_at.ensures.state.made in
        on_ok_weaker c.put_unkeyed_at.result (λ e. e ∙ (sym (step_accepted (replica_state r) op may)
        ∙ ap (fold step (replica_state r)) (sym puts))) put;
    unchanged = search rules;
  };
  keys = search rules;
  room =
      λ ready.
      let r = c.args.self.now in
      let key = get_or r.keys c.args.series [] in
      let op = Put (record {
        origin = r.origin;
        number = c.args.number;
        key = key;
        time = c.args.time;
        value = c.args.value;
      }) in
      let within : c.args.series < length r.keys = search rules in
      let puts : puts_at r.keys r.origin c.args.series c.args.number c.args.time c.args.value ≡ op ∷ [] =
      ap (put_of r.origin c.args.number c.args.time c.args.value) (slice_get-get_or r.keys c.args.series [] within) in
      let may : accepts (replica_state r) op ≡ true = search rules in
      let one : AllByRecursion (IsReadyFor r) (op ∷ []) = subst (AllByRecursion (IsReadyFor r)) puts ready in
      let time = to_z-of_z {w = w64} {z = c.args.time} (search rules) in
      (rw (time, c.origin.ensures) at c.put_unkeyed_at.ensures.room) (one.0 may);
}
