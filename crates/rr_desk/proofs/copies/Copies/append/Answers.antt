use Rattle.std.proofs.Common.{rules, true, false, ◌≡◌, ◌+◌, ◌-◌, [], ◌∷◌, ◌++◌, append_assoc, length, true≢false, refl, sym, ap, ◌∙◌, subst}
use Rattle.std.specs.Prelude.{IsOk}
use Rattle.left_right.specs.Sides.{view}
use Rattle.rr_cells.specs.ReplicaState.{ReplicaState}
use Rattle.rr_cells.specs.Operations.{accepts, step}
use Rattle.rr_replica.specs.ReplicaWithRoom.{ReplicaWithRoom, replica_state}
use Rattle.rr_desk.specs.declared.rule.View.{View}
use Rattle.rr_desk.specs.Changes.{AreNamed, IsOwn, names_of, ops_in, prefix_after}
use Rattle.rr_desk.specs.Editions.{BookPrefix}
use Rattle.rr_desk.specs.KeeperState.{KeeperState, IsKeeper}
use Rattle.rr_desk.specs.Writers.{all_ops, changes}
use Rattle.rr_desk.proofs.KeeperStateLemmas.{keeper-push, own-state, push-state, tied-origin}
use Rattle.rr_desk.proofs.NamingLemmas.{named-grown, named-pushed, ops-appended, own-accepted}
use Rattle.rr_desk.proofs.UnwrittenLemmas.{keeper-readied, unwritten-push, written-stays}
use Rattle.rr_desk.proofs.copies.Copies.append.Goals as goal

pub invariant_of-self-2 : goal.invariant_of-self-2
invariant_of-self-2 g c =
    let k = c.self.inside in
    let o = k.writer in
    let w = c.name_keys.new.writer in
    let n = c.append.new.self in
    let names = names_of o.desk.shown.value.replica in
    let op = c.args.op.now in
    let desk = sym (c.append.ensures.desk ∙ c.name_keys.ensures.keys.desk) in
    let may : accepts (replica_state k.own) op ≡ true =
    ap (λ (h : ReplicaState). accepts h op) (own-state _ _ _ _ _ _ _ _ _ _ _ c.self.invariant.0 c.self.view_is)
    ∙ c.requires in
    let mine : IsOwn names.origin op = subst (λ origin. IsOwn origin op)
    (tied-origin _ _ _ _ c.self.invariant.0.tied) (own-accepted (replica_state k.own) op may) in
    let longer : changes n ≡ changes w ++ c.in_ok-change.change ∷ [] = search rules in
    let left : ops_in names (changes n) ≡ ops_in names (changes o) ++ op ∷ [] = ops-appended names
    c.ready_series.new.self.keys (changes o) (changes w) (changes n) c.name_keys.new.named c.in_ok-series.series op
    c.in_ok-change.change c.in_ok-name_keys.ensures.named c.in_ok-name_keys.ensures.all c.in_ok-series.ensures.key mine
    c.in_ok-change.ensures c.in_ok-name_keys.ensures.keys.pending longer in
    let is : replica_state c.apply_numbered.new.self ≡ step (replica_state k.own) op =
    c.in_ok-apply_numbered.ensures.state.made
    ∙ ap (λ (h : ReplicaState). step h op) c.ready_series.ensures.ready.unchanged in
    let named = named-pushed names c.ready_series.new.self.keys (changes w) c.name_keys.new.named
    c.in_ok-name_keys.ensures.named c.in_ok-series.series op c.in_ok-change.change (changes n) c.in_ok-change.ensures
    longer in
    let both = subst (λ (z : View × ReplicaWithRoom × BookPrefix). IsKeeper z.0 (replica_state z.1) (names_of z.1)
    (replica_state c.apply_numbered.new.self) z.2 k.book (changes n) false
    × AreNamed (names_of z.1) c.apply_numbered.new.self.keys (changes n) c.name_keys.new.named)
    (λ i. (view (desk i).place, (desk i).shown.value.replica, (desk i).shown.value.prefix)) (
      keeper-push (view o.desk.place) (replica_state o.desk.shown.value.replica) names (replica_state k.own)
          (replica_state c.apply_numbered.new.self) o.desk.shown.value.prefix k.book (changes o) (changes n) k.ended op
          c.self.invariant.0 may is left,
      subst (λ keys. AreNamed names keys (changes n) c.name_keys.new.named) (sym c.apply_numbered.ensures.keys) named,
    ) in
    let all : all_ops n ≡ all_ops o ++ op ∷ [] =
    (λ i. (view (sym desk i).place).seen ++ ops_in (names_of (sym desk i).shown.value.replica) (changes n))
    ∙ ap (λ l. (view o.desk.place).seen ++ l) left
    ∙ sym (append_assoc (view o.desk.place).seen (ops_in names (changes o)) (op ∷ [])) in (
      both.0,
      both.1,
      unwritten-push (replica_state k.own) (replica_state c.apply_numbered.new.self) k.own.keys
          c.ready_series.new.self.keys c.apply_numbered.new.self.keys k.unwritten c.ready.new.self c.add.new.self
          (all_ops o) (all_ops n) op c.in_ok-series.series c.may_change-changes.result c.self.invariant.2
          c.ready_series.ensures.keys_grow c.ready.ensures.same c.ready.ensures.count c.may_change-changes.ensures
          c.in_ok-series.ensures.key c.add.ensures.count c.add.ensures.tracked c.add.ensures.same is
          c.apply_numbered.ensures.keys all,
    )

pub returns : goal.returns
returns g c = record {
  state = record {
    made =
        let k = c.self.inside in
        let o = k.writer in
        let w = c.name_keys.new.writer in
        let n = c.append.new.self in
        let names = names_of o.desk.shown.value.replica in
        let op = c.args.op.now in
        let s = c.args.self.now in
        let desk = c.append.ensures.desk ∙ c.name_keys.ensures.keys.desk in
        let may : accepts (replica_state k.own) op ≡ true =
        ap (λ (h : ReplicaState). accepts h op) (own-state _ _ _ _ _ _ _ _ _ _ _ c.self.invariant.0 c.self.view_is)
        ∙ c.requires in
        let mine : IsOwn names.origin op = subst (λ origin. IsOwn origin op)
        (tied-origin _ _ _ _ c.self.invariant.0.tied) (own-accepted (replica_state k.own) op may) in
        let longer : changes n ≡ changes w ++ c.in_ok-change.change ∷ [] = search rules in
        let left : ops_in names (changes n) ≡ ops_in names (changes o) ++ op ∷ [] = ops-appended names
        c.ready_series.new.self.keys (changes o) (changes w) (changes n) c.name_keys.new.named c.in_ok-series.series op
        c.in_ok-change.change c.in_ok-name_keys.ensures.named c.in_ok-name_keys.ensures.all
        c.in_ok-series.ensures.key mine
        c.in_ok-change.ensures c.in_ok-name_keys.ensures.keys.pending longer in
        let own = own-state _ _ _ _ _ _ _ _ _ _ _ c.self.invariant.0 c.self.view_is in
        let seen : (view n.desk.place).seen ≡ s.published = (λ i. (view (desk i).place).seen)
        ∙ ap (λ (z : KeeperState). z.published) c.self.view_is in
        let same : (view n.desk.place).desk ≡ s.desk = (λ i. (view (desk i).place).desk)
        ∙ ap (λ (z : KeeperState). z.desk) c.self.view_is in
        let more : ops_in (names_of n.desk.shown.value.replica) (changes n) ≡ s.pending ++ op ∷ [] =
        (λ i. ops_in (names_of (desk i).shown.value.replica) (changes n))
        ∙ (left ∙ ap (λ (z : KeeperState). z.pending ++ op ∷ []) c.self.view_is) in
        let all : all_ops n ≡ all_ops o ++ op ∷ [] =
        (λ i. (view (desk i).place).seen ++ ops_in (names_of (desk i).shown.value.replica) (changes n))
        ∙ ap (λ l. (view o.desk.place).seen ++ l) left
        ∙ sym (append_assoc (view o.desk.place).seen (ops_in names (changes o)) (op ∷ [])) in
        let kept : length (all_ops n) - c.add.new.self.count ≡ s.written =
        written-stays (all_ops o) (all_ops n) op k.unwritten.count c.add.new.self.count all
        (c.add.ensures.count ∙ ap (λ m. m + 1) c.ready.ensures.count)
        ∙ ap (λ (z : KeeperState). z.written) c.self.view_is in
        push-state s (replica_state c.apply_numbered.new.self) op _ _ _ _ c.requires
        (c.in_ok-apply_numbered.ensures.state.made ∙ ap (λ (h : ReplicaState). step h op)
        (c.ready_series.ensures.ready.unchanged ∙ own)) same seen more kept;
    unchanged = search rules;
  };
}

-- where nothing could be appended, all is as before
pub invariant_of-self-then-is_err : goal.invariant_of-self-then-is_err
invariant_of-self-then-is_err g c =
    let k = c.self.inside in
    let o = k.writer in
    let w = c.name_keys.new.writer in
    let n = c.append.new.self in
    let names = names_of o.desk.shown.value.replica in
    let more = c.ready_series.new.self.keys in
    let desk = c.append.ensures.desk ∙ c.name_keys.ensures.keys.desk in
    let same : changes n ≡ changes w = search rules in
    keeper-readied (view o.desk.place, o.desk.shown.value.replica, o.desk.shown.value.prefix) _ (replica_state k.own)
    (replica_state c.ready_series.new.self) k.own.keys more k.book (changes o) (changes n) c.name_keys.new.named k.ended
    k.unwritten c.ready.new.self (λ i. (view (desk i).place, (desk i).shown.value.replica, (desk i).shown.value.prefix))
    c.ready_series.ensures.ready.unchanged c.self.invariant.0 (ap (ops_in names) same ∙ c.name_keys.ensures.keys.pending)
    (ap (prefix_after o.desk.shown.value.prefix) same ∙ c.name_keys.ensures.keys.prefix o.desk.shown.value.prefix)
    (subst (λ cs. AreNamed names more cs c.name_keys.new.named) (sym same) c.name_keys.ensures.named) c.self.invariant.2
    c.ready_series.ensures.keys_grow c.ready.ensures.same c.ready.ensures.count

pub invariant_of-self : goal.invariant_of-self
invariant_of-self g c =
    let k = c.self.inside in
    let o = k.writer in
    let more = c.ready_series.new.self.keys in
    keeper-readied (view o.desk.place, o.desk.shown.value.replica, o.desk.shown.value.prefix) _ (replica_state k.own)
    (replica_state c.ready_series.new.self) k.own.keys more k.book (changes o) (changes o) k.named k.ended k.unwritten
    k.unwritten refl c.ready_series.ensures.ready.unchanged c.self.invariant.0 refl refl
    (named-grown _ k.own.keys (changes o) k.named c.self.invariant.1 more c.ready_series.ensures.keys_grow)
    c.self.invariant.2 c.ready_series.ensures.keys_grow (λ i. refl) refl

pub invariant_of-self-in_err-ready : goal.invariant_of-self-in_err-ready
invariant_of-self-in_err-ready g c =
    let k = c.self.inside in
    let o = k.writer in
    let more = c.ready_series.new.self.keys in
    keeper-readied (view o.desk.place, o.desk.shown.value.replica, o.desk.shown.value.prefix) _ (replica_state k.own)
    (replica_state c.ready_series.new.self) k.own.keys more k.book (changes o) (changes o) k.named k.ended k.unwritten
    c.ready.new.self refl c.ready_series.ensures.ready.unchanged c.self.invariant.0 refl refl
    (named-grown _ k.own.keys (changes o) k.named c.self.invariant.1 more c.ready_series.ensures.keys_grow)
    c.self.invariant.2 c.ready_series.ensures.keys_grow c.ready.ensures.same c.ready.ensures.count

pub invariant_of-self-in_err-name_keys : goal.invariant_of-self-in_err-name_keys
invariant_of-self-in_err-name_keys g c =
    let k = c.self.inside in
    let o = k.writer in
    let w = c.name_keys.new.writer in
    let desk = c.name_keys.ensures.keys.desk in
    keeper-readied (view o.desk.place, o.desk.shown.value.replica, o.desk.shown.value.prefix) _ (replica_state k.own)
    (replica_state c.ready_series.new.self) k.own.keys c.ready_series.new.self.keys k.book (changes o) (changes w)
    c.name_keys.new.named k.ended k.unwritten c.ready.new.self
    (λ i. (view (desk i).place, (desk i).shown.value.replica, (desk i).shown.value.prefix))
    c.ready_series.ensures.ready.unchanged c.self.invariant.0 c.name_keys.ensures.keys.pending
    (c.name_keys.ensures.keys.prefix o.desk.shown.value.prefix) c.name_keys.ensures.named c.self.invariant.2
    c.ready_series.ensures.keys_grow c.ready.ensures.same c.ready.ensures.count

pub invariant_of-self-in_err-change : goal.invariant_of-self-in_err-change
invariant_of-self-in_err-change g c =
    let k = c.self.inside in
    let o = k.writer in
    let w = c.name_keys.new.writer in
    let desk = c.name_keys.ensures.keys.desk in
    keeper-readied (view o.desk.place, o.desk.shown.value.replica, o.desk.shown.value.prefix) _ (replica_state k.own)
    (replica_state c.ready_series.new.self) k.own.keys c.ready_series.new.self.keys k.book (changes o) (changes w)
    c.name_keys.new.named k.ended k.unwritten c.ready.new.self
    (λ i. (view (desk i).place, (desk i).shown.value.replica, (desk i).shown.value.prefix))
    c.ready_series.ensures.ready.unchanged c.self.invariant.0 c.name_keys.ensures.keys.pending
    (c.name_keys.ensures.keys.prefix o.desk.shown.value.prefix) c.name_keys.ensures.named c.self.invariant.2
    c.ready_series.ensures.keys_grow c.ready.ensures.same c.ready.ensures.count

-- room was made, so it is applied
pub invariant_of-self-in_err-apply_numbered : goal.invariant_of-self-in_err-apply_numbered
invariant_of-self-in_err-apply_numbered g c =
    let ok : IsOk c.apply_numbered.result = c.apply_numbered.ensures.room c.in_ok-series.ensures.ready.room in
    absurd (true≢false (sym (subst IsOk c.in_err-apply_numbered.was ok)))
