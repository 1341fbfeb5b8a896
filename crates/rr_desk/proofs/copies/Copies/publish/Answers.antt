use Rattle.std.proofs.Common.{rules, true, ◌≡◌, ◌-◌, List, [], ◌++◌, append-nil, fold, length, sym, ap, ◌∙◌, subst}
use Rattle.std.specs.Prelude.{Err, Ok, OnErr, Result}
use Rattle.left_right.specs.Sides.{view}
use Rattle.rr_cells.specs.declared.op.Op.{Op}
use Rattle.rr_cells.specs.Operations.{step}
use Rattle.rr_replica.specs.ReplicaWithRoom.{ReplicaWithRoom, replica_state}
use Rattle.rr_desk.specs.declared.rule.View.{View}
use Rattle.rr_desk.specs.declared.shown.Shown.{Shown}
use Rattle.rr_desk.specs.Changes.{AreNamed, prefix_after, names_at, names_of, ops_in}
use Rattle.rr_desk.specs.Editions.{BookPrefix, flat, Begins}
use Rattle.rr_desk.specs.Rule.{with_published}
use Rattle.rr_desk.specs.KeeperState.{IsKeeper, IsReady, KeeperState}
use Rattle.rr_desk.specs.Unwritten.{IsUnwritten}
use Rattle.rr_desk.specs.Writers.{all_ops, changes}
use Rattle.rr_desk.proofs.KeeperStateLemmas.{keeper-ended, keeper-published, keeper-same, keeper-unmarked}
use Rattle.rr_desk.proofs.NamingLemmas.{named-same}
use Rattle.rr_desk.proofs.copies.Copies.publish.Goals as goal

pub invariant_of-self : goal.invariant_of-self
invariant_of-self g c =
    let k = c.self.inside in
    let w = c.end_edition.new.writer in
    let o = k.writer in
    let names = names_of o.desk.shown.value.replica in
    let desk = sym {a = w.desk} c.end_edition.ensures.same_copy in
    let same : changes w ≡ changes o = search rules in
    let both = subst (λ (z : View × ReplicaWithRoom × BookPrefix). IsKeeper z.0 (replica_state z.1) (names_of z.1)
    (replica_state k.own) z.2 c.end_edition.new.book (changes w) k.ended
    × AreNamed (names_of z.1) k.own.keys (changes w) k.named)
    (λ i. (view (desk i).place, (desk i).shown.value.replica, (desk i).shown.value.prefix)) (
      keeper-unmarked (view o.desk.place) (replica_state o.desk.shown.value.replica) names (replica_state k.own)
          o.desk.shown.value.prefix k.book c.end_edition.new.book (changes o) (changes w) k.ended c.self.invariant.0
          c.end_edition.ensures.same_desk c.end_edition.ensures.begins same,
      named-same names k.own.keys (changes o) k.named c.self.invariant.1 names (changes w)
          c.end_edition.ensures.names,
    ) in
    let all : all_ops w ≡ all_ops o =
    (λ i. (view (sym desk i).place).seen ++ ops_in (names_of (sym desk i).shown.value.replica) (changes w))
    ∙ ap (λ l. (view o.desk.place).seen ++ l) c.end_edition.ensures.pending in
    (both.0, both.1, subst (IsUnwritten (replica_state k.own) k.own.keys k.unwritten) (sym all) c.self.invariant.2)

pub invariant_of-self-in_err-replace_with : goal.invariant_of-self-in_err-replace_with
invariant_of-self-in_err-replace_with g c =
    let k = c.self.inside in
    let w = c.end_edition.new.writer in
    let o = k.writer in
    let n = c.replace_with.new.dest in
    let b = c.end_edition.new.book in
    let desk = sym {a = w.desk} c.end_edition.ensures.same_copy in
    let h : (view n.desk.place ≡ view w.desk.place) × (n.desk.shown.value ≡ w.desk.shown.value)
    × (changes n ≡ changes w) = search rules in
    let ready : IsReady (view w.desk.place) (replica_state w.desk.shown.value.replica)
    (names_of w.desk.shown.value.replica) w.desk.shown.value.prefix (changes w) = c.in_ok-end_edition.ensures.ready in
    let was : IsKeeper (view w.desk.place) (replica_state w.desk.shown.value.replica)
    (names_of w.desk.shown.value.replica) (replica_state k.own) w.desk.shown.value.prefix k.book (changes o) k.ended
    × Begins (flat b.editions) ((view w.desk.place).seen ++ ops_in (names_of w.desk.shown.value.replica) (changes o))
    × (ops_in (names_of w.desk.shown.value.replica) (changes w)
    ≡ ops_in (names_of w.desk.shown.value.replica) (changes o))
    × (names_at (names_of w.desk.shown.value.replica) (changes w)
    ≡ names_at (names_of w.desk.shown.value.replica) (changes o))
    × AreNamed (names_of w.desk.shown.value.replica) k.own.keys (changes o) k.named =
    subst (λ (z : View × ReplicaWithRoom × BookPrefix). IsKeeper z.0 (replica_state z.1) (names_of z.1)
    (replica_state k.own) z.2 k.book (changes o) k.ended
    × Begins (flat b.editions) (z.0.seen ++ ops_in (names_of z.1) (changes o))
    × (ops_in (names_of z.1) (changes w) ≡ ops_in (names_of z.1) (changes o))
    × (names_at (names_of z.1) (changes w) ≡ names_at (names_of z.1) (changes o))
    × AreNamed (names_of z.1) k.own.keys (changes o) k.named)
    (λ i. (view (desk i).place, (desk i).shown.value.replica, (desk i).shown.value.prefix)) (
      c.self.invariant.0,
      c.end_edition.ensures.begins,
      c.end_edition.ensures.pending,
      c.end_edition.ensures.names,
      c.self.invariant.1,
    ) in
    let kept = keeper-ended (view w.desk.place) (replica_state w.desk.shown.value.replica)
    (names_of w.desk.shown.value.replica) (replica_state k.own) w.desk.shown.value.prefix k.book b (changes o)
    (changes w) k.ended was.0 c.end_edition.ensures.same_desk was.1 was.2 ready in
    let named = named-same (names_of w.desk.shown.value.replica) k.own.keys (changes o) k.named was.4
    (names_of w.desk.shown.value.replica) (changes w) was.3 in (
      keeper-same (λ (s : Shown g.row.A.Denot). replica_state s.replica)
          (λ (s : Shown g.row.A.Denot). names_of s.replica) (λ (s : Shown g.row.A.Denot). s.prefix) _ _
          w.desk.shown.value n.desk.shown.value _ _ _ _ true h.0 h.1 h.2 kept,
      subst (λ (s : Shown g.row.A.Denot). AreNamed (names_of s.replica) k.own.keys (changes n) k.named) (sym h.1)
          (subst (λ cs. AreNamed (names_of w.desk.shown.value.replica) k.own.keys cs k.named) (sym h.2) named),
      subst (IsUnwritten (replica_state k.own) k.own.keys k.unwritten)
          (sym ((λ i. (h.0 i).seen ++ ops_in (names_of (h.1 i).replica) (h.2 i))
          ∙ (λ i. (view (sym desk i).place).seen ++ ops_in (names_of (sym desk i).shown.value.replica) (changes w))
          ∙ ap (λ l. (view o.desk.place).seen ++ l) c.end_edition.ensures.pending)) c.self.invariant.2,
    )

pub invariant_of-self-2 : goal.invariant_of-self-2
invariant_of-self-2 g c =
    let k = c.self.inside in
    let w = c.end_edition.new.writer in
    let o = k.writer in
    let n = c.replace_with.new.dest in
    let b = c.end_edition.new.book in
    let desk = sym {a = w.desk} c.end_edition.ensures.same_copy in
    let names = names_of w.desk.shown.value.replica in
    let h : (view n.desk.place ≡ with_published (view w.desk.place) (ops_in names (changes w))) × (changes n ≡ [])
    × (replica_state n.desk.shown.value.replica ≡ fold step (replica_state w.desk.shown.value.replica)
    (ops_in names (changes w))) × (n.desk.shown.value.prefix ≡ prefix_after w.desk.shown.value.prefix (changes w)) =
    search rules in
    let named : names_of n.desk.shown.value.replica ≡ names_at names (changes w) = search rules in
    let ready : IsReady (view w.desk.place) (replica_state w.desk.shown.value.replica) names w.desk.shown.value.prefix
    (changes w) = c.in_ok-end_edition.ensures.ready in
    let was : IsKeeper (view w.desk.place) (replica_state w.desk.shown.value.replica) names (replica_state k.own)
    w.desk.shown.value.prefix k.book (changes o) k.ended
    × Begins (flat b.editions) ((view w.desk.place).seen ++ ops_in names (changes o))
    × (ops_in names (changes w) ≡ ops_in names (changes o)) × (names_at names (changes w) ≡ names_at names (changes o))
    × AreNamed names k.own.keys (changes o) k.named =
    subst (λ (z : View × ReplicaWithRoom × BookPrefix). IsKeeper z.0 (replica_state z.1) (names_of z.1)
    (replica_state k.own) z.2 k.book (changes o) k.ended
    × Begins (flat b.editions) (z.0.seen ++ ops_in (names_of z.1) (changes o))
    × (ops_in (names_of z.1) (changes w) ≡ ops_in (names_of z.1) (changes o))
    × (names_at (names_of z.1) (changes w) ≡ names_at (names_of z.1) (changes o))
    × AreNamed (names_of z.1) k.own.keys (changes o) k.named)
    (λ i. (view (desk i).place, (desk i).shown.value.replica, (desk i).shown.value.prefix)) (
      c.self.invariant.0,
      c.end_edition.ensures.begins,
      c.end_edition.ensures.pending,
      c.end_edition.ensures.names,
      c.self.invariant.1,
    ) in
    let kept = keeper-ended (view w.desk.place) (replica_state w.desk.shown.value.replica) names
    (replica_state k.own) w.desk.shown.value.prefix k.book b (changes o) (changes w) k.ended was.0
    c.end_edition.ensures.same_desk was.1 was.2 ready in (
      keeper-published _ _ _ _ _ _ _ _ _ _ (changes w) _ h.0 h.1 h.2 h.3 kept,
      named-same names k.own.keys (changes o) k.named was.4 (names_of n.desk.shown.value.replica) (changes n)
          (ap (names_at (names_of n.desk.shown.value.replica)) h.1 ∙ (named ∙ was.3)),
      subst (IsUnwritten (replica_state k.own) k.own.keys k.unwritten)
          (sym ((λ i. (h.0 i).seen ++ ops_in (names_of n.desk.shown.value.replica) (h.1 i))
          ∙ append-nil ((view w.desk.place).seen ++ ops_in names (changes w))
          ∙ (λ i. (view (sym desk i).place).seen ++ ops_in (names_of (sym desk i).shown.value.replica) (changes w))
          ∙ ap (λ l. (view o.desk.place).seen ++ l) c.end_edition.ensures.pending)) c.self.invariant.2,
    )

-- where the copies weren't swapped, all is as before
pub returns-in_err-replace_with : goal.returns-in_err-replace_with
returns-in_err-replace_with g c =
    let k = c.self.inside in
    let w = c.end_edition.new.writer in
    let o = k.writer in
    let n = c.replace_with.new.dest in
    let desk : w.desk ≡ o.desk = c.end_edition.ensures.same_copy in
    let h : (view n.desk.place ≡ view w.desk.place) × (n.desk.shown.value ≡ w.desk.shown.value)
    × (changes n ≡ changes w) = search rules in
    let state : View → List Op → KeeperState = λ v ops. record {
      desk = v.desk;
      schema = k.own.schema;
      origin = k.own.origin;
      next = k.own.next;
      published = v.seen;
      pending = ops;
      written = length (v.seen ++ ops) - k.unwritten.count;
    } in
    let same : state (view n.desk.place) (ops_in (names_of n.desk.shown.value.replica) (changes n)) ≡ c.args.self.now =
    (λ i. state (h.0 i) (ops_in (names_of (h.1 i).replica) (h.2 i)))
    ∙ (λ i. state (view (desk i).place) (ops_in (names_of (desk i).shown.value.replica) (changes w)))
    ∙ ap (state (view o.desk.place)) c.end_edition.ensures.pending
    ∙ c.self.view_is in
    record { state = record { made = search rules; unchanged = whatever _ _ same } }
  where
    whatever : {T E : Type 0} (P : Type 0) (r : Result T E) → P → OnErr r P
    whatever P (Ok x) p = tt
    whatever P (Err e) p = p
