-- What a keeper keeps to: the published copy, its own replica and the book beside each other.
use Rattle.std.proofs.Common.{◌≡◌, ℕ, Bool, true, false, List, [], ◌∷◌, ◌++◌, fold, append_assoc, append-nil, refl, sym, ap, ◌∙◌, subst}
use Rattle.std.proofs.lemmas.List.Sums.{fold-append}
use Rattle.logbook.specs.Pages.{Book}
use Rattle.rr_schema.specs.Schema.{Layout}
use Rattle.rr_cells.specs.declared.op.Op.{Op}
use Rattle.rr_cells.specs.Cells.{Cells}
use Rattle.rr_cells.specs.ReplicaState.{IsReplicaState, ReplicaState}
use Rattle.rr_cells.specs.Operations.{accepts, with_op, cell_step, outcome_of, step, joins_of, AllAccepted}
use Rattle.rr_cells.proofs.OperationsLemmas.{accepted-append, outcome_of-append, outcome_of-joins, step_accepted, step-origin, step-schema, steps-cells, steps-schema}
use Rattle.rr_desk.specs.declared.rule.View.{View}
use Rattle.rr_desk.specs.declared.change.Change.{Change}
use Rattle.rr_desk.specs.declared.change.Change.TheVariants.{Edition}
use Rattle.rr_desk.specs.Changes.{Names, prefix_after, ops_in}
use Rattle.rr_desk.specs.Editions.{BookPrefix, flat, Begins}
use Rattle.rr_desk.specs.Rule.{with_published, keeper_of}
use Rattle.rr_desk.specs.KeeperState.{KeeperState, cells_of, own_replica, with_pending, IsKeeper, IsTied, IsBooked, IsReady}
use Rattle.rr_desk.proofs.EditionsLemmas.{begins-refl, begins-more}
use Rattle.rr_desk.proofs.ChangesLemmas.{prefix_after-more, ops_in-end_edition, steps-origin}

-- ---- the keeper's own replica

-- its cells are those after all operations, the published ones first
pub tied-cells : (v : View) (shown own : ReplicaState) (pending : List Op) → IsTied v shown own pending
    → own.cells ≡ outcome_of own.schema (v.seen ++ pending)
tied-cells v shown own pending t =
    let s = shown.schema in
    let schema : own.schema ≡ s = ap (λ (h : ReplicaState). h.schema) t.applied ∙ steps-schema pending shown in
    let cells : own.cells ≡ fold (cell_step s) shown.cells pending = ap (λ (h : ReplicaState). h.cells) t.applied
    ∙ steps-cells pending shown t.accepted in
    cells ∙ ap (λ (c : Cells). fold (cell_step s) c pending) t.cells ∙ sym (outcome_of-append s v.seen pending)
    ∙ ap (λ (l : Layout). outcome_of l (v.seen ++ pending)) (sym schema)

-- one operation more is pending
pub tied-push : (v : View) (shown own new : ReplicaState) (pending all : List Op) (op : Op) → IsTied v shown own pending
    → accepts own op ≡ true → new ≡ step own op → all ≡ pending ++ op ∷ [] → IsTied v shown new all
tied-push v shown own new pending all op t may is more =
    let here : accepts (fold step shown pending) op ≡ true = ap (λ (h : ReplicaState). accepts h op) (sym t.applied)
    ∙ may in
    let whole : IsTied v shown (step own op) (pending ++ op ∷ []) = record {
      writes = t.writes;
      joined = t.joined;
      schema = t.schema ∙ sym (step-schema own op);
      cells = t.cells;
      accepted = accepted-append pending (op ∷ []) shown t.accepted (here, tt);
      applied = ap (λ (h : ReplicaState). step h op) t.applied ∙ sym (fold-append step shown pending (op ∷ []));
    } in
    subst (λ (z : ReplicaState × List Op). IsTied v shown z.0 z.1) (λ i. (sym is i, sym more i)) whole

-- a publication leaves the two tied
tied-published : (v w : View) (x y own : ReplicaState) (pending : List Op) → w ≡ with_published v pending
    → y ≡ fold step x pending → IsTied v x own pending → IsTied w y own []
tied-published v w x y own pending now is t =
    let same : y ≡ own = is ∙ sym t.applied in
    let whole : IsTied (with_published v pending) own own [] = record {
      writes = t.writes;
      joined = t.joined;
      schema = t.schema;
      cells = tied-cells v x own pending t;
      accepted = tt;
      applied = refl;
    } in
    subst (λ (z : View × ReplicaState). IsTied z.0 z.1 own []) (λ i. (sym now i, sym same i)) whole

-- an opened desk is tied
pub tied-open : (v : View) (shown own : ReplicaState) (b : Book) (n : Names) (cs : List Change) → IsReplicaState own
    → v ≡ keeper_of own b → shown ≡ own → cs ≡ [] → IsTied v shown own (ops_in n cs)
tied-open v shown own b n cs holds is same none =
    let whole : IsTied (keeper_of own b) own own [] =
    record {
      writes = refl;
      joined = refl;
      schema = refl;
      cells =
          sym (outcome_of-joins own.schema own.cells holds.layout holds.live);
      accepted = tt;
      applied = refl;
    } in
    subst (λ (z : View × ReplicaState × List Op). IsTied z.0 z.1 own z.2)
    (λ i. (sym is i, sym same i, ops_in n (sym none i))) whole

-- ---- the book

-- one operation more is pending, which the keeper's book may lack
pub booked-push : (v : View) (copy all : BookPrefix) (pending more : List Op) (op : Op) → IsBooked v copy all pending
    → more ≡ pending ++ op ∷ [] → IsBooked v copy all more
booked-push v copy all pending more op b is = record {
  copy_desk = b.copy_desk;
  all_desk = b.all_desk;
  shown = b.shown;
  whole = subst (λ (l : List Op). Begins (flat all.editions) l)
      (append_assoc v.seen pending (op ∷ []) ∙ ap (λ (l : List Op). v.seen ++ l) (sym is))
      (begins-more (flat all.editions) (v.seen ++ pending) (op ∷ []) b.whole);
}

-- a publication leaves the keeper booked
booked-published : (v w : View) (x : ReplicaState) (n : Names) (prefix new all : BookPrefix) (cs : List Change)
    → w ≡ with_published v (ops_in n cs) → new ≡ prefix_after prefix cs → IsReady v x n prefix cs
    → IsBooked v prefix all (ops_in n cs) → IsBooked w new all []
booked-published v w x n prefix new all cs now last ready b =
    let here : IsBooked (with_published v (ops_in n cs)) (prefix_after prefix cs) all [] = record {
      copy_desk = ready.desk;
      all_desk = b.all_desk;
      shown = ready.ended;
      whole = subst (λ (l : List Op). Begins (flat all.editions) l) (sym (append-nil (v.seen ++ ops_in n cs))) b.whole;
    } in
    subst (λ (z : View × BookPrefix). IsBooked z.0 z.1 all []) (λ i. (sym now i, sym last i)) here

-- an opened desk is booked
pub booked-open : (v : View) (own : ReplicaState) (copy all : BookPrefix) (n : Names) (cs : List Change)
    → v ≡ keeper_of own all.desk
    → copy ≡ all → flat all.editions ≡ joins_of own.cells → cs ≡ [] → IsBooked v copy all (ops_in n cs)
booked-open v own copy all n cs is same book none =
    let whole : IsBooked (keeper_of own all.desk) all all [] = record {
      copy_desk = refl;
      all_desk = refl;
      shown = book;
      whole = subst (λ (l : List Op). Begins (flat all.editions) l) (book ∙ sym (append-nil (joins_of own.cells)))
          (begins-refl (flat all.editions));
    } in
    subst (λ (z : View × BookPrefix × List Op). IsBooked z.0 z.1 all z.2)
    (λ i. (sym is i, sym same i, ops_in n (sym none i))) whole

-- the end of an edition that has all makes the pending changes ready
pub ended : (v : View) (shown : ReplicaState) (n : Names) (prefix all : BookPrefix) (cs more : List Change)
    → v.writes ≡ true
    → v.joined ≡ true → AllAccepted shown (ops_in n cs) → all.desk ≡ v.desk → flat all.editions ≡ v.seen ++ ops_in n cs
    → more ≡ cs ++ Edition all ∷ [] → IsReady v shown n prefix more
ended v shown n prefix all cs more writes joined accepted desk book is =
    let last : prefix_after prefix more ≡ all = ap (prefix_after prefix) is
    ∙ prefix_after-more prefix cs (Edition all) in
    let same : ops_in n cs ≡ ops_in n more = sym (ap (ops_in n) is ∙ ops_in-end_edition n cs all) in record {
      writes = writes;
      joined = joined;
      accepted = subst (AllAccepted shown) same accepted;
      ended = ap (λ (s : BookPrefix). flat s.editions) last ∙ (book ∙ ap (λ (l : List Op). v.seen ++ l) same);
      desk = ap (λ (s : BookPrefix). s.desk) last ∙ desk;
    }

-- ---- the keeper

-- an opened desk
pub keeper-open : (v : View) (shown : ReplicaState) (n : Names) (own : ReplicaState) (prefix all : BookPrefix)
    (cs : List Change) → IsReplicaState own
    → v ≡ keeper_of own all.desk → shown ≡ own → prefix ≡ all → flat all.editions ≡ joins_of own.cells → cs ≡ []
    → IsKeeper v shown n own prefix all cs false
keeper-open v shown n own prefix all cs holds is same begun book none = record {
  tied = tied-open v shown own all.desk n cs holds is same none;
  booked = booked-open v own prefix all n cs is begun book none;
  ready = λ e. cc;
}

-- one operation more is pending
pub keeper-push : (v : View) (shown : ReplicaState) (n : Names) (own new : ReplicaState) (prefix all : BookPrefix)
    (cs more : List Change) (ended : Bool) (op : Op) → IsKeeper v shown n own prefix all cs ended
    → accepts own op ≡ true → new ≡ step own op → ops_in n more ≡ ops_in n cs ++ op ∷ []
    → IsKeeper v shown n new prefix all more false
keeper-push v shown n own new prefix all cs more ended op k may is left = record {
  tied = tied-push v shown own new (ops_in n cs) (ops_in n more) op k.tied may is left;
  booked = booked-push v prefix all (ops_in n cs) (ops_in n more) op k.booked left;
  ready = λ e. cc;
}

-- further changes are pending, none of which is an operation
pub keeper-named : (v : View) (shown : ReplicaState) (n : Names) (own : ReplicaState) (prefix all : BookPrefix)
    (cs more : List Change) (ended : Bool) → IsKeeper v shown n own prefix all cs ended
    → ops_in n more ≡ ops_in n cs → prefix_after prefix more ≡ prefix_after prefix cs
    → IsKeeper v shown n own prefix all more ended
keeper-named v shown n own prefix all cs more ended k same last = record {
  tied = subst (λ (l : List Op). IsTied v shown own l) (sym same) k.tied;
  booked = subst (λ (l : List Op). IsBooked v prefix all l) (sym same) k.booked;
  ready = λ e.
      let ready = k.ready e in record {
        writes = ready.writes;
        joined = ready.joined;
        accepted = subst (AllAccepted shown) (sym same) ready.accepted;
        ended = ap (λ (s : BookPrefix). flat s.editions) last ∙ (ready.ended
            ∙ ap (λ (l : List Op). v.seen ++ l) (sym same));
        desk = ap (λ (s : BookPrefix). s.desk) last ∙ ready.desk;
      };
}

-- all is published
pub keeper-published : (v w : View) (x y : ReplicaState) (n m : Names) (own : ReplicaState)
    (prefix new all : BookPrefix) (cs rest : List Change)
    → w ≡ with_published v (ops_in n cs) → rest ≡ [] → y ≡ fold step x (ops_in n cs) → new ≡ prefix_after prefix cs
    → IsKeeper v x n own prefix all cs true → IsKeeper w y m own new all rest false
keeper-published v w x y n m own prefix new all cs rest now none is last k = record {
  tied = subst (λ (l : List Change). IsTied w y own (ops_in m l)) (sym none)
      (tied-published v w x y own (ops_in n cs) now is k.tied);
  booked = subst (λ (l : List Change). IsBooked w new all (ops_in m l)) (sym none)
      (booked-published v w x n prefix new all cs now last (k.ready refl) k.booked);
  ready = λ e. cc;
}

-- nothing has changed
pub keeper-same : {C : Type 0} (held : C → ReplicaState) (names : C → Names) (prefix : C → BookPrefix) (v w : View)
    (x y : C) (own : ReplicaState) (all : BookPrefix) (cs rest : List Change) (ended : Bool) → w ≡ v → y ≡ x → rest ≡ cs
    → IsKeeper v (held x) (names x) own (prefix x) all cs ended
    → IsKeeper w (held y) (names y) own (prefix y) all rest ended
keeper-same {C = C} held names prefix v w x y own all cs rest ended now same left k =
    subst (λ (z : View × C × List Change). IsKeeper z.0 (held z.1) (names z.1) own (prefix z.1) all z.2 ended)
    (λ i. (sym now i, sym same i, sym left i)) k

-- the book has all, and the pending changes are marked
pub keeper-ended : (v : View) (x : ReplicaState) (n : Names) (own : ReplicaState) (prefix all new : BookPrefix)
    (cs more : List Change) (ended : Bool) → IsKeeper v x n own prefix all cs ended → new.desk ≡ all.desk
    → Begins (flat new.editions) (v.seen ++ ops_in n cs)
    → ops_in n more ≡ ops_in n cs → IsReady v x n prefix more → IsKeeper v x n own prefix new more true
keeper-ended v x n own prefix all new cs more ended k desk begins same ready = record {
  tied = subst (λ (l : List Op). IsTied v x own l) (sym same) k.tied;
  booked = subst (λ (l : List Op). IsBooked v prefix new l) (sym same)
      (record {
        copy_desk = k.booked.copy_desk;
        all_desk = desk
            ∙ k.booked.all_desk;
        shown = k.booked.shown;
        whole = begins;
      });
  ready = λ e. ready;
}

-- the book has perhaps more of what is pending
pub keeper-unmarked : (v : View) (x : ReplicaState) (n : Names) (own : ReplicaState) (prefix all new : BookPrefix)
    (cs more : List Change) (ended : Bool) → IsKeeper v x n own prefix all cs ended → new.desk ≡ all.desk
    → Begins (flat new.editions) (v.seen ++ ops_in n cs) → more ≡ cs → IsKeeper v x n own prefix new more ended
keeper-unmarked v x n own prefix all new cs more ended k desk begins same =
    subst (λ (l : List Change). IsKeeper v x n own prefix new l ended) (sym same) (record {
      tied = k.tied;
      booked = record {
        copy_desk = k.booked.copy_desk;
        all_desk = desk
            ∙ k.booked.all_desk;
        shown = k.booked.shown;
        whole = begins;
      };
      ready = k.ready;
    })

-- ---- what contracts see

-- the keeper's own replica holds what all operations make
pub own-state : (v : View) (shown : ReplicaState) (n : Names) (own : ReplicaState) (prefix all : BookPrefix)
    (cs : List Change) (ended : Bool) (b : Book) (written : ℕ) (k : KeeperState)
    → IsKeeper v shown n own prefix all cs ended
    → record {
      desk = b;
      schema = own.schema;
      origin = own.origin;
      next = own.next;
      published = v.seen;
      pending =
          ops_in n cs;
      written = written;
    } ≡ k → own ≡ own_replica k
own-state v shown n own prefix all cs ended b written k keeps is =
    let e = tied-cells v shown own (ops_in n cs) keeps.tied in
    (λ i. record { schema = own.schema; origin = own.origin; next = own.next; cells = e i }) ∙ ap own_replica is

pub cells-state : (v : View) (shown : ReplicaState) (n : Names) (own : ReplicaState) (prefix all : BookPrefix)
    (cs : List Change) (ended : Bool) (b : Book) (written : ℕ) (k : KeeperState)
    → IsKeeper v shown n own prefix all cs ended
    → record {
      desk = b;
      schema = own.schema;
      origin = own.origin;
      next = own.next;
      published = v.seen;
      pending =
          ops_in n cs;
      written = written;
    } ≡ k → own.cells ≡ cells_of k
cells-state v shown n own prefix all cs ended b written k keeps is =
    ap (λ (h : ReplicaState). h.cells) (own-state v shown n own prefix all cs ended b written k keeps is)

-- with one operation more that is pending
pub push-state : (k : KeeperState) (new : ReplicaState) (op : Op) (b : Book) (published pending : List Op)
    (written : ℕ) → accepts (own_replica k) op ≡ true → new ≡ step (own_replica k) op → b ≡ k.desk
    → published ≡ k.published → pending ≡ k.pending ++ op ∷ [] → written ≡ k.written
    → record {
      desk = b;
      schema = new.schema;
      origin = new.origin;
      next = new.next;
      published = published;
      pending =
          pending;
      written = written;
    } ≡ with_pending k op
push-state k new op b published pending written may is desk seen more same =
    let h = own_replica k in
    let schema : new.schema ≡ k.schema = ap (λ (x : ReplicaState). x.schema) is ∙ step-schema h op in
    let origin : new.origin ≡ k.origin = ap (λ (x : ReplicaState). x.origin) is ∙ step-origin h op in
    let next : new.next ≡ (with_op h op).next = ap (λ (x : ReplicaState). x.next) (is ∙ step_accepted h op may) in
    λ i. record {
      desk = desk i;
      schema = schema i;
      origin = origin i;
      next = next i;
      published = seen i;
      pending =
          more i;
      written = same i;
    }

-- the keeper's own replica has the origin of the copies
pub tied-origin : (v : View) (shown own : ReplicaState) (pending : List Op) → IsTied v shown own pending
    → own.origin ≡ shown.origin
tied-origin v shown own pending t = ap (λ (h : ReplicaState). h.origin) t.applied ∙ steps-origin pending shown
