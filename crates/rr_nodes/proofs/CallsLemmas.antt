-- Calls, one after the other.
use Rattle.std.proofs.Common.{◌≡◌, ◌≢◌, ℕ, Bool, true, false, cond, List, [], ◌∷◌, ◌++◌, fold, length, append_assoc, slice_get, refl, sym, ap, ◌∙◌, subst, arith, true≢false, Option, Some, None, is_some}
use Rattle.std.specs.Prelude.{if◌then◌else◌}
use Rattle.std.specs.Ordering.{nat_cmp, eq_by_cmp}
use Rattle.std.specs.Cmp.{nat_cmp_total}
use Rattle.std.specs.FinMap.{FinMap, empty, get, insert, get-empty, get-insert, nat_cmp-IsAntisymmetric}
use Rattle.std.proofs.lemmas.List.Elements.{All-head, All-tail}
use Rattle.std.proofs.lemmas.List.Sums.{fold-append}
use Rattle.logbook.specs.Pages.{Book}
use Rattle.rr_text.specs.Options.{◌>>=◌}
use Rattle.rr_schema.specs.Schema.{Layout, IsLayout}
use Rattle.rr_join.proofs.Members.{same_from_tie}
use Rattle.rr_join.proofs.ValuesLemmas.{insert_cases, get-insert_itself, insert_there, insert_twice}
use Rattle.rr_point.specs.Key.{key_text}
use Rattle.rr_cells.specs.declared.cell.Cell.{Cell}
use Rattle.rr_cells.specs.declared.op.Op.{Op}
use Rattle.rr_cells.specs.declared.op.Op.TheVariants.{Join}
use Rattle.rr_cells.specs.Cells.{Cells, IsTrimmed}
use Rattle.rr_cells.specs.Listing.{owned_cell}
use Rattle.rr_cells.specs.Operations.{outcome_of}
use Rattle.rr_cells.proofs.CellByCell.{trimmed_none}
use Rattle.rr_cells.proofs.States.{state_is_trimmed}
use Rattle.rr_desk.specs.KeeperState.{KeeperState, cells_of, own_replica, with_all_published, with_pending}
use Rattle.rr_desk.specs.Points.{with_put, with_puts}
use Rattle.rr_desk.specs.ReaderState.{with_joined}
use Rattle.rr_nodes.specs.Nodes.{Node, Nodes, Moment, Deed, opened, wrote, took, loaded, all_held, held_at, where_some, written, taken, with_new, after, after_all}
use Rattle.rr_nodes.specs.Models.{cell_model, sample_model}
use Rattle.rr_nodes.specs.Keepers.{IsNode}
use Rattle.rr_nodes.specs.Calls.{Desk, Desks, Call, opens, puts, joins, publishes, reopens, loads, desk_of, unwritten, kept_by, with_keeper, called, HasBegun, MayCall, MayCallAll, puts_of, joins_of_page, Leave, WritesArePuts, PagesAreJoins, Moments, IsDeedOf, AreDeedsOf, CallsAnswerFromSamples}
use Rattle.rr_nodes.proofs.KeepersLemmas.{opening_is_a_node, put_is_a_deed, join_is_a_deed, publish_is_none, readers_answer_from_samples}
use Rattle.rr_nodes.proofs.DeedsLemmas.{from_cells, held_then}

no_deed_more : (l : List Deed) → l ++ [] ≡ l
no_deed_more [] = refl
no_deed_more (x ∷ l) = ap (λ (r : List Deed). x ∷ r) (no_deed_more l)

-- a desk is a node of its origin
record IsDeskOf (s : Layout) (origin : ℕ) (d : Desk) (n : Node Cells) : Type 0 where
  origin_is : d.keeper.origin ≡ origin
  schema_is : d.keeper.schema ≡ s
  node : IsNode d.opening d.keeper n

record HasNode (s : Layout) (ns : Nodes Cells) (origin : ℕ) (d : Desk) : Type 0 where
  n : Node Cells
  is_there : get ns origin ≡ Some n
  is_node : IsDeskOf s origin d n

-- the desks are the nodes
record AreNodes (s : Layout) (ds : Desks) (ns : Nodes Cells) : Type 0 where
  used : (origin : ℕ) → is_some (get ns origin) ≡ is_some (get ds origin)
  each : (origin : ℕ) (d : Desk) → get ds origin ≡ Some d → HasNode s ns origin d

pub elsewhere : {V : Type 0} (m : FinMap nat_cmp V) (origin : ℕ) (n : V) (q : ℕ) → q ≢ origin
    → get (insert m origin n) q ≡ get m q
elsewhere m origin n q other =
    get-insert nat_cmp_total m origin n q
    ∙ elim (eq_by_cmp nat_cmp q origin) as (λ b. eq_by_cmp nat_cmp q origin ≡ b → cond b (Some n) (get m q) ≡ get m q) [
      | true ↦ λ t. absurd (other (same_from_tie nat_cmp_total nat_cmp-IsAntisymmetric q origin t))
      | false ↦ λ t. refl
    ] refl

-- one desk more, or in the place of one, is a node more, or in the place of one
placed : (s : Layout) (ds : Desks) (ns : Nodes Cells) (origin : ℕ) (d : Desk) (n : Node Cells) → AreNodes s ds ns
    → IsDeskOf s origin d n → AreNodes s (insert ds origin d) (insert ns origin n)
placed s ds ns origin d n are is = record {
  used = λ q. ap is_some (get-insert nat_cmp_total ns origin n q)
      ∙ by (eq_by_cmp nat_cmp q origin) (get ns q) (get ds q) (are.used q)
      ∙ sym (ap is_some (get-insert nat_cmp_total ds origin d q));
  each = λ q e found. insert_cases nat_cmp_total nat_cmp-IsAntisymmetric ds origin d q e found
      (λ at same. record {
        n = n;
        is_there = ap (get (insert ns origin n)) at ∙ get-insert_itself nat_cmp_total nat_cmp-IsAntisymmetric ns origin
            n;
        is_node = subst (λ (y : ℕ × Desk). IsDeskOf s y.0 y.1 n) (λ i. (sym at i, same i)) is;
      })
      (λ other here. let old = are.each q e here in
      record { n = old.n; is_there = elsewhere ns origin n q other ∙ old.is_there; is_node = old.is_node });
}
  where
    by : (b : Bool) (x : Option (Node Cells)) (y : Option Desk) → is_some x ≡ is_some y
        → is_some (cond b (Some n) x) ≡ is_some (cond b (Some d) y)
    by true x y e = refl
    by false x y e = e

-- ---- one call

module _ (s : Layout) (is : IsLayout s) (deeds : List Deed) (ds : Desks)
    (are : AreNodes s ds (after_all cell_model s deeds)) where
  abbrev ns : Nodes Cells
  ns = after_all cell_model s deeds

  -- the desks after a call are the nodes after some deeds more
  abbrev Follows : Call → Type 0
  Follows c = (more : List Deed) × IsDeedOf s deeds c more
      × AreNodes s (called s ds c) (after_all cell_model s (deeds ++ more))

  one : (c : Call) (deed : Deed) → IsDeedOf s deeds c (deed ∷ [])
      → AreNodes s (called s ds c) (after cell_model s ns deed) → Follows c
  one c deed is_of after_it = (
    deed ∷ [],
    is_of,
    subst (AreNodes s (called s ds c))
        (sym (fold-append (after cell_model s) empty deeds (deed ∷ []))) after_it,
  )

  -- what a beginning of a desk's operations makes was held
  begun : (there : ℕ) (list : List Op) → HasBegun ds there list → Moments s deeds there list
  begun there list has =
      let found = are.each there has.desk has.is_there in
      let later = has.begins in
      let held = found.is_node.node.held list later.0 has.opened later.1 in
      record {
        ago = length later.0;
        was = ap (λ (o : Option (Node Cells)). o >>= λ x. slice_get (all_held x)
            (length later.0)) found.is_there ∙ held ∙ ap (λ (t : Layout). Some (outcome_of t list))
            found.is_node.schema_is;
      }

  -- which has no dead cells
  begun_is_trimmed : (at : Moment) (m : Cells) → held_at ns at ≡ Some m → IsTrimmed s m
  begun_is_trimmed at m held =
      let known = from_cells s (held_at (after_all sample_model s deeds) at) m (sym (held_then s deeds at is) ∙ held) in
      subst (IsTrimmed s) known.2 (state_is_trimmed s is known.0)

  new_desk : (origin : ℕ) (m : Cells) (b : Book) → IsTrimmed s m → get ds origin ≡ None
      → AreNodes s (insert ds origin (desk_of (unwritten s origin m) b)) (with_new ns origin m)
  new_desk origin m b kept unused =
      let new : Node Cells = record { next = 1; now = m; before = [] } in
      let h = unwritten s origin m in
      subst (λ (used : Bool). AreNodes s (insert ds origin (desk_of h b)) (if used then ns else insert ns origin new))
      (sym (are.used origin ∙ ap is_some unused))
      (placed s ds ns origin (desk_of h b) new are (record
      { origin_is = refl; schema_is = refl; node = opening_is_a_node h b new is kept refl refl }))

  -- a desk in the place of one that is the same node
  same_node : (origin : ℕ) (d new : Desk) (n : Node Cells) → get ds origin ≡ Some d → get ns origin ≡ Some n
      → IsDeskOf s origin new n → AreNodes s (insert ds origin new) ns
  same_node origin d new n here there node = subst (AreNodes s (insert ds origin new))
      (insert_there nat_cmp_total nat_cmp-IsAntisymmetric ns origin n there) (placed s ds ns origin new n are node)

  -- so a call that does nothing at its node
  none : (c : Call) → IsDeedOf s deeds c [] → AreNodes s (called s ds c) ns → Follows c
  none c is_none after_it = (
    [],
    is_none,
    subst (λ (l : List Deed). AreNodes s (called s ds c)
        (after_all cell_model s l)) (sym (no_deed_more deeds)) after_it,
  )

  call_follows : (c : Call) → MayCall s ds c → Follows c
  call_follows (opens origin b) may = one (opens origin b) (opened origin) refl
      (new_desk origin empty b (trimmed_none s) may)
  call_follows (puts origin key time value) may =
      let d = may.desk in
      let f = are.each origin d may.is_there in
      let n = f.n in
      let new : Desk = record { opening = d.opening; keeper = with_put d.keeper key time value } in
      let node = put_is_a_deed d.opening d.keeper n key time value may.few f.is_node.node in
      let desk : IsDeskOf s origin new (written cell_model s origin n key time value) = record {
        origin_is = f.is_node.origin_is;
        schema_is = f.is_node.schema_is;
        node = subst (λ (y : Layout × ℕ). IsNode d.opening (with_put d.keeper key time value)
            (written cell_model y.0 y.1 n key time value)) (λ i. (f.is_node.schema_is i, f.is_node.origin_is i)) node;
      } in
      one (puts origin key time value) (wrote origin key time value) refl
      (rw (may.is_there, f.is_there) (placed s ds ns origin new (written cell_model s origin n key time value) are
      desk))
  call_follows (joins origin there list c) may =
      let d = may.0.0 in
      let f = are.each origin d may.0.1 in
      let n = f.n in
      let m = outcome_of s list in
      let from = begun there list may.1 in
      let name = (owned_cell c).0 in
      let new : Desk = record { opening = d.opening; keeper = with_pending d.keeper (Join c) } in
      let node = join_is_a_deed d.opening d.keeper n m c may.2 f.is_node.node in
      let desk : IsDeskOf s origin new (taken cell_model s origin n m name) = record {
        origin_is = f.is_node.origin_is;
        schema_is = f.is_node.schema_is;
        node = subst (λ (y : Layout × ℕ). IsNode d.opening (with_pending d.keeper (Join c))
            (taken cell_model y.0 y.1 n m name)) (λ i. (f.is_node.schema_is i, f.is_node.origin_is i)) node;
      } in
      one (joins origin there list c) (took origin (record { origin = there; ago = from.ago }) name) (from, refl)
      (rw (may.0.1, f.is_there, from.was) (placed s ds ns origin new (taken cell_model s origin n m name) are desk))
  call_follows (publishes origin) may =
      let d = may.0 in
      let f = are.each origin d may.1 in
      none (publishes origin) refl (rw (may.1) (same_node origin d (kept_by d (with_all_published d.keeper)) f.n may.1
      f.is_there (record {
        origin_is = f.is_node.origin_is;
        schema_is = f.is_node.schema_is;
        node = publish_is_none d.opening d.keeper f.n f.is_node.node;
      })))
  call_follows (reopens origin b) may =
      let d = may.0 in
      let k = d.keeper in
      let f = are.each origin d may.1 in
      let now : Moment = record { origin = origin; ago = 0 } in
      let held : held_at ns now ≡ Some (cells_of k) =
      ap (λ (o : Option (Node Cells)). o >>= λ x. slice_get (all_held x) 0) f.is_there
      ∙ ap Some (sym f.is_node.node.now) in
      let kept : IsTrimmed k.schema (cells_of k) = subst (λ (t : Layout). IsTrimmed t (cells_of k))
      (sym f.is_node.schema_is) (begun_is_trimmed now (cells_of k) held) in
      none (reopens origin b) refl (rw (may.1) (same_node origin d (desk_of (own_replica k) b) f.n may.1 f.is_there
      (record {
        origin_is = f.is_node.origin_is;
        schema_is = f.is_node.schema_is;
        node = opening_is_a_node (own_replica k) b f.n (subst IsLayout (sym f.is_node.schema_is) is) kept
            f.is_node.node.next f.is_node.node.now;
      })))
  call_follows (loads origin there list b) may =
      let from = begun there list may.1 in
      let at : Moment = record { origin = there; ago = from.ago } in
      one (loads origin there list b) (loaded origin at) (from, refl)
      (rw (from.was) (new_desk origin (outcome_of s list) b (begun_is_trimmed at (outcome_of s list) from.was)
      may.0))

-- ---- all calls

calls_follow : (s : Layout) → IsLayout s → (deeds : List Deed) (ds : Desks)
    → AreNodes s ds (after_all cell_model s deeds) → (calls : List Call) → MayCallAll s ds calls
    → (more : List Deed) × AreDeedsOf s deeds calls more
    × AreNodes s (fold (called s) ds calls) (after_all cell_model s (deeds ++ more))
calls_follow s is deeds ds are [] may = (
  [],
  refl,
  subst (λ (l : List Deed). AreNodes s ds (after_all cell_model s l)) (sym (no_deed_more deeds)) are,
)
calls_follow s is deeds ds are (c ∷ calls) may =
    let next = call_follows s is deeds ds are c may.0 in
    let rest = calls_follow s is (deeds ++ next.0) (called s ds c) next.2 calls may.1 in (
      next.0 ++ rest.0,
      (next.0, rest.0, next.1, rest.1, refl),
      subst (λ (l : List Deed). AreNodes s (fold (called s) (called s ds c) calls) (after_all cell_model s l))
          (append_assoc deeds next.0 rest.0) rest.2,
    )

nothing_yet : (s : Layout) → AreNodes s empty empty
nothing_yet s = record {
  used = λ q. ap is_some (get-empty nat_cmp q) ∙ sym (ap is_some (get-empty nat_cmp q));
  each = λ q d e. absurd (true≢false (sym (ap is_some e) ∙ ap is_some (get-empty nat_cmp q)));
}

pub calls_answer_from_samples : CallsAnswerFromSamples
calls_answer_from_samples s calls is may =
    let all = calls_follow s is [] empty (nothing_yet s) calls may in (
      all.0,
      record {
        deeds_are = all.1;
        answers = λ origin d r later q here reads all_of.
            let f = all.2.each origin d here in
            readers_answer_from_samples s all.0 origin d.opening d.keeper f.n r later q is f.is_there
            f.is_node.schema_is f.is_node.node reads all_of;
      },
    )

-- ---- calls that are several

module _ (s : Layout) (origin : ℕ) where
  -- one of them, and then the others
  pub and_then : (ds : Desks) (d : Desk) (c : Call) (k last : KeeperState) (others : List Call) → MayCall s ds c
      → called s ds c ≡ insert ds origin (kept_by d k)
      → Leave s (insert ds origin (kept_by d k)) origin (kept_by d k) others last
      → Leave s ds origin d (c ∷ others) last
  and_then ds d c k last others may one rest = record {
    may = (may, subst (λ (es : Desks). MayCallAll s es others) (sym one) rest.may);
    keeper = ap (λ (es : Desks). fold (called s) es others) one ∙ rest.keeper
        ∙ insert_twice nat_cmp_total nat_cmp-IsAntisymmetric ds origin (kept_by d k) (kept_by d last);
  }

  -- none at all
  pub stays : (ds : Desks) (d : Desk) → get ds origin ≡ Some d → Leave s ds origin d [] d.keeper
  stays ds d here = record {
    may = tt;
    keeper = sym
        (insert_there nat_cmp_total nat_cmp-IsAntisymmetric ds origin d here);
  }

  pub changed : (ds : Desks) (d : Desk) (f : KeeperState → KeeperState) → get ds origin ≡ Some d
      → with_keeper ds origin f ≡ insert ds origin (kept_by d (f d.keeper))
  changed ds d f here = ap (λ (o : Option Desk). where_some o ds (λ e. insert ds origin (kept_by e (f e.keeper)))) here

pub writes_are_puts : WritesArePuts
writes_are_puts s ds origin d p time [] here few = stays s origin ds d here
writes_are_puts s ds origin d p time (field ∷ fields) here few =
    let key = key_text p field.0 in
    let k = with_put d.keeper key time field.1 in
    and_then s origin ds d (puts origin key time field.1) k (with_puts k p time fields) (puts_of origin p time fields)
    (record { desk = d; is_there = here; few = omega (arith, few) })
    (changed s origin ds d (λ j. with_put j key time field.1) here)
    (writes_are_puts s (insert ds origin (kept_by d k)) origin (kept_by d k) p time fields
    (get-insert_itself nat_cmp_total nat_cmp-IsAntisymmetric ds origin (kept_by d k)) (omega (arith, few)))

pub pages_are_joins : PagesAreJoins
pages_are_joins s ds origin there d list [] here other begun all = stays s origin ds d here
pages_are_joins s ds origin there d list (c ∷ cells) here other begun all =
    let is_there : Cell → Type 0 = λ e. get (outcome_of s list) (owned_cell e).0 ≡ Some e.contribution in
    let k = with_pending d.keeper (Join c) in
    let next = insert ds origin (kept_by d k) in
    and_then s origin ds d (joins origin there list c) k (with_joined k cells) (joins_of_page origin there list cells)
    ((d, here), begun, All-head is_there c cells all)
    (changed s origin ds d (λ j. with_pending j (Join c)) here)
    (pages_are_joins s next origin there (kept_by d k) list cells
    (get-insert_itself nat_cmp_total nat_cmp-IsAntisymmetric ds origin (kept_by d k)) other
    (record {
      desk = begun.desk;
      is_there = elsewhere ds origin (kept_by d k) there other
          ∙ begun.is_there;
      opened = begun.opened;
      begins = begun.begins;
    })
    (All-tail is_there c cells all))
