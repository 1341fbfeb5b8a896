-- Each step keeps the rule.
use Rattle.std.proofs.Common.{◌≡◌, ℕ, Result, Ok, Err, MatchResult, ◌≢◌, Bool, true, false, ◌||◌, if◌then◌else◌, List, [], ◌∷◌, ◌++◌, fold, set, refl, sym, ap, ◌∙◌, subst, ⊎_elim}
use mathlib.Core.Option.{some, some-ne-none}
use mathlib.Core.List.{IsPrefix}
use lib.ListN.{get_elem?}
use Rattle.atomic_table.proofs.Lists.{at_set, at_snoc, set_again}
use Rattle.logbook.specs.Pages.{Book}
use Rattle.rr_schema.specs.Schema.{Layout, IsLayout}
use Rattle.rr_cells.specs.declared.op.Op.{Op}
use Rattle.rr_cells.specs.Cells.{Cells, IsTrimmed}
use Rattle.rr_cells.specs.ReplicaState.{ReplicaState}
use Rattle.rr_cells.specs.Operations.{cell_step, outcome_of, step, joins_of, AllAccepted}
use Rattle.rr_cells.proofs.OperationsLemmas.{outcome_of-append, outcome_of-joins, steps-cells, steps-schema}
use Rattle.rr_desk.specs.declared.rule.View.{View}
use Rattle.rr_desk.specs.declared.change.Change.{Change}
use Rattle.rr_desk.specs.declared.change.Change.TheVariants.{Edition}
use Rattle.rr_desk.specs.declared.shown.CopyState.{CopyState}
use Rattle.rr_desk.specs.Changes.{copy_after, copy_names, prefix_after, names_at, ops_in}
use Rattle.rr_desk.specs.Editions.{BookPrefix, flat}
use Rattle.rr_desk.specs.Laws.{SeenIsPublished}
use Rattle.rr_desk.specs.Rule.{newcomer, IsShown, Fits, Keeps, Sees, keeper_of, with_published, telling_of, with_news}
use Rattle.rr_desk.proofs.PrefixLemmas.{prefix_refl, prefix_append, prefix_trans, prefix_nil, prefix_of_nil}
use Rattle.rr_desk.proofs.ChangesLemmas.{changes-prefix, changes-held, changes-names, changes-started}

newcomer_fits : (x : CopyState) (list : List Op) (writer handle : ℕ) → Fits x list writer handle newcomer
newcomer_fits x list writer handle = record {
  seen = prefix_nil list;
  told = prefix_nil list;
  joined = λ e. cc;
  writes =
      λ e. cc;
}

-- a new handle may come
pub admits : (x : CopyState) (views : List View) → Keeps x views → Keeps x (views ++ newcomer ∷ [])
admits x views k = record {
  list = k.list;
  writer = k.writer;
  unopened = k.unopened;
  outcome = k.outcome;
  each = λ handle v at. ⊎_elim (λ (e : get_elem? views handle ≡ some v). k.each handle v e)
      (λ (e : newcomer ≡ v). subst (Fits x k.list k.writer handle) e (newcomer_fits x k.list k.writer handle))
      (at_snoc views newcomer v handle at);
}

-- one view changes, and fits
set_fits : (x : CopyState) (list : List Op) (writer : ℕ) (views : List View) (handle : ℕ) (w : View)
    → ((j : ℕ) (v : View) → j ≢ handle → get_elem? views j ≡ some v → Fits x list writer j v)
    → Fits x list writer handle w
    → (j : ℕ) (v : View) → get_elem? (set views handle w) j ≡ some v → Fits x list writer j v
set_fits x list writer views handle w others here j v at =
    ⊎_elim (λ (t : (j ≡ handle) × (w ≡ v)). subst (λ (k : ℕ). Fits x list writer k v) (sym t.0)
    (subst (Fits x list writer handle) t.1 here))
    (λ (t : (j ≢ handle) × (get_elem? views j ≡ some v)). others j v t.0 t.1) (at_set views handle j w v at)

-- ---- a reader enters

-- the view once the list is seen
looked : View → List Op → View
looked v list = record {
  writes = v.writes;
  joined = v.joined;
  schema = v.schema;
  desk = v.desk;
  seen = list;
  told =
      v.told;
}

looked_fits : (x : CopyState) (list : List Op) (writer handle : ℕ) (v : View) → Fits x list writer handle v
    → Fits x list writer handle (looked v list)
unfolding looked
looked_fits x list writer handle v f = record {
  seen = prefix_refl list;
  told = f.told;
  joined = f.joined;
  writes = λ e. let h = f.writes e in record { started = h.started; alone = h.alone; all = refl };
}

pub sees : (handle : ℕ) (v : View) (x : CopyState) (views : List View) → Keeps x views → get_elem? views handle ≡ some v
    → (w : View) × Keeps x (set views handle w) × Sees v x w
unfolding looked
sees handle v x views k at =
    let f = k.each handle v at in (
      looked v k.list,
      record {
        list = k.list;
        writer = k.writer;
        unopened = k.unopened;
        outcome = k.outcome;
        each = set_fits x k.list k.writer views handle (looked v k.list) (λ j u ne e. k.each j u e)
            (looked_fits x k.list k.writer handle v f);
      },
      record {
        seen = f.seen;
        told = f.told;
        outcome = λ e. k.outcome (f.joined e).started;
        shown = f.joined;
        same = record { writes = refl; joined = refl; schema = refl; desk = refl; told = refl };
      },
    )

-- ---- the keeper publishes

-- the copy y may be read as x was
pub record Follows (x y : CopyState) : Type 0 where
  pub started : y.started ≡ true
  pub schema : y.held.schema ≡ x.held.schema
  pub desk : y.prefix.desk ≡ x.prefix.desk

still_shown : (x y : CopyState) (s : Layout) (b : Book) → Follows x y → IsShown x s b → IsShown y s b
still_shown x y s b next h = record {
  started = next.started;
  schema = next.schema ∙ h.schema;
  desk = next.desk
      ∙ h.desk;
}

-- the view of another, under a longer list
others_fit : (x y : CopyState) (list more : List Op) (writer handle : ℕ) (v : View) → Follows x y
    → (v.writes ≡ true → ⊥)
    → Fits x list writer handle v → Fits y (list ++ more) writer handle v
others_fit x y list more writer handle v next not f = record {
  seen = prefix_trans v.seen list (list ++ more) f.seen (prefix_append list more);
  told = prefix_trans v.told list (list ++ more) f.told (prefix_append list more);
  joined = λ e. still_shown x y v.schema v.desk next (f.joined e);
  writes = λ e. absurd (not e);
}

extended_fits : (x y : CopyState) (list more : List Op) (writer handle : ℕ) (v : View) → Follows x y → v.writes ≡ true
    → Fits x list writer handle v → Fits y (list ++ more) writer handle (with_published v more)
extended_fits x y list more writer handle v next writes f =
    let h = f.writes writes in record {
      seen = subst (λ (l : List Op). IsPrefix (v.seen ++ more) (l ++ more)) h.all (prefix_refl (v.seen ++ more));
      told = prefix_trans v.told list (list ++ more) f.told (prefix_append list more);
      joined = λ e. still_shown x y v.schema v.desk next (f.joined e);
      writes = λ e. record { started = next.started; alone = h.alone; all = ap (λ (l : List Op). l ++ more) h.all };
    }

publishes : (handle : ℕ) (v : View) (x y : CopyState) (more : List Op) → v.writes ≡ true → Follows x y
    → flat y.prefix.editions ≡ v.seen ++ more → y.held.cells ≡ fold (cell_step x.held.schema) x.held.cells more
    → (views : List View) → Keeps x views → get_elem? views handle ≡ some v
    → (w : View) × Keeps y (set views handle w) × (w ≡ with_published v more)
publishes handle v x y more writes next book is views k at =
    let f = k.each handle v at in
    let h = f.writes writes in
    let same : y.held.cells ≡ outcome_of x.held.schema (k.list ++ more) = is
    ∙ (ap (λ (c : Cells). fold (cell_step x.held.schema) c more) (k.outcome h.started).cells
    ∙ sym (outcome_of-append x.held.schema k.list more)) in (
      with_published v more,
      record {
        list = k.list ++ more;
        writer = k.writer;
        unopened = λ e. cc (next.started);
        outcome = λ e. record {
          cells = same ∙ ap (λ (s : Layout). outcome_of s (k.list ++ more)) (sym next.schema);
          book = book ∙ ap (λ (l : List Op). l ++ more) h.all;
        };
        each = set_fits y (k.list ++ more) k.writer views handle (with_published v more)
            (λ j u ne e. let fu = k.each j u e in others_fit x y k.list more k.writer j u next
            (λ wr. ne ((fu.writes wr).alone ∙ sym h.alone)) fu)
            (extended_fits x y k.list more k.writer handle v next writes f);
      },
      refl,
    )

-- with all changes that are pending
pub publishes_changes : (handle : ℕ) (v : View) (x y : CopyState) (cs : List Change) (batch : List Op) → batch ≡ ops_in
    (copy_names x) cs
    → v.writes ≡ true → v.joined ≡ true → AllAccepted x.held (ops_in (copy_names x) cs)
    → flat (prefix_after x.prefix cs).editions ≡ v.seen ++ ops_in (copy_names x) cs → (prefix_after x.prefix cs).desk
    ≡ v.desk
    → y ≡ fold copy_after x cs
    → (views : List View) → Keeps x views → get_elem? views handle ≡ some v
    → (w : View) × Keeps y (set views handle w) × (w ≡ with_published v batch)
publishes_changes handle v x y cs batch same writes joined accepted ended desk is views k at =
    let f = k.each handle v at in
    let held : y.held ≡ fold step x.held (ops_in (copy_names x) cs) = ap (λ (z : CopyState). z.held) is ∙ changes-held
    cs x in
    let prefix : y.prefix ≡ prefix_after x.prefix cs = ap (λ (z : CopyState). z.prefix) is ∙ changes-prefix cs x in
    let next : Follows x y = record {
      started = ap (λ (z : CopyState). z.started) is ∙ changes-started cs x (f.writes writes).started;
      schema = ap (λ (h : ReplicaState). h.schema) held ∙ steps-schema (ops_in (copy_names x) cs) x.held;
      desk = ap (λ (s : BookPrefix). s.desk) prefix ∙ (desk ∙ sym (f.joined joined).desk);
    } in
    let cells : y.held.cells ≡ fold (cell_step x.held.schema) x.held.cells (ops_in (copy_names x) cs) =
    ap (λ (h : ReplicaState). h.cells) held ∙ steps-cells (ops_in (copy_names x) cs) x.held accepted in
    let book : flat y.prefix.editions ≡ v.seen ++ batch = ap (λ (s : BookPrefix). flat s.editions) prefix
    ∙ (ended ∙ ap (λ (l : List Op). v.seen ++ l) (sym same)) in
    publishes handle v x y batch writes next book (subst
    (λ (l : List Op). y.held.cells ≡ fold (cell_step x.held.schema) x.held.cells l) (sym same) cells) views k at

-- what a publication leaves, from what its call says
pub published : {E C : Type 0} (r : Result (Unit {0}) E) (cs : List Change) (batch : List Op) (x y : CopyState)
    (v w : View) (rest : List Change) (new old : C) → batch ≡ ops_in (copy_names x) cs
    → MatchResult r (λ _. (y ≡ fold copy_after x cs) × (rest ≡ [])) (λ _. (new ≡ old) × (rest ≡ cs))
    → MatchResult r (λ _. w ≡ with_published v batch) (λ _. w ≡ v)
    → MatchResult r (λ _. (w ≡ with_published v (ops_in (copy_names x) cs)) × (rest ≡ [])
    × (y.held ≡ fold step x.held (ops_in (copy_names x) cs)) × (y.prefix ≡ prefix_after x.prefix cs)
    × (copy_names y ≡ names_at (copy_names x) cs)) (λ _. (w ≡ v) × (new ≡ old) × (rest ≡ cs))
published (Ok u) cs batch x y v w rest new old is values rule = (
  rule ∙ ap (with_published v) is,
  values.1,
  ap (λ (z : CopyState). z.held) values.0
      ∙ changes-held cs x,
  ap (λ (z : CopyState). z.prefix) values.0 ∙ changes-prefix cs x,
  ap copy_names values.0 ∙ changes-names cs x,
)
published (Err e) cs batch x y v w rest new old is values rule = (rule, values.0, values.1)

-- ---- the keeper opens

fresh_fits : (x y : CopyState) (list new : List Op) (writer w handle : ℕ) (v : View) → x.started ≡ false → list ≡ []
    → Fits x list writer handle v → Fits y new w handle v
fresh_fits x y list new writer w handle v off none f =
    let not : x.started ≡ true → ⊥ = λ e. let z : true ≡ false = sym e ∙ off in cc in record {
      seen = prefix_of_nil v.seen new (subst (λ (l : List Op). IsPrefix v.seen l) none f.seen);
      told = prefix_of_nil v.told new (subst (λ (l : List Op). IsPrefix v.told l) none f.told);
      joined = λ e. absurd (not (f.joined e).started);
      writes = λ e. absurd (not (f.writes e).started);
    }

starts : (handle : ℕ) (v : View) (x y : CopyState) → IsLayout x.held.schema → IsTrimmed x.held.schema x.held.cells
    → x.started ≡ false → y.started ≡ true → y.held ≡ x.held → flat y.prefix.editions ≡ joins_of x.held.cells
    → (views : List View) → Keeps x views → get_elem? views handle ≡ some v
    → (w : View) × Keeps y (set views handle w) × (w ≡ keeper_of x.held y.prefix.desk)
starts handle v x y layout live off on same book views k at =
    let all = joins_of x.held.cells in
    let is : x.held.cells ≡ outcome_of x.held.schema all =
    sym (outcome_of-joins x.held.schema x.held.cells layout live) in (
      keeper_of x.held y.prefix.desk,
      record {
        list = all;
        writer = handle;
        unopened = λ e. cc on;
        outcome = λ e. record {
          cells = subst (λ (h : ReplicaState). h.cells ≡ outcome_of h.schema all) (sym same) is;
          book = book;
        };
        each = set_fits y all handle views handle (keeper_of x.held y.prefix.desk)
            (λ j u ne e. fresh_fits x y k.list all k.writer handle j u off (k.unopened off) (k.each j u e))
            (record {
              seen = prefix_refl all;
              told = prefix_nil all;
              joined = λ e. record { started = on; schema = ap (λ (h : ReplicaState). h.schema) same; desk = refl };
              writes = λ e. record { started = on; alone = refl; all = refl };
            });
      },
      refl,
    )

-- where the end of one edition alone is pending
pub starts_ended : (handle : ℕ) (v : View) (x y : CopyState) (m : BookPrefix) (cs : List Change)
    → IsLayout x.held.schema
    → IsTrimmed x.held.schema x.held.cells → x.started ≡ false → cs ≡ Edition m ∷ []
    → flat m.editions ≡ joins_of x.held.cells → y ≡ fold copy_after x cs
    → (views : List View) → Keeps x views → get_elem? views handle ≡ some v
    → (w : View) × Keeps y (set views handle w) × (w ≡ keeper_of x.held y.prefix.desk)
starts_ended handle v x y m cs layout live off pending book is =
    let e : y ≡ copy_after x (Edition m) = is ∙ ap (fold copy_after x) pending in
    starts handle v x y layout live off (ap (λ (z : CopyState). z.started) e) (ap (λ (z : CopyState). z.held) e)
    (ap (λ (z : CopyState). flat z.prefix.editions) e ∙ book)

-- before that the rule holds of the keeper's view alone
pub holds_first : (x : CopyState) → x.started ≡ false → Keeps x (newcomer ∷ [])
holds_first x off = record {
  list = [];
  writer = 0;
  unopened = λ e. refl;
  outcome = λ e. let z : true ≡ false = sym e ∙ off in cc;
  each = λ handle v at. ⊎_elim (λ (e : get_elem? [] handle ≡ some v). absurd (some-ne-none v (sym e)))
      (λ (e : newcomer ≡ v). subst (Fits x [] 0 handle) e (newcomer_fits x [] 0 handle))
      (at_snoc [] newcomer v handle at);
}

-- ---- the keeper tells a new reader

telling_fits : (x : CopyState) (list : List Op) (writer handle at : ℕ) (v : View) → Fits x list writer handle v
    → Fits x list writer at (telling_of v)
telling_fits x list writer handle at v f = record {
  seen = f.seen;
  told = prefix_nil list;
  joined = f.joined;
  writes =
      λ e. cc;
}

pub forks : (handle : ℕ) (v : View) (x : CopyState) (views : List View) → Keeps x views
    → get_elem? views handle ≡ some v
    → Keeps x (set views handle v ++ telling_of v ∷ [])
forks handle v x views k at = record {
  list = k.list;
  writer = k.writer;
  unopened = k.unopened;
  outcome = k.outcome;
  each = λ j u e. let e' : get_elem? (views ++ telling_of v ∷ []) j ≡ some u =
      subst (λ (l : List View). get_elem? (l ++ telling_of v ∷ []) j ≡ some u) (set_again views handle v at) e in
      ⊎_elim (λ (t : get_elem? views j ≡ some u). k.each j u t)
      (λ (t : telling_of v ≡ u). subst (Fits x k.list k.writer j) t
      (telling_fits x k.list k.writer handle j v (k.each handle v at))) (at_snoc views (telling_of v) u j e');
}

informed_joined : (x : CopyState) (a b : Bool) (s t : Layout) (d e : Book) → (a ≡ true → IsShown x s d)
    → (b ≡ true → IsShown x t e) → a || b ≡ true → IsShown x (if a then s else t) (if a then d else e)
informed_joined x true b s t d d' f g e = f refl
informed_joined x false b s t d d' f g e = g e

informed_fits : (x : CopyState) (list : List Op) (writer handle other : ℕ) (v w : View) → Fits x list writer handle v
    → Fits x list writer other w → Fits x list writer handle (with_news v w)
informed_fits x list writer handle other v w f g = record {
  seen = f.seen;
  told = g.seen;
  joined = informed_joined x v.joined w.joined v.schema w.schema v.desk w.desk f.joined g.joined;
  writes = λ e. let h = f.writes e in record { started = h.started; alone = h.alone; all = h.all };
}

pub merges : (handle : ℕ) (v : View) (other : ℕ) (w : View) (x : CopyState) (views : List View) → Keeps x views
    → get_elem? views handle ≡ some v → ¬ (other ≡ handle) → get_elem? (set views handle (with_news v w)) other ≡ some w
    → Keeps x (set (set views handle (with_news v w)) other newcomer)
merges handle v other w x views k at apart there =
    let old : get_elem? views other ≡ some w =
    ⊎_elim (λ (t : (other ≡ handle) × (with_news v w ≡ w)). absurd (apart t.0))
    (λ (t : (other ≢ handle) × (get_elem? views other ≡ some w)). t.1)
    (at_set views handle other (with_news v w) w there) in
    let first = set_fits x k.list k.writer views handle (with_news v w) (λ j u ne e. k.each j u e)
    (informed_fits x k.list k.writer handle other v w (k.each handle v at) (k.each other w old)) in
    record {
      list = k.list;
      writer = k.writer;
      unopened = k.unopened;
      outcome = k.outcome;
      each = set_fits x k.list k.writer (set views handle (with_news v w)) other newcomer (λ j u ne e. first j u e)
          (newcomer_fits x k.list k.writer other);
    }

-- ---- what readers have seen

pub seen_is_published : SeenIsPublished
seen_is_published x views handle writer v w keeps at writes_at writes =
    let mine = keeps.each handle v at in
    let all = (keeps.each writer w writes_at).writes writes in
    subst (IsPrefix v.seen) (sym all.all) mine.seen
