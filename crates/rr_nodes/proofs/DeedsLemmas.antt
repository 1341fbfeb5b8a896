-- Deeds, one after the other: the nodes have the cells of the marks that reached them, and what they hold stays without
-- gaps.
use Rattle.std.proofs.Common.{◌≡◌, ◌≢◌, ℕ, suc, ◌+◌, ◌≤◌, ℤ, Bool, true, false, List, [], ◌∷◌, fold, refl, sym, ap, ◌∙◌, subst, arith, true≢false, ⊎_elim, Option, Some, None, is_some}
use Rattle.std.specs.Prelude.{nat_le, if◌then◌else◌, All, Contains}
use Rattle.std.specs.Option.{option_map}
use Rattle.std.specs.List.{AllByRecursion}
use Rattle.std.specs.Ordering.{nat_cmp, eq_by_cmp}
use Rattle.std.specs.Cmp.{nat_cmp_total}
use Rattle.std.specs.FinMap.{empty, entries, get, insert, contains_key, get-empty, nat_cmp-IsAntisymmetric}
use Rattle.std.proofs.lemmas.Bool.{leb-true}
use Rattle.rr_text.specs.declared.limits.TheConstants.{MAX_NUMBER}
use Rattle.rr_schema.specs.Schema.{Layout, IsLayout}
use Rattle.rr_join.proofs.ValuesLemmas.{insert_there, is_some-map_values, map_values-empty, map_values-insert}
use Rattle.rr_cells.specs.CellNames.{CellName, cell_name_cmp}
use Rattle.rr_cells.specs.FetchText.{fetch_text}
use Rattle.rr_cells.specs.Samples.{Sample, marks_of}
use Rattle.rr_cells.specs.Knowledge.{Knowledge, with_marks, live, cells_where}
use Rattle.rr_cells.specs.World.{World, IsWritten, IsClosed, id_cmp, with_sample}
use Rattle.rr_cells.proofs.ClosedCells.{live_is_closed}
use Rattle.rr_cells.proofs.Writes.{nothing_is_closed, written_now}
use Rattle.rr_cells.specs.CellBounds.{IsCellOf, IsSoundSample}
use Rattle.rr_cells.specs.Cells.{Cells}
use Rattle.rr_cells.specs.Puts.{put_sample}
use Rattle.rr_cells.specs.State.{cells_of_knowledge}
use Rattle.rr_cells.proofs.OneSampleMore.{put_is_one_sample_more}
use Rattle.rr_cells.proofs.ValidStates.{states_are_valid}
use Rattle.rr_cells.proofs.WholeCells.{live_makes_the_same}
use Rattle.rr_fetch.specs.Answers.{cells_text}
use Rattle.rr_fetch.proofs.RowLaws.{answer_of_state}
use Rattle.rr_nodes.specs.Nodes.{Node, Nodes, Moment, Deed, opened, wrote, took, loaded, where_some, held_at, holding, with_new, written, taken, after, after_all}
use Rattle.rr_nodes.specs.Models.{cell_model, sample_model}
use Rattle.rr_nodes.specs.Laws.{node_in_cells, in_cells, IsSound, IsWithinLimits, HeldAreOfTheSchema, NodesAreOfSamples, FetchesAreOfSamples, MomentsAnswerAlike, PremisesAreKept}
use Rattle.rr_nodes.proofs.NodesLemmas.{get_in_cells, held_in_cells, nothing_in_cells, there_is_closed, cells_taken, next_stays, held_is_closed, new_is_sound, taken_is_sound, is_ahead, written_is_sound}

-- ---- one deed

-- all that was written passes
abbrev AllPass : (Sample → Type 0) → World → Type 0
AllPass ok w = (x : Sample) → IsWritten w x → ok x

-- the nodes of the two models agree, and those of samples are sound
record Agree (ok : Sample → Type 0) (s : Layout) (cells : Nodes Cells) (ns : Nodes Knowledge) : Type 0 where
  same : cells ≡ in_cells s ns
  w : World
  sound : IsSound s w ns
  pass : AllPass ok w

-- what a deed writes, under whatever number, passes
abbrev DeedPasses : (Sample → Type 0) → Deed → Type 0
DeedPasses ok (opened origin) = Unit {0}
DeedPasses ok (wrote origin key time value) = (number : ℕ) → 1 ≤ number → number ≤ MAX_NUMBER
    → ok (record { time = time; origin = origin; number = number; key = key; value = value })
DeedPasses ok (took origin there name) = Unit {0}
DeedPasses ok (loaded origin there) = Unit {0}

place_agrees : (s : Layout) (ns : Nodes Knowledge) (origin : ℕ) (c : Node Cells) (n : Node Knowledge)
    → c ≡ node_in_cells s n → insert (in_cells s ns) origin c ≡ in_cells s (insert ns origin n)
place_agrees s ns origin c n e = ap (insert (in_cells s ns) origin) e
    ∙ sym (map_values-insert nat_cmp_total nat_cmp-IsAntisymmetric (node_in_cells s) ns origin n)

module _ (ok : Sample → Type 0) (s : Layout) (is : IsLayout s) (w : World) (ns : Nodes Knowledge)
    (sound : IsSound s w ns) (pass : AllPass ok w) where
  unchanged : Agree ok s (in_cells s ns) ns
  unchanged = record { same = refl; w = w; sound = sound; pass = pass }

  -- what is there in one model is there in the other
  where_agrees : {X Y : Type 0} (view : X → Y) (o : Option X) (p : Option Y) (g : Y → Nodes Cells)
      (h : X → Nodes Knowledge) → p ≡ option_map view o
      → ((x : X) → o ≡ Some x → Agree ok s (g (view x)) (h x))
      → Agree ok s (where_some p (in_cells s ns) g) (where_some o ns h)
  where_agrees {X} {Y} view o p g h e each = subst
      (λ (y : Option Y). Agree ok s (where_some y (in_cells s ns) g) (where_some o ns h)) (sym e) (by o each)
    where
      by : (z : Option X) → ((x : X) → z ≡ Some x → Agree ok s (g (view x)) (h x))
          → Agree ok s (where_some (option_map view z) (in_cells s ns) g) (where_some z ns h)
      by None each = unchanged
      by (Some x) each = each x refl

  new_agrees : (origin : ℕ) (m : Cells) (k : Knowledge) → IsClosed s w k → m ≡ cells_of_knowledge s k
      → Agree ok s (with_new (in_cells s ns) origin m) (with_new ns origin k)
  new_agrees origin m k ck e = subst (λ (b : Bool). Agree ok s
      (if b then in_cells s ns else insert (in_cells s ns) origin (record { next = 1; now = m; before = [] }))
      (with_new ns origin k)) (sym (is_some-map_values nat_cmp_total nat_cmp-IsAntisymmetric (node_in_cells s) ns
      origin)) (by (contains_key ns origin) refl)
    where
      by : (b : Bool) → contains_key ns origin ≡ b → Agree ok s
          (if b then in_cells s ns else insert (in_cells s ns) origin (record { next = 1; now = m; before = [] }))
          (if b then ns else insert ns origin (record { next = 1; now = k; before = [] }))
      by true t = unchanged
      by false t = record {
        same = place_agrees s ns origin (record { next = 1; now = m; before = [] })
            (record { next = 1; now = k; before = [] }) (λ i. record { next = 1; now = e i; before = [] });
        w = w;
        sound = new_is_sound s is w ns sound origin k ck t;
        pass = pass;
      }

  write_agrees : (origin : ℕ) (key : List ℕ) (time value : ℤ) → DeedPasses ok (wrote origin key time value)
      → (n : Node Knowledge) → get ns origin ≡ Some n
      → Agree ok s (insert (in_cells s ns) origin (written cell_model s origin (node_in_cells s n) key time value))
      (insert ns origin (written sample_model s origin n key time value))
  write_agrees origin key time value passes n here = by (nat_le n.next MAX_NUMBER) refl
    where
      y : Sample
      y = record { time = time; origin = origin; number = n.next; key = key; value = value }

      by : (b : Bool) → nat_le n.next MAX_NUMBER ≡ b
          → Agree ok s (insert (in_cells s ns) origin (if b then holding (node_in_cells s n) (n.next + 1)
          (put_sample s (cells_of_knowledge s n.now) y) else node_in_cells s n))
          (insert ns origin (if b then holding n (n.next + 1) (with_marks n.now (marks_of s y)) else n))
      by true few = record {
        same = place_agrees s ns origin _ (holding n (n.next + 1) (with_marks n.now (marks_of s y)))
            (ap (λ (m : Cells). holding (node_in_cells s n) (n.next + 1) m)
            (put_is_one_sample_more s n.now y is (is_ahead s is w ns sound origin n here key time value)));
        w = with_sample w y;
        sound = written_is_sound s is w ns sound origin n here key time value;
        pass = λ x was. ⊎_elim (λ (new : x ≡ y). subst ok (sym new)
            (passes n.next (sound.some_number origin n here) (leb-true n.next MAX_NUMBER few)))
            (λ (old : IsWritten w x). pass x old) (written_now w y x was);
      }
      by false few = record {
        same = place_agrees s ns origin (node_in_cells s n) n refl;
        w = w;
        sound = subst (IsSound s w) (sym (insert_there nat_cmp_total nat_cmp-IsAntisymmetric ns origin n here)) sound;
        pass = pass;
      }

  take_agrees : (origin : ℕ) (name : CellName) (n : Node Knowledge) (k : Knowledge) → get ns origin ≡ Some n
      → IsClosed s w k
      → Agree ok s (insert (in_cells s ns) origin (taken cell_model s origin (node_in_cells s n)
      (cells_of_knowledge s k) name)) (insert ns origin (taken sample_model s origin n k name))
  take_agrees origin name n k here ck =
      let cells = cells_taken s is w n.now k (sound.closed origin n here).0 ck name in
      let next = next_stays s w origin n.next (sound.past origin n here) k ck name in
      record {
        same = place_agrees s ns origin _ (taken sample_model s origin n k name)
            (λ i. holding (node_in_cells s n) (next i) (cells i));
        w = w;
        sound = taken_is_sound s is w ns sound origin n here (cells_where s k (eq_by_cmp cell_name_cmp name))
            (there_is_closed s is w n.now k (sound.closed origin n here).0 ck name);
        pass = pass;
      }

  deed_agrees : (d : Deed) → DeedPasses ok d → Agree ok s (after cell_model s (in_cells s ns) d)
      (after sample_model s ns d)
  deed_agrees (opened origin) passes = new_agrees origin empty empty (nothing_is_closed s w) (nothing_in_cells s)
  deed_agrees (wrote origin key time value) passes =
      where_agrees (node_in_cells s) (get ns origin) (get (in_cells s ns) origin) _ _ (get_in_cells s ns origin)
      (λ n here. write_agrees origin key time value passes n here)
  deed_agrees (took origin there name) passes =
      where_agrees (node_in_cells s) (get ns origin) (get (in_cells s ns) origin) _ _ (get_in_cells s ns origin)
      (λ n here.
      where_agrees (cells_of_knowledge s) (held_at ns there) (held_at (in_cells s ns) there) _ _
      (held_in_cells s ns there) (λ k was.
      take_agrees origin name n k here (held_is_closed s w ns sound there k was)))
  deed_agrees (loaded origin there) passes =
      where_agrees (cells_of_knowledge s) (held_at ns there) (held_at (in_cells s ns) there) _ _
      (held_in_cells s ns there) (λ k was.
      new_agrees origin (cells_of_knowledge s k) (live s k)
      (live_is_closed s w k (held_is_closed s w ns sound there k was)) (sym (live_makes_the_same s k is)))

-- ---- all deeds

deeds_agree : (ok : Sample → Type 0) (s : Layout) → IsLayout s → (w : World) (ns : Nodes Knowledge) → IsSound s w ns
    → AllPass ok w → (deeds : List Deed) → AllByRecursion (DeedPasses ok) deeds
    → Agree ok s (fold (after cell_model s) (in_cells s ns) deeds) (fold (after sample_model s) ns deeds)
deeds_agree ok s is w ns sound pass [] all = unchanged ok s is w ns sound pass
deeds_agree ok s is w ns sound pass (d ∷ deeds) all =
    let one = deed_agrees ok s is w ns sound pass d all.0 in
    subst (λ (m : Nodes Cells). Agree ok s (fold (after cell_model s) m deeds)
    (fold (after sample_model s) (after sample_model s ns d) deeds)) (sym one.same)
    (deeds_agree ok s is one.w (after sample_model s ns d) one.sound one.pass deeds all.1)

nothing_was_written : (x : Sample) → ◌≢◌ {A = Option Sample} (get {R = id_cmp} empty (x.origin, x.number)) (Some x)
nothing_was_written x was = true≢false (sym (ap is_some was) ∙ ap is_some (get-empty id_cmp (x.origin, x.number)))

nothing_is_sound : (s : Layout) → IsSound s empty empty
nothing_is_sound s =
    let no_node : (origin : ℕ) (n : Node Knowledge)
    → ◌≢◌ {A = Option (Node Knowledge)} (get {R = nat_cmp} empty origin) (Some n) =
    λ origin n e. true≢false (sym (ap is_some e) ∙ ap is_some (get-empty nat_cmp origin)) in
    record {
      closed = λ origin n e. absurd (no_node origin n e);
      own = λ origin n e. absurd (no_node origin n e);
      past = λ origin n e. absurd (no_node origin n e);
      some_number = λ origin n e. absurd (no_node origin n e);
      written = λ x was. absurd (nothing_was_written x was);
    }

from_nothing : (ok : Sample → Type 0) (s : Layout) → IsLayout s → (deeds : List Deed)
    → AllByRecursion (DeedPasses ok) deeds → Agree ok s (after_all cell_model s deeds) (after_all sample_model s deeds)
from_nothing ok s is deeds all =
    subst (λ (m : Nodes Cells). Agree ok s (fold (after cell_model s) m deeds) (after_all sample_model s deeds))
    (map_values-empty nat_cmp_total nat_cmp-IsAntisymmetric (node_in_cells s))
    (deeds_agree ok s is empty empty (nothing_is_sound s) (λ x was. absurd (nothing_was_written x was)) deeds all)

-- ---- each sample is one of a deed

abbrev IsOf : List Deed → Sample → Type 0
IsOf deeds x = Contains deeds (wrote x.origin x.key x.time x.value) × (1 ≤ x.number) × (x.number ≤ MAX_NUMBER)

passes_among : (deeds : List Deed) (d : Deed) → Contains deeds d → DeedPasses (IsOf deeds) d
passes_among deeds (opened origin) has = tt
passes_among deeds (wrote origin key time value) has = λ number some few. (has, some, few)
passes_among deeds (took origin there name) has = tt
passes_among deeds (loaded origin there) has = tt

each_passes : (deeds rest : List Deed) → ((d : Deed) → Contains rest d → Contains deeds d)
    → AllByRecursion (DeedPasses (IsOf deeds)) rest
each_passes deeds [] within = tt
each_passes deeds (d ∷ rest) within = (
  passes_among deeds d (within d (0, omega arith, refl)),
  each_passes deeds rest (λ e has. within e (suc has.0, (let below = has.1 in omega (arith, below)), has.2)),
)

by_deeds : (s : Layout) → IsLayout s → (deeds : List Deed)
    → Agree (IsOf deeds) s (after_all cell_model s deeds) (after_all sample_model s deeds)
by_deeds s is deeds = from_nothing (IsOf deeds) s is deeds (each_passes deeds deeds (λ d has. has))

pub nodes_are_of_samples : NodesAreOfSamples
nodes_are_of_samples s deeds is = (by_deeds s is deeds).same

pub premises_are_kept : PremisesAreKept
premises_are_kept s deeds is = let all = by_deeds s is deeds in (all.w, all.sound, all.pass)

-- the cells of some marks, where there are any
pub from_cells : (s : Layout) (o : Option Knowledge) (m : Cells) → option_map (cells_of_knowledge s) o ≡ Some m
    → (known : Knowledge) × (o ≡ Some known) × (cells_of_knowledge s known ≡ m)
from_cells s None m e = absurd cc
from_cells s (Some known) m e = let same : cells_of_knowledge s known ≡ m = cc in (known, refl, same)

-- what is held in cells at a moment
pub held_then : (s : Layout) (deeds : List Deed) (at : Moment) → IsLayout s
    → held_at (after_all cell_model s deeds) at ≡ option_map (cells_of_knowledge s)
    (held_at (after_all sample_model s deeds) at)
held_then s deeds at is = ap (λ (m : Nodes Cells). held_at m at) (nodes_are_of_samples s deeds is)
    ∙ held_in_cells s (after_all sample_model s deeds) at

pub fetches_are_of_samples : FetchesAreOfSamples
fetches_are_of_samples s deeds at q is = ap (option_map (λ m. cells_text s m q)) (held_then s deeds at is)
    ∙ by (held_at (after_all sample_model s deeds) at)
  where
    by : (o : Option Knowledge) → option_map (λ m. cells_text s m q) (option_map (cells_of_knowledge s) o)
        ≡ option_map (λ k. fetch_text s k q) o
    by None = refl
    by (Some k) = ap Some (answer_of_state s is k q)

pub moments_answer_alike : MomentsAnswerAlike
moments_answer_alike s deeds a b is same =
    held_then s deeds a is ∙ by_live (held_at (after_all sample_model s deeds) a)
    ∙ ap (option_map (cells_of_knowledge s)) same ∙ sym (by_live (held_at (after_all sample_model s deeds) b))
    ∙ sym (held_then s deeds b is)
  where
    by_live : (o : Option Knowledge) → option_map (cells_of_knowledge s) o
        ≡ option_map (cells_of_knowledge s) (option_map (live s) o)
    by_live None = refl
    by_live (Some k) = ap Some (sym (live_makes_the_same s k is))

-- ---- the limits

sound_sample : (deeds : List Deed) → All IsWithinLimits deeds → (x : Sample) → IsOf deeds x → IsSoundSample x
sound_sample deeds all x of =
    let deed = wrote x.origin x.key x.time x.value in
    let limits = subst IsWithinLimits of.0.2 (all of.0.0 deed of.0.1) in
    record {
      origin = limits.0;
      some_number = of.1;
      few_numbers = of.2;
      key = limits.1;
      time = limits.2;
      value =
          limits.3;
    }

pub held_are_of_the_schema : HeldAreOfTheSchema
held_are_of_the_schema s deeds at m is all held =
    let ns = after_all sample_model s deeds in
    let kept = premises_are_kept s deeds is in
    let known = from_cells s (held_at ns at) m (sym (held_then s deeds at is) ∙ held) in
    subst (λ (c : Cells). All (IsCellOf s) (entries c)) known.2
    (states_are_valid s kept.0 known.0 is (held_is_closed s kept.0 ns kept.1 at known.0 known.1)
    (λ x was. sound_sample deeds all x (kept.2 x was)))
