-- write NODE LINE
use Rattle.std.proofs.Common.{◌≡◌, ◌≢◌, ℕ, ◌+◌, ◌<◌, ◌≤◌, ℤ, not, List, [], ◌∷◌, Option, Some, None, IsTrue, length, Result, Ok, Err, refl, sym, ap, subst, ◌∙◌, inl, inr, arith, ⊎_elim}
use Rattle.std.specs.Prelude.{◌⊎◌, ◌-◌, nat_lt, unwrap_or, IsFalse}
use Rattle.std.specs.List.{AllByRecursion}
use Rattle.std.specs.Cmp.Lexicographic.{nat_list_cmp_total}
use Rattle.std.specs.FinMap as map
use Rattle.std.proofs.lemmas.Bool.{cases_Bool, ltb-false}
use Rattle.rr_archive.specs.declared.archive.Cells.{Ghosts}
use Rattle.rr_schema.specs.Schema.{IsLayout}
use Rattle.rr_text.specs.Text.{fits_i64}
use Rattle.rr_text.specs.declared.limits.TheConstants.{MAX_NUMBER}
use Rattle.rr_join.proofs.ValuesLemmas.{get-insert_itself, insert_there, insert_twice}
use Rattle.rr_line.specs.declared.fault.LineFault.{LineFault}
use Rattle.rr_line.specs.declared.fault.LineFault.TheVariants as line
use Rattle.rr_line.specs.declared.precision.Precision.TheVariants.{Ns}
use Rattle.rr_line.specs.Grammar.{IsLineOf}
use Rattle.rr_point.specs.Key.{key_text}
use Rattle.rr_text.specs.Bytes.{HasNoLineFeed}
use Rattle.rr_point.specs.Point.{PointView}
use Rattle.rr_line.specs.Line.{LineView, nothing, point}
use Rattle.rr_line.specs.Reading.{reading}
use Rattle.rr_line.proofs.LineLemmas.{line_found, keys_of_point}
use Rattle.rr_cells.specs.Knowledge.{Knowledge, IsAheadOf, with_marks}
use Rattle.rr_cells.specs.Samples.{Sample, marks_of}
use Rattle.rr_cells.specs.World.{World, IsNext, HoldsAllOf, with_sample}
use Rattle.rr_cells.proofs.Writes.{writer_stays_closed, writer_holds_own, others_stay_closed, others_hold_own, written_now}
use Rattle.rr_replica.specs.declared.fault.WriteFault.{WriteFault}
use Rattle.rr_replica.specs.declared.fault.WriteFault.TheVariants as why
use Rattle.rr_replica.specs.declared.fault.WriteFault.TheVariants.{AheadOfClock, NumbersSpent}
use Rattle.rr_cells.specs.Cells.{Cells}
use Rattle.rr_cells.specs.ReplicaState.{ReplicaState, with_put}
use Rattle.rr_replica.specs.ReplicaWithRoom.{ReplicaWithRoom, replica_state}
use Rattle.rr_replica.specs.Writing.{with_fields, is_ahead, lacks_numbers, IsAfterRefusal}
use Rattle.rr_cells.proofs.OneSampleMore.{put_is_one_sample_more}
use Rattle.rr_cluster.specs.declared.cluster.Cluster.{Cluster}
use Rattle.rr_cluster.specs.declared.fault.CommandFault.{CommandFault}
use Rattle.rr_cluster.specs.declared.fault.CommandFault.TheVariants.{NoNode, Line, Write}
use Rattle.rr_cluster.specs.declared.stop.Stop.{Stop}
use Rattle.rr_cluster.specs.declared.stop.Stop.TheVariants.{Refused, Memory}
use Rattle.rr_cluster.specs.Agreement.{in_cells, node_in_cells}
use Rattle.rr_text.specs.Results.{◌>>=◌, check}
use Rattle.rr_cluster.specs.Commands.Write.{line_of, samples_of, samples_at, samples_of_point, samples_of_view, samples_of_line, with_samples, with_written, with_all_written, after_write}
use Rattle.rr_cluster.specs.Meaning.{node_of, replica_at, Represents, Leaves, Writes, node_in}
use Rattle.rr_cluster.specs.Model.{Model, cell_model, sample_model}
use Rattle.rr_schema.specs.Origin.{IsOrigin}
use Rattle.rr_cells.specs.CellBounds.{IsSoundSample}
use Rattle.rr_cluster.specs.Soundness.{IsSound, IsSoundNode, IsUsed}
use Rattle.rr_cluster.specs.State.{Node, State}
use Rattle.rr_cluster.specs.Stop.{IsStopOf, IsStopOfWrite}
use Rattle.rr_cluster.proofs.CommandsLemmas.Node.{with_node_agrees}
use Rattle.rr_cluster.proofs.LimitLemmas.{fields_fit, time_fits, samples_fit}
use Rattle.rr_cluster.proofs.MeaningLemmas.{HasPut, SameBesidesNodes, represents_put, node_at}
use Rattle.rr_cluster.proofs.SoundnessLemmas.{place_is_sound}
use Rattle.rr_cluster.proofs.StepLemmas.{names_apart, OfAnswer, last_holds, then_holds, holds_of, not_true, Agrees, then_agree, found_agree, done_agrees}

-- ---- check by check

module _ {K : Type 0} (model : Model K) (m : State K) (name line : List ℕ) where
  pub no_node : map.get m.nodes name ≡ None → after_write model m name line ≡ Err NoNode
  unfolding after_write
  no_node e = rw e refl

  write_to_node : (n : Node K) → map.get m.nodes name ≡ Some n
      → after_write model m name line ≡ (samples_of_line n m.clock m.lead line >>= λ xs. Ok
      (record m { nodes = map.insert m.nodes name (with_all_written model n xs); world = with_samples m.world xs }))
  unfolding after_write
  write_to_node n e = rw e refl

-- ---- a replica that writes the samples of a point, field by field, or refuses them

fields_written : (h : ReplicaState) (p : PointView) (time : ℤ) (fields : List (List ℕ × ℤ))
    → node_of (with_fields h p time fields) ≡ with_all_written cell_model (node_of h)
    (samples_of h.origin h.next time p fields)
fields_written h p time [] = refl
fields_written h p time (field ∷ fields) = fields_written (with_put h (key_text p field.0) time field.1) p time fields

module _ (old new : ReplicaState) (clock : ℤ) (lead : Option ℕ) (p : PointView) (count : ℕ)
    (many : count ≡ length p.fields) where
  lacks : lacks_numbers old count ≡ lacks_numbers old (length p.fields)
  lacks = ap (lacks_numbers old) many

  pub point_written : (IsTrue (is_ahead p.time clock lead) → ⊥)
      → (IsFalse (is_ahead p.time clock lead) × IsTrue (lacks_numbers old count) → ⊥)
      → new ≡ with_fields old p (unwrap_or p.time clock) p.fields
      → Writes old new (Ok tt) (samples_of_point (node_of old) clock lead p)
  point_written not_ahead not_spent put =
      elim (cases_Bool (is_ahead p.time clock lead)) [
        | inl ahead ↦ absurd (not_ahead ahead)
        | inr timely ↦ elim (cases_Bool (lacks_numbers old (length p.fields))) [
          | inl spent ↦ absurd (not_spent (timely, lacks ∙ spent))
          | inr enough ↦ (
            samples_of old.origin old.next (unwrap_or p.time clock) p p.fields,
            rw (timely, enough) refl,
            ap node_of put ∙ fields_written old p (unwrap_or p.time clock) p.fields,
          )
        ]
      ]

  pub point_refused : (fault : WriteFault) (stop : Stop) → IsStopOfWrite fault stop
      → IsAfterRefusal with_put old new p (unwrap_or p.time clock) fault
      → (fault ≡ why.AheadOfClock → IsTrue (is_ahead p.time clock lead))
      → (fault ≡ why.NumbersSpent → IsFalse (is_ahead p.time clock lead) × IsTrue (lacks_numbers old count))
      → Writes old new (Err stop) (samples_of_point (node_of old) clock lead p)
  point_refused why.AheadOfClock stop stopped same ahead spent = rw (stopped, ahead refl) (refl, same)
  point_refused why.NumbersSpent stop stopped same ahead spent =
      rw (stopped, (spent refl).0, sym lacks ∙ (spent refl).1) (refl, same)
  point_refused (why.Memory put) stop stopped same ahead spent = rw stopped tt

-- a line that is read
line_read : (parsed : Result LineView LineFault) (view : LineView) → line_of parsed ≡ Ok view → parsed ≡ Ok view
line_read (Ok other) view e = cc
line_read (Err fault) view e = absurd cc

-- a line that is refused
pub stopped_line : (h : ReplicaState) (clock : ℤ) (lead : Option ℕ) (text : List ℕ) (fault : LineFault) (stop : Stop)
    → IsStopOf line.Memory Line fault stop → (fault ≡ line.Memory) ⊎ (reading Ns text ≡ Err fault)
    → Writes h h (Err stop) (samples_of_line (node_of h) clock lead text)
stopped_line h clock lead text fault stop (inl memory) parsed = rw memory.1 tt
stopped_line h clock lead text fault stop (inr other) (inl memory) = absurd (other.0 memory)
stopped_line h clock lead text fault stop (inr other) (inr parsed) = rw (other.1, parsed) (refl, refl)

-- ---- the cluster after a write

-- a node keeps its schema
schema_stays : (n : Node Cells) (xs : List Sample) → (with_all_written cell_model n xs).schema ≡ n.schema
schema_stays n [] = refl
schema_stays n (x ∷ xs) = schema_stays (with_written cell_model n x) xs

module _ {A : Type 0} {g : Ghosts A} (old new : Cluster A g) (m : State Cells) (same : SameBesidesNodes old new)
    (is : Represents old m)
    (name : List ℕ) (was h : ReplicaWithRoom) (here : replica_at old.nodes name ≡ Some was)
    (put : HasPut old.nodes new.nodes name h) where
  -- a replica that hasn't changed is a node in its own place
  represents_still : replica_state h ≡ replica_state was → Represents new m
  represents_still unchanged =
      let there = node_at old m is name (Some was) here in
      let back = insert_there nat_list_cmp_total names_apart m.nodes name (node_in h)
      (there ∙ ap (λ (x : ReplicaState). Some (node_of x)) (sym unchanged)) in
      subst (Represents new) (λ i. record m { nodes = back i })
      (represents_put old new m same is name h m.world put
      (ap (λ (x : ReplicaState). x.schema) unchanged ∙ is.shared name was here))

  leaves : (result : Result (Unit {0}) Stop) (parsed : Result (List Sample) CommandFault)
      → Writes (replica_state was) (replica_state h) result parsed
      → Leaves new m result (parsed >>= λ xs. Ok (record m {
        nodes = map.insert m.nodes name (with_all_written cell_model (node_in was) xs);
        world =
            with_samples m.world xs;
      }))
  leaves (Ok done) parsed writes =
      let after : List Sample → Node Cells → State Cells =
      λ xs n. record m { nodes = map.insert m.nodes name n; world = with_samples m.world xs } in (
        after writes.0 (with_all_written cell_model (node_in was) writes.0),
        ap (λ (r : Result (List Sample) CommandFault). r >>= λ xs. Ok
            (after xs (with_all_written cell_model (node_in was) xs))) writes.1,
        subst (λ (n : Node Cells). Represents new (after writes.0 n)) writes.2
            (represents_put old new m same is name h (with_samples m.world writes.0) put
            (ap (λ (n : Node Cells). n.schema) writes.2 ∙ schema_stays (node_in was) writes.0
            ∙ is.shared name was here)),
      )
  leaves (Err (Refused fault)) parsed writes = (
    ap (λ (r : Result (List Sample) CommandFault). r >>= λ xs. Ok
        (record m {
          nodes = map.insert m.nodes name (with_all_written cell_model (node_in was) xs);
          world =
              with_samples m.world xs;
        })) writes.0,
    represents_still writes.1,
  )
  leaves (Err Memory) parsed writes = tt

  pub leaves_written : (line : List ℕ) (result : Result (Unit {0}) Stop)
      → Writes (replica_state was) (replica_state h) result (samples_of_line (node_in was) old.clock old.lead line)
      → Leaves new m result (after_write cell_model m name line)
  leaves_written line result writes =
      let parsed : samples_of_line (node_in was) old.clock old.lead line
      ≡ samples_of_line (node_in was) m.clock m.lead line =
      λ i. samples_of_line (node_in was) (is.clock i) (is.lead i) line in
      subst (λ (r : Result (State Cells) CommandFault). Leaves new m result r)
      (sym (write_to_node cell_model m name line (node_in was) (node_at old m is name (Some was) here)))
      (leaves result (samples_of_line (node_in was) m.clock m.lead line)
      (subst (Writes (replica_state was) (replica_state h) result) parsed writes))

-- ---- samples that a node writes next

-- samples under the numbers from this one on, none of which is past the last
abbrev AreNext : ℕ → ℕ → List Sample → Type 0
AreNext origin number [] = Unit {0}
AreNext origin number (x ∷ xs) = (x.origin ≡ origin) × (x.number ≡ number) × (x.number ≤ MAX_NUMBER)
    × AreNext origin (number + 1) xs

samples_are_next : (origin number : ℕ) (time : ℤ) (p : PointView) (fields : List (List ℕ × ℤ))
    → number + length fields ≤ MAX_NUMBER + 1 → AreNext origin number (samples_of origin number time p fields)
samples_are_next origin number time p [] few = tt
samples_are_next origin number time p (field ∷ fields) few =
    (refl, refl, omega (arith, few), samples_are_next origin (number + 1) time p fields (omega (arith, few)))

module _ {K : Type 0} (n : Node K) (few : n.next ≤ MAX_NUMBER + 1) (clock : ℤ) (lead : Option ℕ) where
  -- what holds of the samples of a point, if enough numbers are left for them, holds of those that are written of it
  of_point : (P : List Sample → Type 0) (p : PointView)
      → (n.next + length p.fields ≤ MAX_NUMBER + 1 → P (samples_at n clock p))
      → OfAnswer P (samples_of_point n clock lead p)
  of_point P p holds = then_holds P (check (not (is_ahead p.time clock lead)) (Write AheadOfClock)) _
      (λ timely yes. then_holds P (check (not (nat_lt (MAX_NUMBER + 1 - n.next) (length p.fields)))
      (Write NumbersSpent)) _ (λ left also.
      let enough = ltb-false _ _ (not_true _ (Write NumbersSpent) left also) in
      last_holds P _ (holds (omega (arith, few, enough)))))

  view_is_next : (view : LineView) → OfAnswer (AreNext n.origin n.next) (samples_of_view n clock lead view)
  view_is_next nothing = last_holds (AreNext n.origin n.next) [] tt
  view_is_next (point p) = of_point (AreNext n.origin n.next) p
      (samples_are_next n.origin n.next (unwrap_or p.time clock) p p.fields)

  line_is_next : (line : List ℕ) (xs : List Sample) → samples_of_line n clock lead line ≡ Ok xs
      → AreNext n.origin n.next xs
  line_is_next line xs = holds_of (AreNext n.origin n.next) (samples_of_line n clock lead line) xs
      (then_holds (AreNext n.origin n.next) (line_of (reading Ns line)) _ (λ view is. view_is_next view))

  module _ (is : IsOrigin n.origin) (some : 1 ≤ n.next) (fits : IsTrue (fits_i64 clock)) (line : List ℕ)
      (one : HasNoLineFeed line) where
    view_is_sound : (view : LineView) → IsLineOf Ns line (Ok view)
        → OfAnswer (AllByRecursion IsSoundSample) (samples_of_view n clock lead view)
    view_is_sound nothing parsed = last_holds (AllByRecursion IsSoundSample) [] tt
    view_is_sound (point p) parsed = of_point (AllByRecursion IsSoundSample) p (λ enough.
        samples_fit n.origin n.next (unwrap_or p.time clock) p p.fields is some enough
        (time_fits Ns parsed.parts.ending p.time clock parsed.parts.is_ending fits)
        (keys_of_point Ns line p one parsed)
        (fields_fit parsed.parts.fields_text p.fields parsed.parts.ending parsed.parts.are_fields))

    line_is_sound : (xs : List Sample) → samples_of_line n clock lead line ≡ Ok xs → AllByRecursion IsSoundSample xs
    line_is_sound xs = holds_of (AllByRecursion IsSoundSample) (samples_of_line n clock lead line) xs
        (then_holds (AllByRecursion IsSoundSample) (line_of (reading Ns line)) _ (λ view is.
        view_is_sound view (subst (IsLineOf Ns line) (line_read (reading Ns line) view is) (line_found Ns line))))

-- ---- a sound state stays sound

-- the sample that a node writes next
module _ (w : World) (n : Node Knowledge) (is : IsLayout n.schema) (sound : IsSoundNode w n) (x : Sample)
    (ours : x.origin ≡ n.origin) (next : x.number ≡ n.next) (few : x.number ≤ MAX_NUMBER) where
  is_next : IsNext w x
  is_next y e same = let before : y.number < n.next = sound.numbered y e (same ∙ ours) in omega arith

  -- the node that writes it
  writer_is_sound : IsSoundNode (with_sample w x) (with_written sample_model n x)
  writer_is_sound =
      let own : HoldsAllOf n.schema w n.contents x.origin =
      subst (λ (o : ℕ). HoldsAllOf n.schema w n.contents o) (sym ours) sound.own in
      record {
        closed = writer_stays_closed n.schema w n.contents x is sound.closed is_next own;
        own = subst (λ (o : ℕ). HoldsAllOf n.schema (with_sample w x) (with_marks n.contents (marks_of n.schema x)) o)
            ours (writer_holds_own n.schema w n.contents x own);
        numbered = λ y e same. ⊎_elim
            (λ it. let one : y.number ≡ x.number = ap (λ (z : Sample). z.number) it in omega arith)
            (λ before. let below : y.number < x.number = is_next y before (same ∙ sym ours) in omega arith)
            (written_now w x y e);
        some_number = omega arith;
        few_numbers = omega (arith, few);
      }

  -- a node of another origin
  other_is_sound : (o : Node Knowledge) → o.origin ≢ n.origin → IsSoundNode w o → IsSoundNode (with_sample w x) o
  other_is_sound o apart is_sound = record {
    closed = others_stay_closed o.schema w o.contents x is_sound.closed is_next;
    own = others_hold_own o.schema w o.contents x o.origin (λ e. apart (e ∙ ours)) is_sound.own;
    numbered = λ y e same. ⊎_elim
        (λ it. absurd (apart (sym same ∙ ap (λ (z : Sample). z.origin) it ∙ ours)))
        (λ before. is_sound.numbered y before same)
        (written_now w x y e);
    some_number = is_sound.some_number;
    few_numbers = is_sound.few_numbers;
  }

-- the schema of a node is within its limits
pub layout_at : (m : State Knowledge) → IsSound m → (name : List ℕ) (n : Node Knowledge) → map.get m.nodes name ≡ Some n
    → IsLayout n.schema
layout_at m sound name n here = subst IsLayout (sym (sound.shared name n here)) sound.layout

-- a sample more
module _ (m : State Knowledge) (sound : IsSound m) (name : List ℕ) (n : Node Knowledge)
    (here : map.get m.nodes name ≡ Some n) (x : Sample) (ours : x.origin ≡ n.origin) (next : x.number ≡ n.next)
    (is_sound : IsSoundSample x) where
  abbrev with_sample_at : State Knowledge
  with_sample_at = record m {
    nodes = map.insert m.nodes name (with_written sample_model n x);
    world =
        with_sample m.world x;
  }

  sample_is_sound : IsSound with_sample_at
  sample_is_sound =
      let is = layout_at m sound name n here in
      let n_is_sound = sound.nodes name n here in
      place_is_sound m sound name n (with_written sample_model n x) here refl refl (with_sample m.world x)
      (writer_is_sound m.world n is n_is_sound x ours next is_sound.few_numbers)
      (other_is_sound m.world n is n_is_sound x ours next is_sound.few_numbers)
      (λ s k closed. others_stay_closed s m.world k x closed
      (is_next m.world n is n_is_sound x ours next is_sound.few_numbers))
      (λ y e. ⊎_elim
      (λ it. subst (IsUsed m) (sym (ap (λ (z : Sample). z.origin) it ∙ ours)) (sound.used name n here))
      (λ before. sound.written y before)
      (written_now m.world x y e))
      (λ y e. ⊎_elim
      (λ it. subst IsSoundSample (sym it) is_sound)
      (λ before. sound.samples y before)
      (written_now m.world x y e))

samples_are_sound : (m : State Knowledge) → IsSound m → (name : List ℕ) (n : Node Knowledge)
    → map.get m.nodes name ≡ Some n → (xs : List Sample) → AreNext n.origin n.next xs → AllByRecursion IsSoundSample xs
    → IsSound (record m {
      nodes = map.insert m.nodes name (with_all_written sample_model n xs);
      world =
          with_samples m.world xs;
    })
samples_are_sound m sound name n here [] next each =
    subst IsSound (λ i. record m { nodes = sym (insert_there nat_list_cmp_total names_apart m.nodes name n here) i })
    sound
samples_are_sound m sound name n here (x ∷ xs) next each =
    let more = with_sample_at m sound name n here x next.0 next.1 each.0 in
    let rest = samples_are_sound more (sample_is_sound m sound name n here x next.0 next.1 each.0) name
    (with_written sample_model n x) (get-insert_itself nat_list_cmp_total names_apart m.nodes name
    (with_written sample_model n x)) xs
    (subst (λ (k : ℕ). AreNext n.origin (k + 1) xs) (sym next.1) next.3) each.1 in
    subst IsSound (λ i. record m {
      nodes = insert_twice nat_list_cmp_total names_apart m.nodes name
          (with_written sample_model n x) (with_all_written sample_model n (x ∷ xs)) i;
      world =
          with_samples m.world (x ∷ xs);
    }) rest

-- ---- the models agree

-- the next sample is ahead of what a sound node knows
is_ahead_of : (w : World) (n : Node Knowledge) → IsSoundNode w n → (x : Sample) → x.origin ≡ n.origin
    → x.number ≡ n.next → IsAheadOf x n.contents
is_ahead_of w n sound x ours next m e same =
    subst (λ (k : ℕ). m.number < k) (sym next) (sound.numbered m.sample (sound.closed.written m e).0 (same ∙ ours))

all_written_agree : (w : World) (n : Node Knowledge) → IsLayout n.schema → IsSoundNode w n → (xs : List Sample)
    → AreNext n.origin n.next xs
    → with_all_written cell_model (node_in_cells n) xs ≡ node_in_cells (with_all_written sample_model n xs)
all_written_agree w n is sound [] next = refl
all_written_agree w n is sound (x ∷ xs) next =
    let put = put_is_one_sample_more n.schema n.contents x is (is_ahead_of w n sound x next.0 next.1) in
    let more = with_written sample_model n x in
    ap (λ (c : Cells). with_all_written cell_model
    (record { schema = n.schema; origin = n.origin; next = x.number + 1; contents = c }) xs) put
    ∙ all_written_agree (with_sample w x) more is (writer_is_sound w n is sound x next.0 next.1 next.2) xs
    (subst (λ (k : ℕ). AreNext n.origin (k + 1) xs) (sym next.1) next.3)

pub write_agrees : (m : State Knowledge) → IsSound m → (name line : List ℕ)
    → Agrees in_cells (λ after. HasNoLineFeed line → IsSound after) (after_write cell_model (in_cells m) name line)
    (after_write sample_model m name line)
unfolding after_write
write_agrees m sound name line =
    let P : State Knowledge → Type 0 = λ after. HasNoLineFeed line → IsSound after in
    found_agree in_cells P node_in_cells m.nodes name NoNode _ _
    (λ n here. then_agree in_cells P (samples_of_line n m.clock m.lead line) _ _ (λ xs parsed.
    let node = sound.nodes name n here in
    let next = line_is_next n node.few_numbers m.clock m.lead line xs parsed in
    done_agrees in_cells P _ _ (with_node_agrees m name (with_all_written cell_model (node_in_cells n) xs)
    (with_all_written sample_model n xs) m.origins (with_samples m.world xs)
    (all_written_agree m.world n (layout_at m sound name n here) node xs next))
    (λ one. samples_are_sound m sound name n here xs next
    (line_is_sound n node.few_numbers m.clock m.lead (sound.origins n.origin (sound.used name n here)) node.some_number
    sound.clock line one xs parsed))))
