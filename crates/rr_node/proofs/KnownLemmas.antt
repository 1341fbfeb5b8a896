-- A line that says samples is taken as the samples are.
use Rattle.std.proofs.Common.{◌≡◌, ℕ, ℤ, Bool, true, false, List, [], ◌∷◌, length, Option, Result, Ok, Err, Bor, refl, sym, ap, subst, ◌∙◌}
use Rattle.std.specs.Prelude.{codes, map, take, unwrap_or, IsTrue}
use Rattle.std.specs.declared.alloc.AllocError.{AllocError}
use Rattle.std.proofs.lemmas.List.{length-map}
use Rattle.rr_line.specs.Known.{Sample, samples_of}
use Rattle.rr_point.specs.Key.{key_text}
use Rattle.rr_point.specs.Point.{PointView}
use Rattle.rr_replica.specs.Writing.{is_ahead, lacks_numbers}
use Rattle.rr_replica.specs.declared.fault.WriteFault.{WriteFault}
use Rattle.rr_replica.specs.declared.fault.WriteFault.TheVariants as why
use Rattle.rr_replica.proofs.FieldLemmas.{take-view}
use Rattle.rr_desk.specs.KeeperState.{KeeperState, own_replica}
use Rattle.rr_desk.specs.Points.{with_put, with_puts, with_samples}
use Rattle.rr_node.specs.declared.answer.Answer.TheVariants as says
use Rattle.rr_node.specs.Connection.{IsAnswer, Handled}
use Rattle.rr_node.specs.Lines.{Verdict, skipped, put, refused, verdict_by, verdict_of_point, keeper_with, keeper_with_some}
use Rattle.rr_node.proofs.VerdictLemmas.{Tells, verdict_put_of, verdict_spent_of}

-- the fields of a point are put as its samples are
puts_samples : (k : KeeperState) (p : PointView) (time : ℤ) (fields : List (List ℕ × ℤ))
    → with_puts k p time fields ≡ with_samples k time (map (λ field. (key_text p field.0, field.1)) fields)
puts_samples k p time [] = refl
puts_samples k p time (field ∷ fields) = puts_samples (with_put k (key_text p field.0) time field.1) p time fields

verdict_ahead : (ahead lacking : Bool) (p : PointView) (time : ℤ) → IsTrue ahead
    → verdict_by ahead lacking p time ≡ refused (codes "AheadOfClock")
verdict_ahead true lacking p time e = refl
verdict_ahead false lacking p time e = absurd cc

module _ (p : PointView) (samples : List Sample) (are : samples_of p ≡ samples) where
  puts_first : (k : KeeperState) (time : ℤ) (count : ℕ)
      → with_puts k p time (take count p.fields) ≡ with_samples k time (take count samples)
  puts_first k time count =
      puts_samples k p time (take count p.fields)
      ∙ ap (with_samples k time) (take-view (λ (field : List ℕ × ℤ). (key_text p field.0, field.1)) count p.fields
      ∙ ap (λ (ss : List Sample). take count ss) are)

  puts_all : (k : KeeperState) (time : ℤ) → with_puts k p time p.fields ≡ with_samples k time samples
  puts_all k time = puts_samples k p time p.fields ∙ ap (with_samples k time) are

  as_many : length p.fields ≡ length samples
  as_many = sym (length-map p.fields (λ (field : List ℕ × ℤ). (key_text p field.0, field.1))) ∙ ap length are

  module _ {X : Type 0} (lead : Option ℕ) (now : ℤ) (k new : KeeperState) (time : Option ℤ) (when : p.time ≡ time) where
    -- what is told of the samples is told of their point
    tells_point : (result : Result X WriteFault) → Tells (is_ahead time now lead)
        (lacks_numbers (own_replica k) (length samples)) result
        → Tells (is_ahead p.time now lead) (lacks_numbers (own_replica k) (length samples)) result
    tells_point result tells = subst (λ (t : Option ℤ). Tells (is_ahead t now lead)
        (lacks_numbers (own_replica k) (length samples)) result) (sym when) tells

    -- samples that are put
    pub takes_put : (x : X) (count : ℕ) → count ≡ length samples
        → Tells (is_ahead time now lead) (lacks_numbers (own_replica k) (length samples)) (Ok x)
        → new ≡ with_samples k (unwrap_or time now) samples
        → Handled (verdict_of_point lead now (own_replica k) p) k new (Ok (says.Put count))
    takes_put x count counted tells is =
        let verdict = verdict_put_of lead now (own_replica k) p (length samples) (Ok x) as_many
        (tells_point (Ok x) tells) (λ e. cc) (λ e. cc) in
        let put_at = is ∙ ap (λ (t : Option ℤ). with_samples k (unwrap_or t now) samples) (sym when)
        ∙ sym (puts_all k (unwrap_or p.time now)) in
        subst (λ (v : Verdict). (new ≡ keeper_with k v) × IsAnswer v (says.Put count)) (sym verdict)
        (put_at, counted ∙ sym as_many)

    -- the first of them, where memory ran out
    pub takes_first : (count : ℕ) (e : AllocError)
        → Tells {X = X} (is_ahead time now lead) (lacks_numbers (own_replica k) (length samples))
        (Err (why.Memory count))
        → new ≡ with_samples k (unwrap_or time now) (take count samples)
        → Handled (verdict_of_point lead now (own_replica k) p) k new (Err e)
    takes_first count e tells is =
        let verdict = verdict_put_of {X = X} lead now (own_replica k) p (length samples) (Err (why.Memory count))
        as_many (tells_point _ tells) (λ e. cc) (λ e. cc) in
        let put_at = is ∙ ap (λ (t : Option ℤ). with_samples k (unwrap_or t now) (take count samples)) (sym when)
        ∙ sym (puts_first k (unwrap_or p.time now) count) in
        subst (λ (v : Verdict). (n : ℕ) × (new ≡ keeper_with_some k v n)) (sym verdict) (count, put_at)

    -- samples that are refused
    pub takes_spent : (text : Bor (List ℕ)) → text.now ≡ codes "NumbersSpent"
        → Tells {X = X} (is_ahead time now lead) (lacks_numbers (own_replica k) (length samples)) (Err why.NumbersSpent)
        → new ≡ k → Handled (verdict_of_point lead now (own_replica k) p) k new (Ok (says.Refused text))
    takes_spent text named tells same =
        let verdict = verdict_spent_of {X = X} lead now (own_replica k) p (length samples) _ as_many
        (tells_point _ tells) refl in
        subst (λ (v : Verdict). (new ≡ keeper_with k v) × IsAnswer v (says.Refused text)) (sym verdict) (same, named)

    pub takes_ahead : (text : Bor (List ℕ)) → text.now ≡ codes "AheadOfClock"
        → Tells {X = X} (is_ahead time now lead) (lacks_numbers (own_replica k) (length samples)) (Err why.AheadOfClock)
        → new ≡ k → Handled (verdict_of_point lead now (own_replica k) p) k new (Ok (says.Refused text))
    takes_ahead text named tells same =
        let reported = tells_point (Err why.AheadOfClock) tells in
        let verdict = verdict_ahead (is_ahead p.time now lead) (lacks_numbers (own_replica k) (length p.fields)) p
        (unwrap_or p.time now) (reported.is_ahead.0 refl) in
        subst (λ (v : Verdict). (new ≡ keeper_with k v) × IsAnswer v (says.Refused text)) (sym verdict) (same, named)

-- none of a verdict's operations, as where memory ran out before the first
pub none_of : (k : KeeperState) (v : Verdict) → keeper_with_some k v 0 ≡ k
none_of k skipped = refl
none_of k (put p time) = refl
none_of k (refused name) = refl
