-- What a keeper answers to a point tells its verdict.
use Rattle.std.proofs.Common.{◌≡◌, ℕ, ℤ, Bool, true, false, length, Option, Result, Ok, Err, refl, sym, ap, ◌∙◌, arith}
use Rattle.std.specs.Prelude.{◌↔◌, codes, IsTrue, IsFalse, unwrap_or}
use Rattle.std.proofs.lemmas.List.{take_all}
use Rattle.rr_feed.specs.Items.{Item, Line, TooLong}
use Rattle.rr_line.specs.declared.fault.LineFault.{LineFault}
use Rattle.rr_point.specs.Point.{PointView}
use Rattle.rr_line.specs.Line.{LineView, nothing, point}
use Rattle.rr_line.specs.Reading.{reading}
use Rattle.rr_replica.specs.declared.fault.WriteFault.{WriteFault}
use Rattle.rr_replica.specs.declared.fault.WriteFault.TheVariants as why
use Rattle.rr_cells.specs.ReplicaState.{ReplicaState}
use Rattle.rr_replica.specs.Writing.{is_ahead, lacks_numbers}
use Rattle.rr_desk.specs.Points.{with_puts}
use Rattle.rr_desk.specs.KeeperState.{KeeperState}
use Rattle.rr_node.specs.declared.rules.Rules.{Rules}
use Rattle.rr_node.specs.Lines.{Verdict, skipped, put, refused, verdict_by, verdict_of_point, verdict_of_line, verdict_of, is_point, asks_clock, keeper_with, keeper_with_some}

-- when each of the two refusals of a point comes
pub record Tells {X : Type 0} (ahead lacking : Bool) (result : Result X WriteFault) : Type 0 where
  pub is_ahead : (result ≡ Err why.AheadOfClock) ↔ IsTrue ahead
  pub lacks : (result ≡ Err why.NumbersSpent) ↔ (IsFalse ahead × IsTrue lacking)

-- what isn't refused is put
pub verdict_put : {X : Type 0} (ahead lacking : Bool) (p : PointView) (time : ℤ) (result : Result X WriteFault)
    → Tells ahead lacking result
    → (result ≡ Err why.AheadOfClock → ⊥) → (result ≡ Err why.NumbersSpent → ⊥)
    → verdict_by ahead lacking p time ≡ put p time
verdict_put true lacking p time result tells now_ahead spent = absurd (now_ahead (tells.is_ahead.1 refl))
verdict_put false true p time result tells now_ahead spent = absurd (spent (tells.lacks.1 (refl, refl)))
verdict_put false false p time result tells now_ahead spent = refl

-- where a point has this many fields
pub verdict_put_of : {X : Type 0} (lead : Option ℕ) (now : ℤ) (h : ReplicaState) (p : PointView) (n : ℕ)
    (result : Result X WriteFault) → length p.fields ≡ n
    → Tells (is_ahead p.time now lead) (lacks_numbers h n) result
    → (result ≡ Err why.AheadOfClock → ⊥) → (result ≡ Err why.NumbersSpent → ⊥)
    → verdict_of_point lead now h p ≡ put p (unwrap_or p.time now)
verdict_put_of lead now h p n result same tells now_ahead spent =
    ap (λ (k : ℕ). verdict_by (is_ahead p.time now lead) (lacks_numbers h k) p (unwrap_or p.time now)) same
    ∙ verdict_put (is_ahead p.time now lead) (lacks_numbers h n) p (unwrap_or p.time now) result tells now_ahead spent

verdict_spent : (ahead lacking : Bool) (p : PointView) (time : ℤ) → IsFalse ahead → IsTrue lacking
    → verdict_by ahead lacking p time ≡ refused (codes "NumbersSpent")
verdict_spent true lacking p time e full = absurd cc
verdict_spent false true p time e full = refl
verdict_spent false false p time e full = absurd cc

pub verdict_spent_of : {X : Type 0} (lead : Option ℕ) (now : ℤ) (h : ReplicaState) (p : PointView) (n : ℕ)
    (result : Result X WriteFault) → length p.fields ≡ n
    → Tells (is_ahead p.time now lead) (lacks_numbers h n) result → result ≡ Err why.NumbersSpent
    → verdict_of_point lead now h p ≡ refused (codes "NumbersSpent")
verdict_spent_of lead now h p n result same tells is =
    let both = tells.lacks.0 is in
    ap (λ (k : ℕ). verdict_by (is_ahead p.time now lead) (lacks_numbers h k) p (unwrap_or p.time now)) same
    ∙ verdict_spent (is_ahead p.time now lead) (lacks_numbers h n) p (unwrap_or p.time now) both.0 both.1

-- all operations of a verdict are some of them
abbrev pub count_in : Verdict → ℕ
count_in skipped = 0
count_in (put p time) = length p.fields
count_in (refused name) = 0

pub keeper_with_all : (k : KeeperState) (v : Verdict) → keeper_with k v ≡ keeper_with_some k v (count_in v)
keeper_with_all k skipped = refl
keeper_with_all k (put p time) = ap (with_puts k p time) (sym (take_all (length p.fields) p.fields (omega arith)))
keeper_with_all k (refused name) = refl

-- what isn't a point means the same at each moment
unasked_line : (lead : Option ℕ) (a b : ℤ) (h : ReplicaState) (parsed : Result LineView LineFault)
    → is_point parsed ≡ false
    → verdict_of_line lead a h parsed ≡ verdict_of_line lead b h parsed
unasked_line lead a b h (Ok nothing) e = refl
unasked_line lead a b h (Ok (point p)) e = absurd cc
unasked_line lead a b h (Err fault) e = refl

pub verdict_unasked : (rules : Rules) (a b : ℤ) (h : ReplicaState) (item : Item) → asks_clock rules item ≡ false
    → verdict_of rules a h item ≡ verdict_of rules b h item
verdict_unasked rules a b h (Line bytes) e = unasked_line rules.lead a b h (reading rules.precision bytes) e
verdict_unasked rules a b h TooLong e = refl
