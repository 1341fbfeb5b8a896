-- How a point changes a replica.
use Rattle.std.specs.Prelude.{◌≡◌, ℕ, ◌+◌, ◌-◌, ◌<◌, ◌≤◌, ◌↔◌, ℤ, pos, ◌+ℤ◌, Bool, false, int_lt, nat_lt, List, [], ◌∷◌, take, drop, Option, None, Some, Result, Err, IfOk, IfErr, OnOk, IsTrue, IsFalse, unwrap_or}
use Rattle.rr_text.specs.declared.limits.TheConstants.{MAX_FIELDS, MAX_NUMBER}
use Rattle.rr_point.specs.Key.{HasKeys, key_text}
use Rattle.rr_point.specs.Point.{PointView}
use Rattle.rr_replica.specs.declared.fault.WriteFault.{WriteFault}
use Rattle.rr_replica.specs.declared.fault.WriteFault.TheVariants as why
use Rattle.rr_cells.specs.ReplicaState.{ReplicaState, with_put}

-- a state with a sample of each of these fields put, in order; `put` says how one sample changes a state
abbrev pub all_put : {S : Type 0} → (S → List ℕ → ℤ → ℤ → S) → S → PointView → ℤ → List (List ℕ × ℤ) → S
all_put put s p time [] = s
all_put put s p time (field ∷ fields) = all_put put (put s (key_text p field.0) time field.1) p time fields

-- a replica with a sample of each of these fields put, in order
abbrev pub with_fields : ReplicaState → PointView → ℤ → List (List ℕ × ℤ) → ReplicaState
with_fields = all_put with_put

-- putting the first of some fields and then the rest is the same as putting them all
abbrev pub WritingGoesOn : Type 0
WritingGoesOn =
    (h : ReplicaState) (p : PointView) (time : ℤ) (fields : List (List ℕ × ℤ)) (n : ℕ)
    → with_fields (with_fields h p time (take n fields)) p time (drop n fields) ≡ with_fields h p time fields

-- whether a point's own time is later than the clock's by more than the lead
abbrev pub is_ahead : Option ℤ → ℤ → Option ℕ → Bool
is_ahead None now lead = false
is_ahead (Some time) now None = false
is_ahead (Some time) now (Some lead) = int_lt (now +ℤ pos lead) time

-- whether fewer numbers are left than this many
abbrev pub lacks_numbers : ReplicaState → ℕ → Bool
lacks_numbers h count = nat_lt (MAX_NUMBER + 1 - h.next) count

-- how many fields were put before a point was refused
abbrev pub put_before : WriteFault → ℕ
put_before why.AheadOfClock = 0
put_before why.NumbersSpent = 0
put_before (why.Memory put) = put

-- what a refused write leaves: the first fields put if memory ran out, or else the same state
abbrev pub IsAfterRefusal : {S : Type 0} → (S → List ℕ → ℤ → ℤ → S) → S → S → PointView → ℤ → WriteFault → Type 0
IsAfterRefusal put old new p time fault = new ≡ all_put put old p time (take (put_before fault) p.fields)

-- this many fields were put, or they were refused: then this is left, and if memory ran out, fewer were put
pub record PutsFields {S : Type 0} (many : ℕ) (after new : S) (IsLeft : WriteFault → Type 0)
    (result : Result ℕ WriteFault) : Type 0 where
  pub count : IfOk result (λ given. given ≡ many)
  pub put : OnOk result (new ≡ after)
  pub refused : IfErr result IsLeft
  pub fields_left : (n : ℕ) → result ≡ Err (why.Memory n) → n < many

-- this many fields were put, or they were refused: as `AheadOfClock` exactly if their time is late, or else as
-- `NumbersSpent` exactly if too few numbers are left
pub record WritesFields {S : Type 0} (is_late lacks : Bool) (many : ℕ) (after new : S) (IsLeft : WriteFault → Type 0)
    (result : Result ℕ WriteFault) : Type 0 where
  pub count : IfOk result (λ given. given ≡ many)
  pub put : OnOk result (new ≡ after)
  pub ahead : (result ≡ Err why.AheadOfClock) ↔ IsTrue is_late
  pub spent : (result ≡ Err why.NumbersSpent) ↔ (IsFalse is_late × IsTrue lacks)
  pub refused : IfErr result IsLeft
  pub fields_left : (n : ℕ) → result ≡ Err (why.Memory n) → n < many

-- what writing a point does to a state and what it answers: `put` says what one sample does to the state, and `replica`
-- which replica the state stands for
abbrev pub WritesPoint : {S : Type 0} → (S → ReplicaState) → (S → List ℕ → ℤ → ℤ → S) → S → S → PointView → ℕ → ℤ
    → Option ℕ → Result ℕ WriteFault → Type 0
WritesPoint replica put old new p many now lead result =
    WritesFields (is_ahead p.time now lead) (lacks_numbers (replica old) many) many
    (all_put put old p (unwrap_or p.time now) p.fields) new
    (IsAfterRefusal put old new p (unwrap_or p.time now)) result

-- the fields of a point have keys, and aren't too many
pub record CanPutFields (p : PointView) (many : ℕ) : Type 0 where
  pub keyed : HasKeys p
  pub few_fields : many ≤ MAX_FIELDS
