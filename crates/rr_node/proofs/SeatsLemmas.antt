-- Visits that are served one after the other.
use Rattle.std.proofs.Common.{◌≡◌, ℕ, zero, suc, ◌+◌, ◌<◌, false, List, [], ◌∷◌, ◌++◌, Option, Result, Ok, Err, refl, sym, ap, subst, ◌∙◌, append_assoc, add-one, inr}
use Rattle.std.proofs.lemmas.List.{append-nil}
use Rattle.std.specs.Prelude.{IfErr}
use Rattle.rr_node.specs.declared.fault.NodeFault.{NodeFault}
use Rattle.rr_node.specs.declared.fault.NodeFault.TheVariants.{Memory, Session}
use Rattle.rr_node.specs.Fault.{IsOfReader}
use Rattle.rr_node.specs.Fetches.{ReaderAndGate, IsServed}
use Rattle.rr_node.specs.Seats.{AreVisits, HasServedSeat, HasVisited, IsStreamServed, IsVisit, reported_of_schema}
use Rattle.rr_node.proofs.BlameLemmas.{LinesTell, SessionTells, blamed}
use Rattle.rr_host.proofs.VisitsLemmas.{called_more}
use Rattle.rr_host.specs.Streams.{Stream}
use Rattle.rr_host.specs.Visits.{Call, Gave, HasCalled, TookBack}

-- a connection that was given and handed back
pub stream_served : (result : Result (Unit {0}) NodeFault) (a b c d : Option (List Call)) (before after : Stream)
    (old new : ReaderAndGate)
    → HasCalled a b (Gave before ∷ []) → HasCalled b c (reported_of_schema result) → HasCalled c d (TookBack after ∷ [])
    → IsServed result before.input.left after.input.left before.output.written after.output.written old new
    → IfErr result IsOfReader → LinesTell result before after → SessionTells result Session before after
    → (calls : List Call) × HasCalled a d calls × IsStreamServed result calls old new
stream_served result a b c d before after old new gave reported took served faults lines given = (
  Gave before ∷ (reported_of_schema result ++ TookBack after ∷ []),
  called_more a b d (Gave before ∷ []) (reported_of_schema result ++ TookBack after ∷ []) gave
      (called_more b c d (reported_of_schema result) (TookBack after ∷ []) reported took),
  record {
    before = before;
    after = after;
    made = refl;
    served = served;
    faults = faults;
    blamed =
        blamed result before after lines given;
  },
)

-- memory ran out in it
pub served_out : (result : Result (Unit {0}) NodeFault) (calls : List Call) (old new : ReaderAndGate)
    → result ≡ Err Memory → IsStreamServed result calls old new → IsStreamServed (Err Memory) calls old new
served_out result calls old new out served = subst (λ (r : Result (Unit {0}) NodeFault). IsStreamServed r calls old new)
    out served

-- one visit more
visits_suc : (n : ℕ) (xs ys : List Call) (a b c : ReaderAndGate) → AreVisits n xs a b → IsVisit ys b c
    → AreVisits (suc n) (xs ++ ys) a c
visits_suc zero xs ys a b c visits last = (
  c,
  ys,
  [],
  subst (λ (s : ReaderAndGate). IsVisit ys s c) visits.1 last,
  (refl, refl),
  ap (λ (l : List Call). l ++ ys) visits.0 ∙ sym (append-nil ys),
)
visits_suc (suc n) xs ys a b c (mid, first, later, one, others, e) last = (
  mid,
  first,
  later ++ ys,
  one,
  visits_suc n later ys mid b c others last,
  ap (λ (l : List Call). l ++ ys) e
      ∙ append_assoc first later ys,
)

pub visits_more : (n : ℕ) (xs ys : List Call) (a b c : ReaderAndGate) → AreVisits n xs a b → IsVisit ys b c
    → AreVisits (n + 1) (xs ++ ys) a c
visits_more n xs ys a b c visits last = rw add-one (visits_suc n xs ys a b c visits last)

-- none will come any more
pub seat_over : (most n : ℕ) (xs ys : List Call) (a b c : ReaderAndGate) → n < most → AreVisits n xs a b
    → HasVisited (Ok false) ys b c → HasServedSeat most (Ok tt) (xs ++ ys) a c
seat_over most n xs ys a b c few visits over =
    inr (
      n,
      few,
      xs,
      subst (λ (s : ReaderAndGate). AreVisits n xs a s) (sym over.1) visits,
      ap (λ (l : List Call). xs ++ l) over.0,
    )

-- memory ran out
pub seat_out : (most n : ℕ) (xs ys : List Call) (a b c : ReaderAndGate) (fault : NodeFault) → n < most
    → AreVisits n xs a b → HasVisited (Err fault) ys b c → HasServedSeat most (Err fault) (xs ++ ys) a c
seat_out most n xs ys a b c fault few visits out = (out.0, n, few, xs, ys, b, visits, out.1, refl)
