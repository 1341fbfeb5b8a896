-- What was read is a prefix of what a reader had.
use Rattle.std.proofs.Common.{◌≡◌, ◌+◌, ◌≤◌, List, [], ◌++◌, ℕ, Option, Result, Err, ap, arith, inl, inr}
use Rattle.std.proofs.lemmas.List.{length-append}
use Rattle.std.proofs.KnownBytes.{Consumes-nil, Consumes-trans}
use Rattle.rr_io.specs.declared.counted.Counted.{Counted}
use Rattle.rr_io.specs.Counted.{inner_of, HasRisen}
use Rattle.rr_io.specs.Stream.{ConsumesSome, TakesAtMost}
use Rattle.rr_snapshot.specs.declared.fault.LoadFault.{LoadFault}
use Rattle.rr_snapshot.specs.declared.fault.LoadFault.TheVariants.{ReadFailed}
use Rattle.rr_snapshot.specs.Stream.{LoadsFrom}

pub none_read : (a : Option (List ℕ)) → ConsumesSome a a
none_read a = ([], Consumes-nil a)

pub read_then : (a b c : Option (List ℕ)) → ConsumesSome a b → ConsumesSome b c → ConsumesSome a c
read_then a b c p q = (p.0 ++ q.0, Consumes-trans a b c p.0 q.0 p.1 q.1)

-- at most so many bytes, and then so many more
pub took_more : (n k most : ℕ) (a b c : Option (List ℕ)) → TakesAtMost n a b → TakesAtMost k b c → n + k ≤ most
    → TakesAtMost most a c
took_more n k most a b c p q le = (
  p.0 ++ q.0,
  omega (arith, length-append p.0 q.0, p.1, q.1, le),
  Consumes-trans a b c p.0 q.0 p.2 q.2,
)

risen : (old mid new : ℕ) → old ≤ mid → HasRisen mid new → HasRisen old new
risen old mid new le (inl more) = inl (omega (arith, le, more))
risen old mid new le (inr full) = inr full

module _ {R X Y Z : Type 0} (remaining : R → Option (List ℕ)) (old mid new : Counted R) where
  -- a call after another, the fault of whose reader is the only one that may be taken for that of both
  pub loads_then : (first : Result X LoadFault) (second : Result Y LoadFault) (both : Result Z LoadFault)
      → LoadsFrom remaining old mid first → LoadsFrom remaining mid new second
      → (both ≡ Err ReadFailed → second ≡ Err ReadFailed) → LoadsFrom remaining old new both
  loads_then first second both p q blames = record {
    prefix = read_then (remaining (inner_of old)) (remaining (inner_of mid)) (remaining (inner_of new)) p.prefix
        q.prefix;
    failures_never_fall = omega (arith, p.failures_never_fall, q.failures_never_fall);
    failed = λ e. risen old.failures mid.failures new.failures p.failures_never_fall (q.failed (blames e));
  }

  -- the second call was refused
  pub loads_then_refused : (first : Result X LoadFault) (fault : LoadFault) → LoadsFrom remaining old mid first
      → LoadsFrom {X = Y} remaining mid new (Err fault) → LoadsFrom {X = Z} remaining old new (Err fault)
  loads_then_refused first fault p q =
      loads_then first (Err fault) (Err fault) p q (λ e. ap (λ (f : LoadFault). Err f) (cc e))
