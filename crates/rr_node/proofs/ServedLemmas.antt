-- Connections of a reader that are served.
use Rattle.std.proofs.Common.{◌≡◌, ◌⊎◌, ℕ, true, false, List, [], ◌∷◌, Option, Some, None, Result, Ok, Err, refl, subst, inl, inr}
use Rattle.std.specs.Prelude.{IfErr, IfSome, OnErr, OnOk}
use Rattle.std.specs.Io.KnownBytes.{Consumes}
use Rattle.std.proofs.KnownBytes.{Appends-nil}
use Rattle.rr_desk.specs.ReaderState.{cells_seen}
use Rattle.rr_node.specs.declared.fault.NodeFault.{NodeFault}
use Rattle.rr_node.specs.declared.fault.NodeFault.TheVariants.{ReadFailed, TooManyReads}
use Rattle.rr_node.specs.Fault.{IsOfLines}
use Rattle.rr_node.specs.Fetches.{ReaderAndGate, HasAnsweredSome, HasAnsweredTaken, HasNotGiven, IsServed, is_pull}
use Rattle.rr_node.proofs.FetchesLemmas.{seen_same}
use Rattle.rr_node.proofs.ServingLemmas.{none_answered, of_each}

-- ---- by the result and what is known of the input

err_known : {X : Type 0} (result : Result X NodeFault) (had : Option (List ℕ)) (P : List ℕ → Type 0)
    → ((fault : NodeFault) (bytes : List ℕ) → result ≡ Err fault → had ≡ Some bytes → P bytes)
    → OnErr result (IfSome had P)
err_known (Ok x) had P each = tt
err_known (Err fault) None P each = tt
err_known (Err fault) (Some bytes) P each = each fault bytes refl refl

fault_known : {X : Type 0} (result : Result X NodeFault) (had : Option (List ℕ)) (P : NodeFault → List ℕ → Type 0)
    → ((fault : NodeFault) (bytes : List ℕ) → result ≡ Err fault → had ≡ Some bytes → P fault bytes)
    → IfErr result (λ fault. IfSome had (P fault))
fault_known (Ok x) had P each = tt
fault_known (Err fault) None P each = tt
fault_known (Err fault) (Some bytes) P each = each fault bytes refl refl

at_ok : {X : Type 0} (result : Result X NodeFault) (P : Type 0) (x : X) → OnOk result P → result ≡ Ok x → P
at_ok result P x holds e = subst (λ r. OnOk r P) e holds

-- the bytes after the first
rest_of : (had mid : Option (List ℕ)) (bytes : List ℕ) (first : ℕ) → Consumes had mid (first ∷ []) → had ≡ Some bytes
    → (rest : List ℕ) × (mid ≡ Some rest) × (bytes ≡ first ∷ rest)
rest_of None mid bytes first consumed e = absurd cc
rest_of (Some xs) None bytes first consumed e = absurd consumed
rest_of (Some xs) (Some rest) bytes first consumed e = (rest, refl, cc)

-- ---- the ways in which a connection is served

of_first : (fault : NodeFault) → (fault ≡ ReadFailed) ⊎ (fault ≡ TooManyReads) → IsOfLines fault
of_first fault (inl e) = inl e
of_first fault (inr e) = inr (inr (inl e))

-- the first byte was not read
pub served_unread : {X : Type 0} (fault : NodeFault) (had left out : Option (List ℕ)) (at : ReaderAndGate)
    → Consumes had left [] → (fault ≡ ReadFailed) ⊎ (fault ≡ TooManyReads)
    → IsServed {X = X} (Err fault) had left out out at at
served_unread {X} fault had left out at unread why = record {
  seen = seen_same at.reader;
  answered = tt;
  prefix = err_known {X = X} (Err fault) had (λ bytes. is_pull bytes ≡ false
      → HasAnsweredSome bytes at at.reader out out) (λ f bytes e is pull. none_answered bytes at out);
  at_once = λ reading. of_each had (λ bytes. is_pull bytes ≡ false → HasAnsweredTaken [] had left at at out out)
      (λ bytes pull. ([], unread, record { text = []; answered = (refl, refl); written = Appends-nil out }));
  faults = fault_known {X = X} (Err fault) had (λ f bytes. is_pull bytes ≡ false → IsOfLines f)
      (λ f bytes e is pull. let same : fault ≡ f = cc in subst IsOfLines same (of_first fault why));
  given = tt;
  stopped = fault_known {X = X} (Err fault) had (λ f bytes. is_pull bytes ≡ true
      → HasNotGiven f at.reader.schema (cells_seen at.reader) bytes left out out)
      (λ f bytes e is pull. let same : fault ≡ f = cc in
      inl (subst (λ (n : NodeFault). (n ≡ ReadFailed) ⊎ (n ≡ TooManyReads)) same why, refl));
}
