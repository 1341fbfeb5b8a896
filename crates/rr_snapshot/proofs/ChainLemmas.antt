-- One reading of a stream after another, and what it ends with.
use Rattle.std.proofs.Common.{◌≡◌, ℕ, ◌≤◌, Bool, false, List, [], ◌++◌, length, Option, None, Some, IfSome, Result, Ok, Err, refl, sym, ap, subst, ◌∙◌, arith, inl, inr, append_assoc}
use Rattle.std.specs.Prelude.{not, ◌==◌}
use Rattle.std.specs.Io.KnownBytes.{Consumes, IsAtEnd}
use Rattle.std.proofs.KnownBytes.{Consumes-trans}
use Rattle.std.proofs.lemmas.Bool.{ne_eqb}
use Rattle.std.proofs.lemmas.List.{nil_from_length, length-append}
use Rattle.sha2.specs.Hashers.{Holds256}
use Rattle.sha2.specs.declared.Sha256.{Sha256}
use Rattle.rr_text.specs.Results.{◌>>=◌, unless}
use Rattle.rr_snapshot.specs.declared.fault.LoadFault.{LoadFault}
use Rattle.rr_snapshot.specs.declared.fault.LoadFault.TheVariants.{TrailingBytes}
use Rattle.rr_snapshot.specs.SnapshotReading.{end_at}
use Rattle.rr_snapshot.specs.Stream.{StreamGives, Digests}

-- a stream gave a value, and has what follows it
abbrev pub Gave : {A : Type 0} → A → Option (List ℕ) → Option (List ℕ) → (List ℕ → Result (A × List ℕ) LoadFault)
    → Type 0
Gave a old new read = IfSome old (λ all. (rest : List ℕ) × (new ≡ Some rest) × (read all ≡ Ok (a, rest)))

pub passes : {A : Type 0} (a : A) (new : Option (List ℕ)) (read : List ℕ → Result (A × List ℕ) LoadFault)
    → ((all : List ℕ) → read all ≡ Ok (a, all)) → Gave a new new read
passes a None read is = tt
passes a (Some all) read is = (all, refl, is all)

pub refuses : {A : Type 0} (fault : LoadFault) (new : Option (List ℕ)) (read : List ℕ → Result (A × List ℕ) LoadFault)
    → ((all : List ℕ) → read all ≡ Err fault) → IfSome new (λ all. read all ≡ Err fault)
refuses fault None read is = tt
refuses fault (Some all) read is = is all

module _ {A Y : Type 0} (r : List ℕ → Result (A × List ℕ) LoadFault)
    (f : A × List ℕ → Result (Y × List ℕ) LoadFault) where
  pub then_gave : (a : A) (y : Y) (old mid new : Option (List ℕ)) → Gave a old mid r
      → Gave y mid new (λ all. f (a, all)) → Gave y old new (λ all. r all >>= f)
  then_gave a y None mid new first second = tt
  then_gave a y (Some all) mid new first second =
      let next = subst (λ (o : Option (List ℕ)). IfSome o
      (λ all. (rest : List ℕ) × (new ≡ Some rest) × (f (a, all) ≡ Ok (y, rest)))) first.1 second in
      (next.0, next.1, ap (λ (z : Result (A × List ℕ) LoadFault). z >>= f) first.2 ∙ next.2)

  pub then_refused : (a : A) (fault : LoadFault) (old mid : Option (List ℕ)) → Gave a old mid r
      → IfSome mid (λ all. f (a, all) ≡ Err fault) → IfSome old (λ all. (r all >>= f) ≡ Err fault)
  then_refused a fault None mid first second = tt
  then_refused a fault (Some all) mid first second =
      let next = subst (λ (o : Option (List ℕ)). IfSome o (λ all. f (a, all) ≡ Err fault)) first.1 second in
      ap (λ (z : Result (A × List ℕ) LoadFault). z >>= f) first.2 ∙ next

  pub refused_then : (fault : LoadFault) (old : Option (List ℕ)) → IfSome old (λ all. r all ≡ Err fault)
      → IfSome old (λ all. (r all >>= f) ≡ Err fault)
  refused_then fault None is = tt
  refused_then fault (Some all) is = ap (λ (z : Result (A × List ℕ) LoadFault). z >>= f) is

  -- the same of faults of which each may be a failure of the reader or of memory
  pub then_fails : {X B Z : Type 0} (view : X → Y) (inner : Z → B) (a : A) (fault : LoadFault)
      (old mid new : Option (List ℕ)) (g : List ℕ → Result (B × List ℕ) LoadFault) → Gave a old mid r
      → ((all : List ℕ) → g all ≡ Err fault → f (a, all) ≡ Err fault) → StreamGives inner (Err fault) mid new g
      → StreamGives view (Err fault) old new (λ all. r all >>= f)
  then_fails view inner a fault old mid new g first is (inl e) = inl e
  then_fails view inner a fault old mid new g first is (inr (inl e)) = inr (inl e)
  then_fails view inner a fault old mid new g first is (inr (inr e)) =
      inr (inr (then_refused a fault old mid first (each mid e)))
    where
      each : (o : Option (List ℕ)) → IfSome o (λ all. g all ≡ Err fault) → IfSome o (λ all. f (a, all) ≡ Err fault)
      each None h = tt
      each (Some all) h = is all h

  pub fails_then : {X Z : Type 0} (view : X → Y) (inner : Z → A) (fault : LoadFault) (old mid new : Option (List ℕ))
      → StreamGives inner (Err fault) old mid r → StreamGives view (Err fault) old new (λ all. r all >>= f)
  fails_then view inner fault old mid new (inl e) = inl e
  fails_then view inner fault old mid new (inr (inl e)) = inr (inl e)
  fails_then view inner fault old mid new (inr (inr e)) = inr (inr (refused_then fault old e))

pub Digests-then : (a b c : Option (List ℕ)) (h i j : Sha256) → Digests a b h i → Digests b c i j → Digests a c h j
Digests-then a b c h i j first second = (
  first.0 ++ second.0,
  Consumes-trans a b c first.0 second.0 first.1 second.1,
  λ m holds. subst (Holds256 j) (append_assoc m first.0 second.0) (second.2 (m ++ first.0) (first.2 m holds)),
)

-- ---- the end of the input

pub bytes_left : (old new : Option (List ℕ)) (bytes : List ℕ) → Consumes old new bytes → 1 ≤ length bytes
    → IfSome old (λ all. end_at all ≡ Err TrailingBytes)
unfolding end_at
bytes_left None new bytes took some = tt
bytes_left (Some all) None bytes took some = absurd took
bytes_left (Some all) (Some rest) bytes took some =
    let more : (length all == 0) ≡ false = ne_eqb (length all) 0
    (λ e. absurd (omega (arith, e, some, ap length took, length-append bytes rest))) in
    ap (λ (b : Bool). unless TrailingBytes (not b) (Ok (tt, all))) more

pub none_left_over : (old new : Option (List ℕ)) (bytes : List ℕ) → Consumes old new bytes → length bytes ≡ 0
    → IsAtEnd new → Gave {A = Unit {0}} tt old new end_at
unfolding end_at
none_left_over None new bytes took none end = tt
none_left_over (Some all) None bytes took none end = absurd took
none_left_over (Some all) (Some rest) bytes took none end =
    let nothing : all ≡ [] = took ∙ ap (λ (l : List ℕ). l ++ rest) (nil_from_length bytes none) ∙ end in
    (rest, refl, ap end_at nothing ∙ ap (λ (l : List ℕ). Ok (tt, l)) (sym end))
