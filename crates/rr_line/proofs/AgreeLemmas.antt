-- When a reading agrees with a relation between texts and what they say, or why they are refused: from its steps.
use Rattle.std.proofs.Common.{◌≡◌, Bool, true, false, Option, Some, None, Result, Ok, Err, refl, sym, inl, inr, subst}
use Rattle.std.specs.Prelude.{◌⊎◌, ok_or}
use Rattle.rr_text.specs.Results.{◌>>=◌, unless}
use Rattle.rr_line.specs.declared.fault.LineFault.{LineFault}

-- a reading that is good
abbrev pub just_read : {A : Type 0} → A → Result A LineFault
just_read x = Ok x

-- a reading that is refused
abbrev pub just_refused : {A : Type 0} → LineFault → Result A LineFault
just_refused fault = Err fault

-- what holds of an answer
abbrev pub Holds : {A : Type 0} → (A → Type 0) → (LineFault → Type 0) → Result A LineFault → Type 0
Holds Good Bad (Ok x) = Good x
Holds Good Bad (Err fault) = Bad fault

-- the answer is in the relation, and what is in the relation is the answer
pub record Agrees {A : Type 0} (read : Result A LineFault) (Good : A → Type 0) (Bad : LineFault → Type 0) : Type 0 where
  pub holds : Holds Good Bad read
  pub good : (x : A) → Good x → read ≡ Ok x
  pub bad : (fault : LineFault) → Bad fault → read ≡ Err fault

-- a step and the one after it
pub Agrees-bind : {A B : Type 0} (step : Result A LineFault) (next : A → Result B LineFault) (Good : A → Type 0)
    (Bad : LineFault → Type 0) (Then : A → B → Type 0) (Fails : A → LineFault → Type 0)
    → Agrees step Good Bad → ((x : A) → Good x → Agrees (next x) (Then x) (Fails x))
    → Agrees (step >>= next) (λ y. (x : A) × Good x × Then x y)
    (λ fault. Bad fault ⊎ ((x : A) × Good x × Fails x fault))
Agrees-bind {A} {B} (Ok x) next Good Bad Then Fails first second =
    let later = second x first.holds in
    let is : (y : A) → Good y → x ≡ y = λ y g. let e = first.good y g in cc in
    record {
      holds = at (next x) later.holds;
      good = λ y h. subst (λ (z : A). next z ≡ Ok y) (sym (is h.0 h.1)) ((second h.0 h.1).good y h.2);
      bad = λ fault h. elim h [
        | inl b ↦ absurd (let e = first.bad fault b in cc)
        | inr h ↦ subst (λ (z : A). next z ≡ Err fault) (sym (is h.0 h.1)) ((second h.0 h.1).bad fault h.2)
      ];
    }
  where
    at : (r : Result B LineFault) → Holds (Then x) (Fails x) r
        → Holds (λ y. (x : A) × Good x × Then x y) (λ fault. Bad fault ⊎ ((x : A) × Good x × Fails x fault)) r
    at (Ok y) h = (x, first.holds, h)
    at (Err fault) h = inr (x, first.holds, h)
Agrees-bind (Err fault) next Good Bad Then Fails first second = record {
  holds = inl first.holds;
  good = λ y h. absurd (let e = first.good h.0 h.1 in cc);
  bad = λ other h. elim h [
    | inl b ↦ let e = first.bad other b in cc
    | inr h ↦ absurd (let e = first.good h.0 h.1 in cc)
  ];
}

-- the same relation in other words
pub Agrees-as : {A : Type 0} (read : Result A LineFault) (Good Other : A → Type 0) (Bad Fails : LineFault → Type 0)
    → ((x : A) → Good x → Other x) → ((x : A) → Other x → Good x) → ((fault : LineFault) → Bad fault → Fails fault)
    → ((fault : LineFault) → Fails fault → Bad fault)
    → Agrees read Good Bad → Agrees read Other Fails
Agrees-as {A} read Good Other Bad Fails to from bad_to bad_from h = record {
  holds = at read h.holds;
  good = λ x o. h.good x (from x o);
  bad = λ fault f. h.bad fault (bad_from fault f);
}
  where
    at : (r : Result A LineFault) → Holds Good Bad r → Holds Other Fails r
    at (Ok x) h = to x h
    at (Err fault) h = bad_to fault h

-- a test before a step
pub Agrees-unless : {A : Type 0} (fault : LineFault) (refused : Bool) (step : Result A LineFault) (Good : A → Type 0)
    (Bad : LineFault → Type 0)
    → (refused ≡ false → Agrees step Good Bad)
    → Agrees (unless fault refused step) (λ x. (refused ≡ false) × Good x)
    (λ other. ((refused ≡ true) × (other ≡ fault)) ⊎ ((refused ≡ false) × Bad other))
Agrees-unless fault true step Good Bad h = record {
  holds = inl (refl, refl);
  good = λ x g. absurd (let e = g.0 in cc);
  bad = λ other b. elim b [ inl is ↦ let e = is.1 in cc | inr is ↦ absurd (let e = is.0 in cc) ];
}
Agrees-unless {A} fault false step Good Bad h = record {
  holds = at step (h refl).holds;
  good = λ x g. (h refl).good x g.1;
  bad = λ other b. elim b [ inl is ↦ absurd (let e = is.0 in cc) | inr is ↦ (h refl).bad other is.1 ];
}
  where
    at : (r : Result A LineFault) → Holds Good Bad r
        → Holds (λ x. (false ≡ false) × Good x) (λ other. ((false ≡ true) × (other ≡ fault))
        ⊎ ((false ≡ false) × Bad other)) r
    at (Ok x) h = (refl, h)
    at (Err fault) h = inr (refl, h)

-- what is there, or a fault
pub Agrees-ok_or : {A : Type 0} (o : Option A) (fault : LineFault)
    → Agrees (ok_or o fault) (λ x. o ≡ Some x) (λ other. (o ≡ None) × (other ≡ fault))
Agrees-ok_or (Some x) fault = record {
  holds = refl;
  good = λ y e. cc;
  bad = λ other h. absurd (let e = h.0 in cc);
}
Agrees-ok_or None fault = record {
  holds = (refl, refl);
  good = λ y e. absurd cc;
  bad = λ other h. let e = h.1 in cc;
}

pub Agrees-ok : {A : Type 0} (x : A) → Agrees {A = A} (Ok x) (λ y. x ≡ y) (λ fault. ⊥)
Agrees-ok x = record { holds = refl; good = λ y e. cc; bad = λ fault h. absurd h }

pub Agrees-err : {A : Type 0} (fault : LineFault) → Agrees {A = A} (Err fault) (λ x. ⊥) (λ other. other ≡ fault)
Agrees-err fault = record { holds = refl; good = λ x h. absurd h; bad = λ other e. cc }

pub Agrees-self : {A : Type 0} (read : Result A LineFault) → Agrees read (λ x. read ≡ Ok x) (λ fault. read ≡ Err fault)
Agrees-self (Ok x) = record { holds = refl; good = λ y e. e; bad = λ fault e. e }
Agrees-self (Err fault) = record { holds = refl; good = λ y e. e; bad = λ other e. e }
