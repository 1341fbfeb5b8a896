-- Results in definitions: one step after another, and when an answer of the code is that of a definition.
use Rattle.std.specs.Prelude.{◌≡◌, Bool, ◌⊎◌, Option, None, Some, Result, Ok, Err, IsOk, if◌then◌else◌}

-- the next step, if this one is not refused
infixl 10 ◌>>=◌
abbrev pub ◌>>=◌ : {A B E : Type 0} → Result A E → (A → Result B E) → Result B E
(Ok x) >>= next = next x
(Err fault) >>= next = Err fault

-- a step, unless a test refuses it
abbrev pub unless : {A E : Type 0} → E → Bool → Result A E → Result A E
unless fault refused step = if refused then Err fault else step

-- the first of two faults
abbrev pub first_fault : {E : Type 0} → Option E → Option E → Option E
first_fault None later = later
first_fault (Some fault) later = Some fault

-- a value, unless it has a fault
abbrev pub unless_faulty : {A E : Type 0} → Option E → A → Result A E
unless_faulty None value = Ok value
unless_faulty (Some fault) value = Err fault

-- a test that must hold
abbrev pub check : {E : Type 0} → Bool → E → Result (Unit {0}) E
check test fault = if test then Ok tt else Err fault

-- the result, seen through a view, is the definition's answer
abbrev pub Gives : {X Y E : Type 0} → (X → Y) → Result X E → Result Y E → Type 0
Gives view (Ok x) answer = answer ≡ Ok (view x)
Gives view (Err fault) answer = answer ≡ Err fault

-- the result, seen through a view, is the definition's answer, unless memory ran out
abbrev pub GivesUnless : {X Y E : Type 0} → E → (X → Y) → Result X E → Result Y E → Type 0
GivesUnless memory view (Ok x) answer = answer ≡ Ok (view x)
GivesUnless memory view (Err fault) answer = (fault ≡ memory) ⊎ (answer ≡ Err fault)

-- this holds of the result, seen through a view, unless memory ran out
abbrev pub AnswersUnless : {X Y E : Type 0} → E → (X → Y) → Result X E → (Result Y E → Type 0) → Type 0
AnswersUnless memory view (Ok x) Is = Is (Ok (view x))
AnswersUnless memory view (Err fault) Is = (fault ≡ memory) ⊎ Is (Err fault)

-- memory runs out only if these steps of the definition, which need none, are not refused
abbrev pub NeedsMemoryAfter : {A X E : Type 0} → E → Result A E → Result X E → Type 0
NeedsMemoryAfter memory steps result = result ≡ Err memory → IsOk steps
