-- A schema without a fault is within the limits.
use Rattle.std.proofs.Common.{◌≡◌, ℕ, zero, suc, ◌<◌, ◌≤◌, Bool, true, false, ◌||◌, cond, eqb, leb, List, [], ◌∷◌, length, Option, Some, None, refl, arith, add-one}
use Rattle.std.specs.List.{All}
use Rattle.std.proofs.lemmas.Bool.{eqb-false, leb-false}
use Rattle.rr_schema.specs.declared.archive.ArchiveSpec.{ArchiveSpec}
use Rattle.rr_schema.specs.declared.fault.SchemaFault.{SchemaFault}
use Rattle.rr_schema.specs.Schema.{IsArchive, IsLayout}
use Rattle.rr_schema.specs.Check.{archive_fault, archives_fault, schema_fault}
use Rattle.rr_text.specs.Results.{first_fault}
use Rattle.rr_schema.proofs.Rising.{Rise}

-- a test that finds no fault was false, and none was found after it
none_found : (b : Bool) (fault : SchemaFault) (later : Option SchemaFault) → cond b (Some fault) later ≡ None
    → (b ≡ false) × (later ≡ None)
none_found true fault later h = absurd cc
none_found false fault later h = (refl, h)

neither : (a b : Bool) → (a || b) ≡ false → (a ≡ false) × (b ≡ false)
neither true b h = absurd cc
neither false b h = (refl, h)

none_first : (a b : Option SchemaFault) → first_fault a b ≡ None → (a ≡ None) × (b ≡ None)
none_first None b h = (refl, h)
none_first (Some fault) b h = absurd cc

-- neither 0 nor above the limit
in_limit : (n most : ℕ) → (eqb n 0 || leb (suc most) n) ≡ false → (1 ≤ n) × (n ≤ most)
in_limit n most h =
    let both = neither (eqb n 0) (leb (suc most) n) h in
    let some = eqb-false n 0 both.0 in
    let few = leb-false (suc most) n both.1 in
    (omega arith, omega arith)

checked_archive : (before : ℕ) (a : ArchiveSpec) → archive_fault before a ≡ None → IsArchive a × (before < a.steps)
checked_archive before a h =
    let steps = none_found _ _ _ h in
    let rows = none_found _ _ _ steps.1 in
    let xff = none_found _ _ _ rows.1 in
    let rising = none_found _ _ _ xff.1 in
    let few_steps = in_limit a.steps _ steps.0 in
    let few_rows = in_limit a.rows _ rows.0 in
    let fraction = neither (leb a.den a.num) _ xff.0 in
    let above = leb-false a.den a.num fraction.0 in
    let fine = leb-false _ a.den fraction.1 in
    let more = leb-false a.steps before rising.0 in (
      record {
        some_step = few_steps.0;
        few_steps = omega (arith, few_steps.1);
        some_row = few_rows.0;
        few_rows = few_rows.1;
        fraction = above;
        fine = omega arith;
      },
      more,
    )

each_more : (a : ArchiveSpec) (others : List ArchiveSpec) → IsArchive a → All IsArchive others
    → All IsArchive (a ∷ others)
each_more a others first rest zero d lt = first
each_more a others first rest (suc k) d lt = rest k d (omega arith)

-- the first of these has more steps than this
StartsAbove : ℕ → List ArchiveSpec → Type 0
StartsAbove before [] = Unit {0}
StartsAbove before (a ∷ others) = before < a.steps

rise_more : (a : ArchiveSpec) (others : List ArchiveSpec) → StartsAbove a.steps others → Rise others → Rise (a ∷ others)
unfolding StartsAbove
rise_more a [] above rest k lt = absurd (omega arith)
rise_more a (b ∷ others) above rest zero lt = above
rise_more a (b ∷ others) above rest (suc k) lt = rw add-one (rw add-one at (rest k (omega arith)))

checked_archives : (before : ℕ) (archives : List ArchiveSpec) → archives_fault before archives ≡ None
    → StartsAbove before archives × All IsArchive archives × Rise archives
unfolding StartsAbove
checked_archives before [] h = (tt, (λ k d lt. absurd (omega arith)), (λ k lt. absurd (omega arith)))
checked_archives before (a ∷ others) h =
    let both = none_first _ _ h in
    let first = checked_archive before a both.0 in
    let rest = checked_archives a.steps others both.1 in
    (first.1, each_more a others first.0 rest.1, rise_more a others rest.0 rest.2)

pub checked_layout : (step : ℕ) (archives : List ArchiveSpec) → schema_fault step archives ≡ None
    → IsLayout (record { step = step; archives = archives })
checked_layout step archives h =
    let in_day = none_found _ _ _ h in
    let some = none_found _ _ _ in_day.1 in
    let few = none_found _ _ _ some.1 in
    let rest = checked_archives 0 archives few.1 in
    let step_in = in_limit step _ in_day.0 in
    let not_empty = eqb-false (length archives) 0 some.0 in
    let accepted = leb-false _ (length archives) few.0 in
    record {
      some_step = step_in.0;
      short_step = step_in.1;
      some_archive = omega arith;
      few_archives = omega arith;
      each = rest.1;
      rising = rest.2;
    }
