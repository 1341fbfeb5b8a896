-- What words and lines say is within the limits: origins, times, values and keys.
use Rattle.std.proofs.Common.{◌≡◌, ℕ, ◌+◌, ◌≤◌, ℤ, Bool, true, false, not, cond, ◌&&◌, List, [], ◌∷◌, ◌++◌, length, Option, Some, None, Ok, Err, refl, subst, sym, arith}
use Rattle.std.specs.Prelude.{IsTrue, nat_le, ok_or, option_and_then, unwrap_or}
use Rattle.std.specs.List.{AllByRecursion}
use Rattle.std.specs.Str.Parse.{digits_value, signed_digits_value}
use Rattle.std.proofs.lemmas.Bool.{leb-true}
use Rattle.rr_schema.specs.declared.fault.OriginFault.TheVariants.{BadOrigin}
use Rattle.rr_text.specs.declared.limits.TheConstants.{MAX_NUMBER}
use Rattle.rr_text.specs.Text.{is_digits, unsigned, fits_i64, integer_at}
use Rattle.rr_key.specs.Making.{making_fault}
use Rattle.rr_key.proofs.MakingLemmas.{IsKeyText-made}
use Rattle.rr_line.specs.declared.fault.LineFault.TheVariants.{IntegerRange}
use Rattle.rr_line.specs.declared.precision.Precision.{Precision}
use Rattle.rr_line.specs.Field.{Field, LeadTo, AreFields}
use Rattle.rr_point.specs.Key.{key_text, names_of}
use Rattle.rr_point.specs.Point.{PointView}
use Rattle.rr_line.specs.Part.{before_last}
use Rattle.rr_line.specs.Time.{IsEnding}
use Rattle.rr_line.specs.Value.{value_of, is_integer, kind_fault}
use Rattle.rr_cluster.specs.declared.fault.CommandFault.TheVariants.{BadNumber, Origin}
use Rattle.rr_text.specs.declared.limits.TheConstants.{MAX_ORIGIN}
use Rattle.rr_cluster.specs.Commands.Write.{samples_of}
use Rattle.rr_schema.specs.Origin.{IsOrigin}
use Rattle.rr_cells.specs.CellBounds.{IsSoundSample}
use Rattle.rr_cluster.specs.Words.{number_within, origin_of, moment_of}

is_there : {A E : Type 0} (o : Option A) (fault : E) (x : A) → ok_or o fault ≡ Ok x → o ≡ Some x
is_there None fault x e = absurd cc
is_there (Some y) fault x e = cc

-- ---- words

pub number_is_within : (least most : ℕ) (word : List ℕ) (number : ℕ) → number_within least most word ≡ Some number
    → (least ≤ number) × (number ≤ most)
number_is_within least most word number =
    let value = digits_value 10 word in by value (is_digits word) (nat_le least value) (nat_le value most) refl refl
  where
    by : (value : ℕ) (digits above below : Bool) → nat_le least value ≡ above → nat_le value most ≡ below
        → cond (digits && (above && below)) (Some value) None ≡ Some number → (least ≤ number) × (number ≤ most)
    by value true true true low high e =
        let is : value ≡ number = cc in
        subst (λ (n : ℕ). (least ≤ n) × (n ≤ most)) is (leb-true least value low, leb-true value most high)
    by value true true false low high e = absurd cc
    by value true false below low high e = absurd cc
    by value false above below low high e = absurd cc

pub origin_is : (word : List ℕ) (number : ℕ) → origin_of word ≡ Ok number → IsOrigin number
origin_is word number e =
    let within = number_is_within 1 MAX_ORIGIN word number (by (is_digits word) (number_within 1 MAX_ORIGIN word) e) in
    record { at_least = within.0; at_most = within.1 }
  where
    by : (digits : Bool) (o : Option ℕ) → cond (not digits) (Err BadNumber) (ok_or o (Origin BadOrigin)) ≡ Ok number
        → o ≡ Some number
    by true o h = is_there o (Origin BadOrigin) number h
    by false o h = absurd cc

integer_fits : (text : List ℕ) (number : ℤ) → integer_at text ≡ Some number → IsTrue (fits_i64 number)
integer_fits text number =
    let value = signed_digits_value 10 text in by value (is_digits (unsigned text)) (fits_i64 value) refl
  where
    by : (value : ℤ) (digits fits : Bool) → fits_i64 value ≡ fits
        → cond (digits && fits) (Some value) None ≡ Some number → IsTrue (fits_i64 number)
    by value true true is e = let same : value ≡ number = cc in subst (λ (n : ℤ). IsTrue (fits_i64 n)) same is
    by value true false is e = absurd cc
    by value false fits is e = absurd cc

pub moment_fits : (word : List ℕ) (time : ℤ) → moment_of word ≡ Ok time → IsTrue (fits_i64 time)
moment_fits word time e = integer_fits word time (is_there _ BadNumber time e)

-- ---- a point of a line

-- a value is an integer before an `i`, which is 105
value_fits : (text : List ℕ) (number : ℤ) → value_of text ≡ Ok number → IsTrue (fits_i64 number)
value_fits text number = by (is_integer text) (before_last 105 text)
  where
    by : (integer : Bool) (digits : Option (List ℕ))
        → cond integer (ok_or (option_and_then integer_at digits) IntegerRange) (Err (kind_fault text)) ≡ Ok number
        → IsTrue (fits_i64 number)
    by true None e = absurd cc
    by true (Some digits) e = integer_fits digits number (is_there _ IntegerRange number e)
    by false digits e = absurd cc

abbrev ValueFits : Field → Type 0
ValueFits field = IsTrue (fits_i64 field.1)

leading_fit : (before : List Field) (text : List ℕ) (fields : List Field) (rest : List ℕ)
    → LeadTo before text fields rest → AllByRecursion ValueFits fields
leading_fit before text [] rest h = tt
leading_fit before text (field ∷ fields) rest h =
    (value_fits h.1.value.0 field.1 h.1.value.2, leading_fit (before ++ field ∷ []) h.0 fields rest h.3)

with_last : (fields : List Field) (last : Field) → AllByRecursion ValueFits fields → ValueFits last
    → AllByRecursion ValueFits (fields ++ last ∷ [])
with_last [] last all fits = (fits, tt)
with_last (field ∷ fields) last all fits = (all.0, with_last fields last all.1 fits)

pub fields_fit : (text : List ℕ) (fields : List Field) (rest : List ℕ) → AreFields text fields rest
    → AllByRecursion ValueFits fields
fields_fit text fields rest h =
    subst (AllByRecursion ValueFits) (sym h.all) (with_last h.prefix h.last
    (leading_fit [] text h.prefix h.last_text h.leading) (value_fits h.ends.value.0 h.last.1 h.ends.value.2))

pub time_fits : (precision : Precision) (ending : List ℕ) (time : Option ℤ) (clock : ℤ) → IsEnding precision ending time
    → IsTrue (fits_i64 clock) → IsTrue (fits_i64 (unwrap_or time clock))
time_fits precision ending None clock h fits = fits
time_fits precision ending (Some time) clock h fits = h.3

-- ---- its samples

pub samples_fit : (origin number : ℕ) (time : ℤ) (p : PointView) (fields : List Field) → IsOrigin origin → 1 ≤ number
    → number + length fields ≤ MAX_NUMBER + 1 → IsTrue (fits_i64 time)
    → AllByRecursion (λ (field : Field). making_fault (names_of p field.0) ≡ None) fields
    → AllByRecursion ValueFits fields
    → AllByRecursion IsSoundSample (samples_of origin number time p fields)
samples_fit origin number time p [] is some few fits keys values = tt
samples_fit origin number time p (field ∷ fields) is some few fits keys values = (
  record {
    origin = is;
    some_number = some;
    few_numbers = omega (arith, few);
    key = IsKeyText-made (names_of p field.0) (key_text p field.0) keys.0 refl;
    time = fits;
    value = values.0;
  },
  samples_fit origin (number + 1) time p fields is (omega (arith, some)) (omega (arith, few)) fits keys.1 values.1,
)
