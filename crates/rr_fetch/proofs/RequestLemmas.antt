-- The rows that a fetch asks for, from the slots at its ends.
use Rattle.std.proofs.Common.{◌≡◌, true, ℕ, zero, suc, ◌/◌, ◌<◌, ◌≤◌, ℤ, pos, negsuc, neg_ℤ, ◌-ℤ◌, ◌<ℤ◌, List, Some, Ok, Err, sym, ap, ◌∙◌, arith}
use Rattle.std.specs.Prelude.{int_lt, unsigned_abs}
use Rattle.std.specs.Int.{int_div_euclid}
use Rattle.std.proofs.Math.Nat.{div-mul-le_self}
use Rattle.std.proofs.lemmas.Bool.{le-leb, lt-leb}
use Rattle.std.proofs.lemmas.Int.{ints}
use Rattle.std.proofs.lemmas.Nat.{le-div}
use Rattle.rr_schema.specs.declared.consolidation.ConsolidationFunction.{ConsolidationFunction}
use Rattle.rr_text.specs.declared.limits.TheConstants.{MAX_FETCH_ROWS}
use Rattle.rr_schema.specs.Schema.{Layout, span, choice}
use Rattle.rr_cells.specs.FetchText as text
use Rattle.rr_fetch.specs.declared.fault.RequestFault.TheVariants.{TooManyRows}
use Rattle.rr_fetch.specs.Requests.{rows_between, few_rows, key_of, read}
use Rattle.rr_fetch.specs.Words.{Parts, function_of, resolution_of, second_of}

-- ---- the request

-- words that pass their checks are read as the rows between the two seconds
pub read_by_words : (s : Layout) (w : Parts) (function : ConsolidationFunction) (resolution : ℕ) (start end : ℤ)
    (q : text.Request)
    → function_of w.function ≡ Some function → resolution_of w.resolution ≡ Some resolution
    → second_of w.start ≡ Some start → second_of w.end ≡ Some end
    → key_of w.key ≡ Ok w.key → int_lt start end ≡ true
    → few_rows (rows_between s w.key function (choice s resolution) start end) ≡ Ok q → read s w ≡ Ok q
unfolding read
read_by_words s w function resolution start end q is_function is_resolution is_start is_end is_key before rows =
    rw (is_function, is_resolution, is_start, is_end, is_key, before) rows

module _ (s : Layout) (key : List ℕ) (function : ConsolidationFunction) (archive : ℕ) (start end first last : ℤ)
    (rows : ℕ) (first_is : first ≡ int_div_euclid start (pos (span s archive)))
    (last_is : last ≡ neg_ℤ (int_div_euclid (neg_ℤ end) (pos (span s archive))))
    (rows_are : rows ≡ unsigned_abs (last -ℤ first)) where
  found : text.Request
  found = record { key = key; function = function; archive = archive; first = first; rows = rows }

  request_is : found ≡ rows_between s key function archive start end
  unfolding found
  request_is = λ i. record {
    key = key;
    function = function;
    archive = archive;
    first = first_is i;
    rows = (rows_are ∙ λ j. unsigned_abs (last_is j -ℤ first_is j)) i;
  }

  pub few : rows ≤ MAX_FETCH_ROWS → few_rows (rows_between s key function archive start end)
      ≡ Ok (record { key = key; function = function; archive = archive; first = first; rows = rows })
  unfolding found
  few le = sym (rw (le-leb rows MAX_FETCH_ROWS le) at (ap few_rows request_is))

  pub many : MAX_FETCH_ROWS < rows → few_rows (rows_between s key function archive start end) ≡ Err TooManyRows
  unfolding found
  many lt = sym (rw (lt-leb rows MAX_FETCH_ROWS lt) at (ap few_rows request_is))

-- ---- there is a row

later_quotient : (a b n : ℕ) → 0 < n → a ≤ b → a / n ≤ b / n
later_quotient a b n some le = let most = div-mul-le_self a n in le-div (a / n) b n some (omega arith)

-- the floor of a quotient is below the ceiling of a greater one
pub floor_below_ceil : (start end : ℤ) (n : ℕ) → 0 < n → start <ℤ end
    → int_div_euclid start (pos n) <ℤ neg_ℤ (int_div_euclid (neg_ℤ end) (pos n))
floor_below_ceil (pos a) (pos zero) n some before = absurd (omega (arith, ints))
floor_below_ceil (pos a) (pos (suc b)) n some before =
    let most = later_quotient a b n some (omega (arith, ints)) in omega (arith, ints)
floor_below_ceil (pos a) (negsuc b) n some before = absurd (omega (arith, ints))
floor_below_ceil (negsuc a) (pos zero) n some before = let none : 0 / n ≡ 0 = omega arith in omega (arith, ints)
floor_below_ceil (negsuc a) (pos (suc b)) n some before = omega (arith, ints)
floor_below_ceil (negsuc a) (negsuc b) n some before =
    let most = later_quotient (suc b) a n some (omega (arith, ints)) in omega (arith, ints)

some_between : (z : ℤ) → pos 0 <ℤ z → 1 ≤ unsigned_abs z
some_between (pos n) above = omega (arith, ints)
some_between (negsuc n) above = absurd (omega (arith, ints))

pub some_rows : (first last : ℤ) → first <ℤ last → 1 ≤ unsigned_abs (last -ℤ first)
some_rows first last before = some_between (last -ℤ first) (omega (arith, ints))
