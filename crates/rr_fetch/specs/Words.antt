-- The words of a request, and what each of them means.
use Rattle.std.specs.Prelude.{ℕ, ℤ, ◌&&◌, nat_eq, nat_le, List, codes, Option, None, Some, unsigned_abs, if◌then◌else◌}
use Rattle.std.specs.Cmp.Lexicographic.{pointwise}
use Rattle.std.specs.Str.Parse.{digits_value}
use Rattle.rr_text.specs.Options.{◌>>=◌}
use Rattle.rr_text.specs.Text.{cut_at, is_digits, integer_at}
use Rattle.rr_schema.specs.declared.consolidation.ConsolidationFunction.{ConsolidationFunction}
use Rattle.rr_schema.specs.declared.consolidation.ConsolidationFunction.TheVariants.{Average, Min, Max, Last}
use Rattle.rr_text.specs.declared.limits.TheConstants.{MAX_SECOND}
use Rattle.rr_fetch.specs.declared.words.RequestWords.{RequestWords}
use Rattle.rr_text.specs.declared.bytes.TheConstants.{SPACE}

-- four words, each ended by a space, and the key, which is all that follows
pub record Parts : Type 0 where
  pub function : List ℕ
  pub resolution : List ℕ
  pub start : List ℕ
  pub end : List ℕ
  pub key : List ℕ

-- the words of a text, if there are five or more
unfoldable pub words_of : List ℕ → Option Parts
words_of text = do
  function ← cut_at SPACE text
  resolution ← cut_at SPACE function.1
  start ← cut_at SPACE resolution.1
  end ← cut_at SPACE start.1
  Some (record { function = function.0; resolution = resolution.0; start = start.0; end = end.0; key = end.1 })

-- the bytes of words that are slices
abbrev pub parts : RequestWords → Parts
parts w = record {
  function = w.function.now;
  resolution = w.resolution.now;
  start = w.start.now;
  end = w.end.now;
  key =
      w.key.now;
}

-- a consolidation function, by its name in RRDtool
abbrev pub function_of : List ℕ → Option ConsolidationFunction
function_of word =
    if pointwise nat_eq word (codes "AVERAGE") then Some Average
    else (if pointwise nat_eq word (codes "MIN") then Some Min
    else (if pointwise nat_eq word (codes "MAX") then Some Max
    else (if pointwise nat_eq word (codes "LAST") then Some Last else None)))

-- a resolution in seconds: digits, and a number from 1 to the last second
abbrev pub resolution_of : List ℕ → Option ℕ
resolution_of word =
    let seconds = digits_value 10 word in
    if is_digits word && (nat_le 1 seconds && nat_le seconds MAX_SECOND) then Some seconds else None

-- a start or an end in seconds, up to the last second either side of the epoch
abbrev pub second_of : List ℕ → Option ℤ
second_of word = do
  second ← integer_at word
  if nat_le (unsigned_abs second) MAX_SECOND then Some second else None
