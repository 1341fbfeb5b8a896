-- Which keys of series are asked for, and the line of a key.
use Rattle.std.specs.Prelude.{ℕ, Bool, false, nat_eq, ◌||◌, ◌==◌, nat_lt, List, [], ◌∷◌, ◌++◌, Option, None, Some, Result, Ok, Err, if◌then◌else◌, codes, unwrap_or}
use Rattle.std.specs.List.{starts_with}
use Rattle.std.specs.Ordering.{is_gt}
use Rattle.rr_text.specs.Bytes.{bytes_cmp}
use Rattle.rr_text.specs.declared.bytes.TheConstants.{LINE_FEED}
use Rattle.rr_key.specs.Series.{IsKeyText}
use Rattle.rr_text.specs.Text.{number_at}
use Rattle.rr_web.specs.Query.{parameter_of}
use Rattle.rr_web.specs.declared.series.CountFault.{CountFault}
use Rattle.rr_web.specs.declared.series.CountFault.TheVariants.{BadCount, BadNumber}
use Rattle.rr_web.specs.declared.series.TheConstants.{KEYS, MAX_KEYS}

-- the printed name of a fault, which is its variant's, and what helps
abbrev pub count_fault_text : CountFault → List ℕ
count_fault_text BadNumber = codes "BadNumber: count must be a number below 2^64"
count_fault_text BadCount = codes "BadCount: count must be from 1 to 10,000"

-- 1 to 10,000
abbrev pub count_at : Option ℕ → Result ℕ CountFault
count_at None = Err BadNumber
count_at (Some count) = if count == 0 || nat_lt MAX_KEYS count then Err BadCount else Ok count

-- 1,000 if a query doesn't say
abbrev pub count_in : Option (List ℕ) → Result ℕ CountFault
count_in None = Ok KEYS
count_in (Some text) = count_at (number_at text)

abbrev pub line_of : List ℕ → List ℕ
line_of key = key ++ LINE_FEED ∷ []

abbrev pub begins_with : List ℕ → List ℕ → Bool
begins_with prefix key = starts_with nat_eq key prefix

-- whether a key comes after all those that begin with a prefix
abbrev pub is_past : List ℕ → List ℕ → Bool
is_past prefix key = if begins_with prefix key then false else is_gt (bytes_cmp key prefix)

-- a text is named that isn't a key text
abbrev pub IsNoKey : Option (List ℕ) → Type 0
IsNoKey None = ⊥
IsNoKey (Some text) = ¬ IsKeyText text

-- the prefix that a query names, or else the empty one, with which every key begins
abbrev pub prefix_of : List ℕ → List ℕ
prefix_of query = unwrap_or (parameter_of query (codes "prefix")) []
