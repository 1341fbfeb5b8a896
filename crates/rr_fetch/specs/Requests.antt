-- What the bytes of a request ask for.
use Rattle.std.specs.Prelude.{◌≡◌, ℕ, ◌≤◌, ◌<◌, ℤ, pos, neg_ℤ, ◌-ℤ◌, ◌<ℤ◌, nat_le, int_lt, List, length, Result, Ok, Err, ok_or, IfOk, unsigned_abs, if◌then◌else◌}
use Rattle.std.specs.Int.{int_div_euclid}
use Rattle.rr_schema.specs.declared.consolidation.ConsolidationFunction.{ConsolidationFunction}
use Rattle.rr_text.specs.declared.limits.TheConstants.{MAX_FETCH_ROWS, MAX_SECOND}
use Rattle.rr_text.specs.Results.{◌>>=◌, GivesUnless, NeedsMemoryAfter, check}
use Rattle.rr_schema.specs.Schema.{Layout, span, choice}
use Rattle.rr_key.specs.Reading.{is_key_text}
use Rattle.rr_cells.specs.FetchText as text
use Rattle.rr_fetch.specs.declared.fault.RequestFault.{RequestFault}
use Rattle.rr_fetch.specs.declared.fault.RequestFault.TheVariants.{BadCommand, BadCf, BadNumber, BadKey, EmptyRange, TooManyRows, Memory}
use Rattle.rr_fetch.specs.declared.request.Request.{Request}
use Rattle.rr_fetch.specs.Words.{Parts, words_of, function_of, resolution_of, second_of}

-- a series key, by its text
abbrev pub key_of : List ℕ → Result (List ℕ) RequestFault
key_of text = if is_key_text text then Ok text else Err BadKey

-- the rows of an archive from the slot of start, up to the last one that begins before end
abbrev pub rows_between : Layout → List ℕ → ConsolidationFunction → ℕ → ℤ → ℤ → text.Request
rows_between s key function archive start end =
    let first = int_div_euclid start (pos (span s archive)) in
    let last = neg_ℤ (int_div_euclid (neg_ℤ end) (pos (span s archive))) in
    record { key = key; function = function; archive = archive; first = first; rows = unsigned_abs (last -ℤ first) }

-- a request of no more rows than one may have
abbrev pub few_rows : text.Request → Result text.Request RequestFault
few_rows q = if nat_le q.rows MAX_FETCH_ROWS then Ok q else Err TooManyRows

-- the request of five words, or the first fault in the order of its checks
unfoldable pub read : Layout → Parts → Result text.Request RequestFault
read s words = do
  function ← ok_or (function_of words.function) BadCf
  resolution ← ok_or (resolution_of words.resolution) BadNumber
  start ← ok_or (second_of words.start) BadNumber
  end ← ok_or (second_of words.end) BadNumber
  key ← key_of words.key
  some ← check (int_lt start end) EmptyRange
  few_rows (rows_between s key function (choice s resolution) start end)

-- the request of the words CF RESOLUTION START END KEY
unfoldable pub request_of_words : Layout → List ℕ → Result text.Request RequestFault
request_of_words s bytes = do
  words ← ok_or (words_of bytes) BadCommand
  read s words

-- what a request in memory asks for
abbrev pub request_view : Request → text.Request
request_view q = record { key = q.key; function = q.cf; archive = q.archive; first = q.first; rows = q.rows }

-- the slot that a second falls in, which is no farther from 0 than the second
pub record IsFirstSlot (second : ℤ) (span : ℕ) (slot : ℤ) : Type 0 where
  pub value : slot ≡ int_div_euclid second (pos span)
  pub slot_nearer : unsigned_abs slot ≤ unsigned_abs second

-- an archive of a layout, and a range of seconds near the epoch that is not empty
pub record IsRangeOf (s : Layout) (archive : ℕ) (start end : ℤ) : Type 0 where
  pub archive_exists : archive < length s.archives
  pub start_near : unsigned_abs start ≤ MAX_SECOND
  pub end_near : unsigned_abs end ≤ MAX_SECOND
  pub start_before_end : start <ℤ end

-- a request that can be answered: its archive is one of the layout's, its first slot is near the epoch, and it has at
-- least one row and no more than a fetch may have
pub record IsFetchable (s : Layout) (q : text.Request) : Type 0 where
  pub is_there : q.archive < length s.archives
  pub near : unsigned_abs q.first ≤ MAX_SECOND
  pub some : 1 ≤ q.rows
  pub few : q.rows ≤ MAX_FETCH_ROWS

-- a request is made as the definition says, and can be answered; or memory ran out, which hides no fault
pub record MakesRequest (s : Layout) (result : Result Request RequestFault) (answer : Result text.Request RequestFault)
    : Type 0 where
  pub value : GivesUnless Memory request_view result answer
  pub memory : NeedsMemoryAfter Memory answer result
  pub fetchable : IfOk result (λ q. IsFetchable s (request_view q))
