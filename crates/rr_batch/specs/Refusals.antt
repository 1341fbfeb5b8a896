-- The lines of refusals by the names of their faults, and how they are counted.
use Rattle.std.specs.Prelude.{◌≡◌, ℕ, ◌+◌, ◌<◌, Bool, false, ◌==◌, List, [], ◌∷◌, Option, None, Some, if◌then◌else◌, count_by, sum, unwrap_or, map, codes, ◌++◌, ◌^◌, length, max}
use Rattle.std.specs.BTreeMap.{btree_map_len, values}
use Rattle.std.specs.Global.{Vec}
use Rattle.std.specs.List.{AllByRecursion, flat_map}
use Rattle.std.specs.Str.{bytes_eq}
use Rattle.rr_join.specs.Values.{get_called}
use Rattle.rr_text.specs.Bytes.{HasNoLineFeed, bytes_cmp, strip}
use Rattle.rr_text.specs.Options.{◌>>=◌}
use Rattle.rr_text.specs.Refusal.{refusal_text}
use Rattle.rr_text.specs.Text.{cut_at}
use Rattle.rr_text.specs.declared.bytes.TheConstants.{LINE_FEED, SPACE}
use Rattle.rr_web.specs.declared.node_metrics.RefusedLines.{RefusedLines}
use Rattle.rr_batch.specs.declared.refusals.RefusalCounts.{RefusalCounts}
use Rattle.rr_batch.specs.declared.refusals.TheConstants.{COLON, MAX_NAMES}

-- ---- the lines of a text, by name

-- lines with a byte before the first of them, if there is one
abbrev pub onto_first : ℕ → List (List ℕ) → List (List ℕ)
onto_first byte [] = []
onto_first byte (line ∷ lines) = (byte ∷ line) ∷ lines

-- the lines of a text that end in a line feed, without it
abbrev pub whole_lines : List ℕ → List (List ℕ)
whole_lines [] = []
whole_lines (byte ∷ text) =
    if byte == LINE_FEED then [] ∷ whole_lines text else onto_first byte (whole_lines text)

-- what follows a space behind a colon
abbrev pub behind_colon : List ℕ × List ℕ → Option (List ℕ)
behind_colon parts = strip SPACE parts.1

-- the name in `line N: NAME`
abbrev pub name_in : List ℕ → Option (List ℕ)
name_in line = cut_at COLON line >>= behind_colon

-- whether it is this one
abbrev pub is_name : List ℕ → Option (List ℕ) → Bool
is_name name None = false
is_name name (Some own) = bytes_eq name own

-- how many lines of a text have a name
abbrev pub lines_named : List ℕ → List ℕ → ℕ
lines_named name text = count_by (λ line. is_name name (name_in line)) (whole_lines text)

-- ---- how they are counted

-- how many lines are counted under a name
abbrev pub lines_under : List ℕ → RefusalCounts → ℕ
lines_under name counts = unwrap_or (get_called bytes_cmp (λ (key : Vec ℕ). key.items) counts.named name) 0

-- how many lines are counted, under all names and under none
abbrev pub all_lines : RefusalCounts → ℕ
all_lines counts = sum (values counts.named) + counts.other

-- another name would be counted
abbrev pub HasRoom : RefusalCounts → Type 0
HasRoom counts = btree_map_len counts.named < MAX_NAMES

-- this many lines were added to the counts; and as long as another name would be counted, this many to each name
pub record Counts (old new : RefusalCounts) (lines : ℕ) (named : List ℕ → ℕ) : Type 0 where
  pub all : all_lines new ≡ all_lines old + lines
  pub room : HasRoom new → HasRoom old
  pub each : HasRoom new → (name : List ℕ) → lines_under name new ≡ lines_under name old + named name

-- one if a name is this one
abbrev pub one_if : List ℕ → Option (List ℕ) → ℕ
one_if name own = if is_name name own then 1 else 0

-- refused lines are counted, those in a text by their names, as long as no count can pass its greatest value
abbrev pub CountsRefused : RefusalCounts → RefusalCounts → List ℕ → ℕ → Type 0
CountsRefused old new text refused =
    all_lines old + max refused (length (whole_lines text)) < 2 ^ 64
    → Counts old new (max refused (length (whole_lines text))) (λ name. lines_named name text)

-- a name and its lines
abbrev pub count_view : RefusedLines → List ℕ × ℕ
count_view counted = (counted.fault.items, counted.lines)

abbrev pub named_count : Vec ℕ × ℕ → List ℕ × ℕ
named_count entry = (entry.0.items, entry.1)

-- how many lines each name has, in the order of the names, and last those of `other`
abbrev pub counts_of : RefusalCounts → List (List ℕ × ℕ)
counts_of counts = map named_count counts.named.entries ++ (codes "other", counts.other) ∷ []

-- ---- what refusals of lines come to

-- the number of a line and the name of its fault, which can be written as a line of text
abbrev pub IsRefusal : ℕ × List ℕ → Type 0
IsRefusal refusal = (refusal.0 < 2 ^ 64) × HasNoLineFeed refusal.1

-- the text of refusals
abbrev pub refusals_text : List (ℕ × List ℕ) → List ℕ
refusals_text refusals = flat_map (λ refusal. refusal_text refusal.0 refusal.1) refusals

-- the text of refusals has a line for each, and as many lines with a name as there are refusals with it
abbrev pub RefusalsAreCounted : Type 0
RefusalsAreCounted = (refusals : List (ℕ × List ℕ)) → AllByRecursion IsRefusal refusals →
    (length (whole_lines (refusals_text refusals)) ≡ length refusals)
    × ((name : List ℕ) → lines_named name (refusals_text refusals)
    ≡ count_by (λ refusal. bytes_eq name refusal.1) refusals)
