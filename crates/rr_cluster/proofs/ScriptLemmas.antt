-- The lines of a script, cut off one by one, and that none has a line feed.
use Rattle.std.proofs.Common.{◌≡◌, ℕ, ◌+◌, ◌++◌, ◌<◌, map, get_or, Bool, true, false, cond, eqb, List, [], ◌∷◌, codes, Option, None, Some, IfSome, Result, Err, append_assoc, refl, sym, ap, subst, ◌∙◌, inl, inr}
use Rattle.std.proofs.lemmas.Bool.{cases_Bool}
use Rattle.std.specs.Prelude.{nat_eq, nat_lt, ok_or, length}
use Rattle.std.specs.List.{list_any, All}
use Rattle.std.specs.Cmp.Lexicographic.{pointwise}
use Rattle.std.proofs.lemmas.List.Splits.{join_with_byte-slice_split}
use Rattle.std.proofs.lemmas.List.Elements.{All-nil, All-cons, All-head, All-tail, All-same, All-get_or}
use Rattle.std.proofs.lemmas.List.{get_or-map, length-map}
use Rattle.rr_text.specs.declared.limits.TheConstants.{MAX_LINE}
use Rattle.rr_text.specs.Bytes.{HasNoLineFeed}
use Rattle.rr_cluster.specs.declared.script.fault.SyntaxFault.{SyntaxFault}
use Rattle.rr_cluster.specs.declared.script.fault.SyntaxFault.TheVariants.{LineTooLong, BadCommand}
use Rattle.rr_text.specs.declared.bytes.TheConstants.{LINE_FEED, SPACE}
use Rattle.rr_cluster.specs.declared.script.event.ScriptLine.{ScriptLine}
use Rattle.rr_cluster.specs.Command.{Command, IsOneLine}
use Rattle.rr_cluster.specs.CommandTexts.{command_of, schema_command, upgrade_command, node_command, now_command, write_command, page_command, delta_command, deliver_command, bytes_command, save_command, load_command, fetch_command}
use Rattle.rr_cluster.specs.Script.{line_view, parsed_view, line_command, is_skipped, numbered_lines, commands_of, SaysOneLine}
use Rattle.rr_cluster.specs.ScriptWords.{parts_of, words_of, text_of}
use Rattle.rr_cluster.proofs.ScriptWordsLemmas.{some_parts}
use Rattle.rr_cluster.proofs.CommandTextsLemmas.{schema_is_one_line, upgrade_is_one_line, node_is_one_line, now_is_one_line, write_is_one_line, page_is_one_line, delta_is_one_line, deliver_is_one_line, bytes_is_one_line, save_is_one_line, load_is_one_line, fetch_is_one_line}

-- the first line, and then the others
pub numbered_lines-first : (number : ℕ) (line : List ℕ) (lines : List (List ℕ))
    → numbered_lines number (line ∷ lines) ≡ numbered_lines number (line ∷ []) ++ numbered_lines (number + 1) lines
numbered_lines-first number line lines =
    elim (cases_Bool (is_skipped line)) [ inl skipped ↦ rw skipped refl | inr other ↦ rw other refl ]

abbrev Lines : Type 0
Lines = List (ℕ × Result Command SyntaxFault)

-- once the first line of a text is taken in, the rest is what follows it
pub line_taken : (number : ℕ) (text line after : List ℕ) (old new all : Lines)
    → new ≡ old ++ numbered_lines number (line ∷ []) → parts_of LINE_FEED text ≡ line ∷ parts_of LINE_FEED after
    → old ++ numbered_lines number (parts_of LINE_FEED text) ≡ all
    → new ++ numbered_lines (number + 1) (parts_of LINE_FEED after) ≡ all
line_taken number text line after old new all taken parts before =
    let rest = parts_of LINE_FEED after in
    ap (λ (l : Lines). l ++ numbered_lines (number + 1) rest) taken
    ∙ append_assoc old (numbered_lines number (line ∷ [])) (numbered_lines (number + 1) rest)
    ∙ ap (λ (l : Lines). old ++ l) (sym (numbered_lines-first number line rest)
    ∙ ap (numbered_lines number) (sym parts)) ∙ before

-- once the last line is taken in, all are
pub last_taken : (number : ℕ) (text : List ℕ) (old new all : Lines) → new ≡ old ++ numbered_lines number (text ∷ [])
    → parts_of LINE_FEED text ≡ text ∷ [] → old ++ numbered_lines number (parts_of LINE_FEED text) ≡ all → new ≡ all
last_taken number text old new all taken parts before =
    taken ∙ ap (λ (l : Lines). old ++ l) (ap (numbered_lines number) (sym parts)) ∙ before

-- ---- no line has a line feed

-- the lines of a script
lines_have_none : (text : List ℕ) → All HasNoLineFeed (parts_of LINE_FEED text)
lines_have_none [] = All-cons HasNoLineFeed [] [] refl (All-nil HasNoLineFeed)
lines_have_none (b ∷ text) =
    let rest = lines_have_none text in
    elim (cases_Bool (eqb b LINE_FEED)) [
      | inl here ↦ rw here (All-cons HasNoLineFeed [] (parts_of LINE_FEED text) refl rest)
      | inr other ↦
          let some = some_parts LINE_FEED text in
          let all = rw some.2 at rest in
          rw (other, some.2) (All-cons HasNoLineFeed (b ∷ some.0) some.1
          (rw other (All-head HasNoLineFeed some.0 some.1 all)) (All-tail HasNoLineFeed some.0 some.1 all))
    ]

-- one of two commands, each of one line
one_of : (here : Bool) (o rest : Option Command) → IfSome o IsOneLine → IfSome rest IsOneLine
    → IfSome (cond here o rest) IsOneLine
one_of true o rest is others = is
one_of false o rest is others = others

command_is_one_line : (words : List (List ℕ)) → HasNoLineFeed (text_of words) → IfSome (command_of words) IsOneLine
command_is_one_line [] none = tt
command_is_one_line (name ∷ words) none =
    one_of (pointwise nat_eq name (codes "schema")) (schema_command words) _ (schema_is_one_line words)
    (one_of (pointwise nat_eq name (codes "upgrade")) (upgrade_command words) _ (upgrade_is_one_line words)
    (one_of (pointwise nat_eq name (codes "node")) (node_command words) _ (node_is_one_line words)
    (one_of (pointwise nat_eq name (codes "now")) (now_command words) _ (now_is_one_line words)
    (one_of (pointwise nat_eq name (codes "write")) (write_command words) _ (write_is_one_line name words none)
    (one_of (pointwise nat_eq name (codes "page")) (page_command words) _ (page_is_one_line words)
    (one_of (pointwise nat_eq name (codes "delta")) (delta_command words) _ (delta_is_one_line words)
    (one_of (pointwise nat_eq name (codes "deliver")) (deliver_command words) _ (deliver_is_one_line words)
    (one_of (pointwise nat_eq name (codes "bytes")) (bytes_command words) _ (bytes_is_one_line words)
    (one_of (pointwise nat_eq name (codes "save")) (save_command words) _ (save_is_one_line words)
    (one_of (pointwise nat_eq name (codes "load")) (load_command words) _ (load_is_one_line words)
    (one_of (pointwise nat_eq name (codes "fetch")) (fetch_command words) None (fetch_is_one_line words) tt)))))))))))

parsed_is_one_line : (line : List ℕ) → HasNoLineFeed line → SaysOneLine (line_command line)
parsed_is_one_line line none =
    by (nat_lt MAX_LINE (length line)) (command_of (words_of line))
    (command_is_one_line (words_of line) (ap (list_any (λ byte. eqb byte LINE_FEED))
    (join_with_byte-slice_split SPACE line) ∙ none))
  where
    by : (long : Bool) (o : Option Command) → IfSome o IsOneLine
        → SaysOneLine (cond long (Err LineTooLong) (ok_or o BadCommand))
    by true o h = tt
    by false None h = tt
    by false (Some command) h = h

abbrev Line : Type 0
Line = ℕ × Result Command SyntaxFault

numbered_are_one_line : (number : ℕ) (lines : List (List ℕ)) → All HasNoLineFeed lines
    → All (λ (line : Line). SaysOneLine line.1) (numbered_lines number lines)
numbered_are_one_line number [] all = All-nil (λ (line : Line). SaysOneLine line.1)
numbered_are_one_line number (line ∷ lines) all =
    let rest = numbered_are_one_line (number + 1) lines (All-tail HasNoLineFeed line lines all) in
    elim (cases_Bool (is_skipped line)) [
      | inl skipped ↦ rw skipped rest
      | inr other ↦ rw other (All-cons (λ (l : Line). SaysOneLine l.1) (number, line_command line)
          (numbered_lines (number + 1) lines) (parsed_is_one_line line (All-head HasNoLineFeed line lines all)) rest)
    ]

pub commands_are_one_line : (script : List ℕ) → All (λ (line : Line). SaysOneLine line.1) (commands_of script)
commands_are_one_line script = numbered_are_one_line 1 (parts_of LINE_FEED script) (lines_have_none script)

pub line_says_one_line : (lines : List ScriptLine) (script : List ℕ) (i : ℕ) (d : ScriptLine)
    → map line_view lines ≡ commands_of script → i < length lines → SaysOneLine (parsed_view (get_or lines i d).parsed)
line_says_one_line lines script i d views within =
    let P : Line → Type 0 = λ line. SaysOneLine line.1 in
    let all = All-same P (map line_view lines) (commands_of script) views (commands_are_one_line script) in
    subst P (get_or-map line_view lines i d (line_view d) within)
    (All-get_or P (map line_view lines) i (line_view d) (rw (length-map lines line_view) within) all)
