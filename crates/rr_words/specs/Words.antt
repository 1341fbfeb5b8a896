-- What the words of a command line ask for, as clap reads them.
use Rattle.std.specs.Prelude.{◌≡◌, ℕ, ◌&&◌, nat_le, ℤ, pos, List, codes, Option, Some, None, option_map, string_bytes, if◌then◌else◌}
use Rattle.std.specs.Option.{option_and_then}
use Rattle.std.specs.Str.{bytes_eq}
use Rattle.clap.specs.Walk.{Row, Text, first_of, is_empty}
use Rattle.clap.specs.Words.{fault_of, subcommand_of}
use Rattle.rr_text.specs.declared.limits.TheConstants.{MAX_ORIGIN}
use Rattle.rr_text.specs.Text.{integer_at, number_at}
use Rattle.rr_line.specs.declared.precision.Precision.{Precision}
use Rattle.rr_line.specs.declared.precision.Precision.TheVariants.{Ns}
use Rattle.rr_line.specs.Precision.{precision_named}
use Rattle.rr_words.specs.declared.order.Order.{Order}
use Rattle.rr_words.specs.declared.order.Order.TheVariants as order
use Rattle.rr_words.specs.declared.order.JournalWord.{JournalWord}
use Rattle.rr_words.specs.declared.order.JournalWord.TheVariants.{Check, Cells}
use Rattle.rr_command_line.specs.Program.{program_app}

-- an order, with its texts as bytes
pub data Asked : Type 0 where
  sim : Option Text → Asked
  check_lines : Precision → ℤ → Asked
  serve : Text → ℕ → Option Text → Option Text → Asked
  node : Text → Text → Option Text → Asked
  journal : JournalWord → Text → Asked

abbrev pub asked_by : Order → Asked
asked_by (order.Sim file) = sim (option_map string_bytes file)
asked_by (order.CheckLines precision now) = check_lines precision now
asked_by (order.Serve config origin load save) =
    serve (string_bytes config) origin (option_map string_bytes load) (option_map string_bytes save)
asked_by (order.Node config folder load) =
    node (string_bytes config) (string_bytes folder) (option_map string_bytes load)
asked_by (order.Journal what folder) = journal what (string_bytes folder)

-- ns, us, ms or s; nanoseconds if none is written
abbrev pub precision_at : Option Text → Option Precision
precision_at None = Some Ns
precision_at (Some text) = precision_named text

-- an integer in i64; 0 if none is written
abbrev pub moment_at : Option Text → Option ℤ
moment_at None = Some (pos 0)
moment_at (Some text) = integer_at text

-- what `check-lines` asks for, from the texts of its two options
abbrev pub lines_asked_by : Option Text → Option Text → Option Asked
lines_asked_by precision now =
    option_and_then (λ p. option_map (check_lines p) (moment_at now)) (precision_at precision)

-- what the values of `check-lines` ask for
abbrev pub lines_asked : List Row → Option Asked
lines_asked rows = lines_asked_by (first_of (codes "precision") rows) (first_of (codes "now") rows)

-- an origin, in digits
abbrev pub origin_at : Text → Option ℕ
origin_at text =
    option_and_then (λ n. if nat_le 1 n && nat_le n MAX_ORIGIN then Some n else None) (number_at text)

-- the origin that is written, if one is
abbrev pub origin_in : Option Text → Option ℕ
origin_in = option_and_then origin_at

-- what `serve` asks for, from the texts of its configuration, origin and files
abbrev pub serve_asked_by : Option Text → Option Text → Option Text → Option Text → Option Asked
serve_asked_by config origin load save =
    option_and_then (λ c. option_map (λ o. serve c o load save) (origin_in origin)) config

-- what the values of `serve` ask for
abbrev pub serve_asked : List Row → Option Asked
serve_asked rows =
    serve_asked_by (first_of (codes "CONFIG") rows) (first_of (codes "origin") rows)
    (first_of (codes "load") rows) (first_of (codes "save") rows)

-- what `node` asks for, from the texts of its configuration, directory and file
abbrev pub node_asked_by : Option Text → Option Text → Option Text → Option Asked
node_asked_by config folder load = option_and_then (λ c. option_map (λ f. node c f load) folder) config

-- what the values of `node` ask for
abbrev pub node_asked : List Row → Option Asked
node_asked rows =
    node_asked_by (first_of (codes "CONFIG") rows) (first_of (codes "data") rows) (first_of (codes "load") rows)

-- check, or cells
abbrev pub journal_word_at : Text → Option JournalWord
journal_word_at text =
    if bytes_eq text (codes "check") then Some Check else (if bytes_eq text (codes "cells") then Some Cells else None)

abbrev pub journal_word_in : Option Text → Option JournalWord
journal_word_in = option_and_then journal_word_at

-- what `journal` asks for, from its two texts
abbrev pub journal_asked_by : Option Text → Option Text → Option Asked
journal_asked_by what folder = option_and_then (λ w. option_map (journal w) folder) (journal_word_in what)

-- what the values of `journal` ask for
abbrev pub journal_asked : List Row → Option Asked
journal_asked rows = journal_asked_by (first_of (codes "WHAT") rows) (first_of (codes "DIR") rows)

-- what a subcommand and its values ask for; without one, `sim` without a file
abbrev pub asked_of : Option (Text × List Row) → Option Asked
asked_of None = Some (sim None)
asked_of (Some met) =
    if bytes_eq met.0 (codes "sim") then Some (sim (first_of (codes "FILE") met.1))
    else (if bytes_eq met.0 (codes "check-lines") then lines_asked met.1
    else (if bytes_eq met.0 (codes "serve") then serve_asked met.1
    else (if bytes_eq met.0 (codes "node") then node_asked met.1
    else (if bytes_eq met.0 (codes "journal") then journal_asked met.1 else None))))

-- what words ask for, if clap finds no fault in them
abbrev pub asked_at : List Text → Option Asked
asked_at words =
    if is_empty (fault_of program_app words) then asked_of (subcommand_of program_app words) else None

-- the words ask for this
abbrev pub AskFor : List Text → Asked → Type 0
AskFor words asked = asked_at words ≡ Some asked

-- the words are refused
abbrev pub AskForNothing : List Text → Type 0
AskForNothing words = asked_at words ≡ None
