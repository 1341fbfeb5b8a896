-- What clap finds and what it refuses, as what words ask for.
use Rattle.std.proofs.Common.{◌≡◌, true, false, eqb, List, [], ◌∷◌, length, arith, Option, None, refl, subst, sym, ap, ◌∙◌}
use Rattle.std.specs.Prelude.{if◌then◌else◌}
use Rattle.std.proofs.lemmas.Bool.{ne_eqb}
use Rattle.clap.specs.Walk.{Row, Text, is_empty}
use Rattle.clap.specs.Words.{App, HasMatchesOf, IsAmong, Kinds, fault_of, is_simple, is_simple_and_free, subcommand_of, subcommand_rows_of}
use Rattle.clap.specs.declared.error.kind.ErrorKind.{ErrorKind}
use Rattle.clap.specs.declared.parser.matches.ArgMatches.{ArgMatches}
use Rattle.rr_command_line.specs.Program.{program_app}
use Rattle.rr_words.specs.Words.{asked_at, asked_of}

taken : (faults : Kinds) (met : Option (Text × List Row)) → faults ≡ []
    → (if is_empty faults then asked_of met else None) ≡ asked_of met
taken [] met none = refl
taken (kind ∷ faults) met none = absurd cc

refused : (faults : Kinds) (met : Option (Text × List Row)) (kind : ErrorKind) → IsAmong kind faults
    → (if is_empty faults then asked_of met else None) ≡ None
refused [] met kind h = absurd h
refused (first ∷ faults) met kind h =
    let some : eqb (length (first ∷ faults)) 0 ≡ false =
    ne_eqb (length (first ∷ faults)) 0 (λ e. absurd (omega arith)) in
    rw some refl

program_is_simple : is_simple program_app ≡ true
program_is_simple = refl

program_is_free : is_simple_and_free program_app ≡ true
program_is_free = refl

-- words that clap takes ask for what their matches do
pub asked_at-matches : (app : App) (words : List Text) (matches : ArgMatches) → app ≡ program_app
    → (is_simple_and_free app ≡ true → fault_of app words ≡ []) → HasMatchesOf app words matches
    → asked_at words ≡ asked_of (subcommand_rows_of matches)
asked_at-matches app words matches is kinds has =
    let none : fault_of program_app words ≡ [] = subst
    (λ (a : App). is_simple_and_free a ≡ true → fault_of a words ≡ []) is kinds program_is_free in
    let met : subcommand_rows_of matches ≡ subcommand_of program_app words =
    (subst (λ (a : App). HasMatchesOf a words matches) is has program_is_simple).1 in
    taken (fault_of program_app words) (subcommand_of program_app words) none ∙ ap asked_of (sym met)

-- words in which clap finds a fault ask for nothing
pub asked_at-refused : (app : App) (words : List Text) (kind : ErrorKind) → app ≡ program_app
    → (is_simple_and_free app ≡ true → IsAmong kind (fault_of app words)) → asked_at words ≡ None
asked_at-refused app words kind is kinds =
    refused (fault_of program_app words) (subcommand_of program_app words) kind
    (subst (λ (a : App). is_simple_and_free a ≡ true → IsAmong kind (fault_of a words)) is kinds program_is_free)
