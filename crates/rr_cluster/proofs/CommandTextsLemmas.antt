-- How each command is read from its words, one word too many, and that a line's command writes one line.
use Rattle.std.proofs.Common.{◌≡◌, ℕ, false, eqb, List, [], ◌∷◌, None, Some, IfSome, option_map, refl, sym, ap, ◌∙◌}
use Rattle.std.specs.List.{list_any}
use Rattle.std.proofs.lemmas.Bool.{or_parts}
use Rattle.std.proofs.lemmas.List.Folds.{list_any-append}
use Rattle.rr_text.specs.Bytes.{HasNoLineFeed}
use Rattle.rr_text.specs.Text.{cut_at}
use Rattle.rr_text.specs.declared.bytes.TheConstants.{LINE_FEED, SPACE}
use Rattle.rr_fetch.specs.Words.{words_of as request_words}
use Rattle.rr_cluster.specs.Command.{write, fetch, IsOneLine}
use Rattle.rr_cluster.specs.CommandTexts.{schema_command, upgrade_command, node_command, now_command, write_command, page_command, delta_command, deliver_command, bytes_command, save_command, load_command, fetch_command}
use Rattle.rr_cluster.specs.ScriptWords.{are_three, text_of, words_of}
use Rattle.rr_cluster.proofs.ScriptWordsLemmas.{Cuts, cut_parts, some_parts, text_of-words}

-- ---- schema

pub schema_is_one_line : (words : List (List ℕ)) → IfSome (schema_command words) IsOneLine
schema_is_one_line [] = tt
schema_is_one_line (step ∷ archives) = tt

-- ---- node

-- two words are too many
pub node_command-more : (name origin rest : List ℕ) → node_command (name ∷ origin ∷ words_of rest) ≡ None
node_command-more name origin rest = let some = some_parts SPACE rest in rw some.2 refl

pub node_is_one_line : (words : List (List ℕ)) → IfSome (node_command words) IsOneLine
node_is_one_line [] = tt
node_is_one_line (name ∷ []) = tt
node_is_one_line (name ∷ origin ∷ []) = tt
node_is_one_line (name ∷ origin ∷ more ∷ rest) = tt

-- ---- now

-- three words are too many
pub now_command-more : (time lead rest : List ℕ) → now_command (time ∷ lead ∷ words_of rest) ≡ None
now_command-more time lead rest = let some = some_parts SPACE rest in rw some.2 refl

pub now_is_one_line : (words : List (List ℕ)) → IfSome (now_command words) IsOneLine
now_is_one_line [] = tt
now_is_one_line (time ∷ []) = tt
now_is_one_line (time ∷ lead ∷ []) = tt
now_is_one_line (time ∷ lead ∷ more ∷ rest) = tt

-- ---- write

pub write_command-rest : (name line : List ℕ) → write_command (name ∷ words_of line) ≡ Some (write name line)
write_command-rest name line =
    let some = some_parts SPACE line in
    rw some.2 (ap (λ (l : List ℕ). Some (write name l)) (text_of-words line some.0 some.1 some.2))

-- the words after the first
rest_has_none : (first second : List ℕ) (rest : List (List ℕ)) → HasNoLineFeed (text_of (first ∷ second ∷ rest))
    → HasNoLineFeed (text_of (second ∷ rest))
rest_has_none first second rest none =
    let after = text_of (second ∷ rest) in
    let halves = or_parts (list_any (λ byte. eqb byte LINE_FEED) first)
    (list_any (λ byte. eqb byte LINE_FEED) (SPACE ∷ after))
    (sym (list_any-append (λ byte. eqb byte LINE_FEED) first (SPACE ∷ after)) ∙ none) in
    (or_parts (eqb SPACE LINE_FEED) (list_any (λ byte. eqb byte LINE_FEED) after) halves.1).1

pub write_is_one_line : (name : List ℕ) (words : List (List ℕ)) → HasNoLineFeed (text_of (name ∷ words))
    → IfSome (write_command words) IsOneLine
write_is_one_line name [] none = tt
write_is_one_line name (node ∷ []) none = tt
write_is_one_line name (node ∷ line ∷ rest) none =
    rest_has_none node line rest (rest_has_none name node (line ∷ rest) none)

-- ---- page

-- three words follow the name
pub page_command-none : (name : List ℕ) (words : List (List ℕ)) → are_three words ≡ false
    → page_command (name ∷ words) ≡ None
page_command-none name [] other = refl
page_command-none name (a ∷ []) other = refl
page_command-none name (a ∷ b ∷ []) other = refl
page_command-none name (a ∷ b ∷ c ∷ []) other = (cc)
page_command-none name (a ∷ b ∷ c ∷ d ∷ rest) other = refl

pub page_is_one_line : (words : List (List ℕ)) → IfSome (page_command words) IsOneLine
page_is_one_line [] = tt
page_is_one_line (a ∷ []) = tt
page_is_one_line (a ∷ b ∷ []) = tt
page_is_one_line (a ∷ b ∷ c ∷ []) = tt
page_is_one_line (a ∷ b ∷ c ∷ d ∷ []) = tt
page_is_one_line (a ∷ b ∷ c ∷ d ∷ e ∷ rest) = tt

-- ---- delta

-- three words follow the name and the giver
pub delta_command-none : (name giver : List ℕ) (words : List (List ℕ)) → are_three words ≡ false
    → delta_command (name ∷ giver ∷ words) ≡ None
delta_command-none name giver [] other = refl
delta_command-none name giver (a ∷ []) other = refl
delta_command-none name giver (a ∷ b ∷ []) other = refl
delta_command-none name giver (a ∷ b ∷ c ∷ []) other = (cc)
delta_command-none name giver (a ∷ b ∷ c ∷ d ∷ rest) other = refl

pub delta_is_one_line : (words : List (List ℕ)) → IfSome (delta_command words) IsOneLine
delta_is_one_line [] = tt
delta_is_one_line (a ∷ []) = tt
delta_is_one_line (a ∷ b ∷ []) = tt
delta_is_one_line (a ∷ b ∷ c ∷ []) = tt
delta_is_one_line (a ∷ b ∷ c ∷ d ∷ []) = tt
delta_is_one_line (a ∷ b ∷ c ∷ d ∷ e ∷ []) = tt
delta_is_one_line (a ∷ b ∷ c ∷ d ∷ e ∷ f ∷ rest) = tt

-- ---- deliver

-- three words are too many
pub deliver_command-more : (name node rest : List ℕ) → deliver_command (name ∷ node ∷ words_of rest) ≡ None
deliver_command-more name node rest = let some = some_parts SPACE rest in rw some.2 refl

pub deliver_is_one_line : (words : List (List ℕ)) → IfSome (deliver_command words) IsOneLine
deliver_is_one_line [] = tt
deliver_is_one_line (name ∷ []) = tt
deliver_is_one_line (name ∷ node ∷ []) = tt
deliver_is_one_line (name ∷ node ∷ more ∷ rest) = tt

-- ---- upgrade

-- two words are too many
pub upgrade_command-more : (archive rest : List ℕ) → upgrade_command (archive ∷ words_of rest) ≡ None
upgrade_command-more archive rest = let some = some_parts SPACE rest in rw some.2 refl

pub upgrade_is_one_line : (words : List (List ℕ)) → IfSome (upgrade_command words) IsOneLine
upgrade_is_one_line [] = tt
upgrade_is_one_line (archive ∷ []) = tt
upgrade_is_one_line (archive ∷ more ∷ rest) = tt

-- ---- bytes

-- two words are too many
pub bytes_command-more : (name rest : List ℕ) → bytes_command (name ∷ words_of rest) ≡ None
bytes_command-more name rest = let some = some_parts SPACE rest in rw some.2 refl

pub bytes_is_one_line : (words : List (List ℕ)) → IfSome (bytes_command words) IsOneLine
bytes_is_one_line [] = tt
bytes_is_one_line (name ∷ []) = tt
bytes_is_one_line (name ∷ more ∷ rest) = tt

-- ---- save

-- three words are too many
pub save_command-more : (name node rest : List ℕ) → save_command (name ∷ node ∷ words_of rest) ≡ None
save_command-more name node rest = let some = some_parts SPACE rest in rw some.2 refl

pub save_is_one_line : (words : List (List ℕ)) → IfSome (save_command words) IsOneLine
save_is_one_line [] = tt
save_is_one_line (name ∷ []) = tt
save_is_one_line (name ∷ node ∷ []) = tt
save_is_one_line (name ∷ node ∷ more ∷ rest) = tt

-- ---- load

pub load_command-none : (words : List (List ℕ)) → are_three words ≡ false → load_command words ≡ None
load_command-none [] other = refl
load_command-none (a ∷ []) other = refl
load_command-none (a ∷ b ∷ []) other = refl
load_command-none (a ∷ b ∷ c ∷ []) other = (cc)
load_command-none (a ∷ b ∷ c ∷ d ∷ rest) other = refl

pub load_is_one_line : (words : List (List ℕ)) → IfSome (load_command words) IsOneLine
load_is_one_line [] = tt
load_is_one_line (name ∷ []) = tt
load_is_one_line (name ∷ node ∷ []) = tt
load_is_one_line (name ∷ node ∷ origin ∷ []) = tt
load_is_one_line (name ∷ node ∷ origin ∷ more ∷ rest) = tt

-- ---- fetch

with_key : (name function resolution start end key : List ℕ)
    → fetch_command (name ∷ function ∷ resolution ∷ start ∷ end ∷ words_of key)
    ≡ Some (fetch name (record {
      function = function;
      resolution = resolution;
      start = start;
      end = end;
      key =
          key;
    }))
with_key name function resolution start end key =
    let some = some_parts SPACE key in
    rw some.2 (ap (λ (k : List ℕ). Some (fetch name
    (record { function = function; resolution = resolution; start = start; end = end; key = k })))
    (text_of-words key some.0 some.1 some.2))

abbrev IsRead : List ℕ → List ℕ → Type 0
IsRead name rest = fetch_command (name ∷ words_of rest) ≡ option_map (fetch name) (request_words rest)

-- the words after the node are those of a request
pub fetch_command-rest : (name rest : List ℕ) → IsRead name rest
unfolding request_words
fetch_command-rest name rest =
    elim (cut_at SPACE rest) as (λ cut. cut_at SPACE rest ≡ cut → Cuts SPACE rest cut → IsRead name rest) [
      | None ↦ λ e h. rw (e, h) refl
      | Some a ↦ λ e h. elim (cut_at SPACE a.1) as (λ cut. cut_at SPACE a.1 ≡ cut → Cuts SPACE a.1 cut
          → IsRead name rest) [
            | None ↦ λ f i. rw (e, h, f, i) refl
            | Some b ↦ λ f i. elim (cut_at SPACE b.1) as
                (λ cut. cut_at SPACE b.1 ≡ cut → Cuts SPACE b.1 cut → IsRead name rest) [
                  | None ↦ λ g j. rw (e, h, f, i, g, j) refl
                  | Some c ↦ λ g j. elim (cut_at SPACE c.1) as
                      (λ cut. cut_at SPACE c.1 ≡ cut → Cuts SPACE c.1 cut → IsRead name rest) [
                        | None ↦ λ k l. rw (e, h, f, i, g, j, k, l) refl
                        | Some d ↦ λ k l. rw (e, h, f, i, g, j, k, l) (with_key name a.0 b.0 c.0 d.0 d.1)
                      ] refl (cut_parts SPACE c.1)
                ] refl (cut_parts SPACE b.1)
          ] refl (cut_parts SPACE a.1)
    ] refl (cut_parts SPACE rest)

pub fetch_is_one_line : (words : List (List ℕ)) → IfSome (fetch_command words) IsOneLine
fetch_is_one_line [] = tt
fetch_is_one_line (a ∷ []) = tt
fetch_is_one_line (a ∷ b ∷ []) = tt
fetch_is_one_line (a ∷ b ∷ c ∷ []) = tt
fetch_is_one_line (a ∷ b ∷ c ∷ d ∷ []) = tt
fetch_is_one_line (a ∷ b ∷ c ∷ d ∷ e ∷ []) = tt
fetch_is_one_line (a ∷ b ∷ c ∷ d ∷ e ∷ f ∷ rest) = tt
