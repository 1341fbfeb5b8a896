-- Names that were listed, and the frame of them.
use Rattle.std.proofs.Common.{◌≡◌, ℕ, ◌≤◌, true, List, [], ◌∷◌, ◌++◌, length, map, Option, None, Some, is_some, sym, ap, ◌∙◌, arith}
use Rattle.std.specs.List.{last_or}
use Rattle.std.specs.Option.{option_map, option_to_list}
use Rattle.std.proofs.lemmas.List.{map_push}
use Rattle.rr_delta.specs.declared.name.Name.{Name}
use Rattle.rr_delta.specs.Names.{owned_name}
use Rattle.rr_gossip.specs.declared.frame.Kind.TheVariants as kind
use Rattle.rr_gossip.specs.declared.puller.Stage.TheVariants.{Listing}
use Rattle.rr_gossip.specs.Frame.{frame_text}
use Rattle.rr_gossip.specs.Puller.{as_name, last_listed, names_sent}
use Rattle.rr_gossip.specs.Summary.{summary_text}
use Rattle.rr_gossip.proofs.SummaryLemmas.{last_push}

-- the name that is taken off the end is the last
pub popped_is : (prefix : List Name) (popped : Option Name) → is_some popped ≡ true
    → last_listed (map owned_name (prefix ++ option_to_list popped)) ≡ popped
popped_is prefix None e = absurd cc
popped_is prefix (Some n) e = ap (λ vs. option_map as_name (last_or None vs)) (map_push owned_name prefix n)
    ∙ ap (option_map as_name) (last_push None (map owned_name prefix) (owned_name n))

pub listed_is : (names : List Name) (popped : Option Name) (frame : List ℕ) → 1 ≤ length names
    → last_listed (map owned_name names) ≡ popped → frame
    ≡ frame_text kind.Summary (summary_text (map owned_name names))
    → (Listing popped, frame) ≡ names_sent (map owned_name names)
listed_is [] popped frame some last is = absurd (omega arith)
listed_is (n ∷ names) popped frame some last is = λ i. (Listing (sym last i), is i)
