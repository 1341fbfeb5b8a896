-- A key text is that of one series, and tags in any order make one series.
use Rattle.std.proofs.Common.{◌≡◌, ℕ, true, false, List, [], ◌∷◌, ◌++◌, get_or, drop, refl, sym, ap, ◌∙◌, arith}
use Rattle.std.specs.List.{list_all}
use Rattle.std.specs.List.Sorted.{IsPermutation}
use Rattle.std.specs.FinMap.{from_entries, entries, same_map, same_entries_map, get-from_entries}
use Rattle.std.proofs.lemmas.Cmp.{nat_list_cmp_total}
use Rattle.rr_key.specs.declared.class.Class.TheVariants.{Measurement, Other}
use Rattle.std.specs.Map.{keys_of}
use Rattle.rr_text.specs.Bytes.{has_repeat}
use Rattle.rr_key.specs.Name.{is_name}
use Rattle.rr_key.specs.Series.{bytes_cmp, Tags, Series, is_tag, tail_text, key_text, IsSeries}
use Rattle.rr_key.specs.Unit.{escape, unescape}
use Rattle.rr_key.proofs.EscapeLemmas.{both_true, unescape-escape}
use Rattle.rr_key.proofs.NameLemmas.{same_names}
use Rattle.rr_key.proofs.TailLemmas.{tail_divides, tail_text-cons}
use Rattle.rr_key.proofs.OrderLemmas.{Tag, same_key, find-IsPermutation}

same_tails : (tags others : List Tag) (field last : List ℕ) → list_all is_tag tags ≡ true
    → list_all is_tag others ≡ true → tail_text tags field ≡ tail_text others last → (tags ≡ others) × (field ≡ last)
same_tails [] [] field last h i e =
    let written : escape Other field ≡ escape Other last = ap (drop 1) e in
    (refl, sym (unescape-escape Other field) ∙ ap (unescape Other) written ∙ unescape-escape Other last)
same_tails [] (other ∷ others) field last h i e =
    let heads : ◌≡◌ {A = ℕ} 32 44 = ap (λ (l : List ℕ). get_or l 0 0) e in
    absurd (omega arith)
same_tails (tag ∷ tags) [] field last h i e =
    let heads : ◌≡◌ {A = ℕ} 44 32 = ap (λ (l : List ℕ). get_or l 0 0) e in
    absurd (omega arith)
same_tails (tag ∷ tags) (other ∷ others) field last h i e =
    let left = both_true (is_tag tag) (list_all is_tag tags) h in
    let right = both_true (is_tag other) (list_all is_tag others) i in
    let names = both_true (is_name tag.0) (is_name tag.1) left.0 in
    let others_names = both_true (is_name other.0) (is_name other.1) right.0 in
    let text = ap (drop 1) (sym (tail_text-cons tag tags field) ∙ e ∙ tail_text-cons other others last) in
    let keys = same_names Other tag.0 other.0 (61 ∷ (escape Other tag.1 ++ tail_text tags field))
    (61 ∷ (escape Other other.1 ++ tail_text others last)) names.0 others_names.0 refl refl text in
    let values = same_names Other tag.1 other.1 (tail_text tags field) (tail_text others last) names.1 others_names.1
    (tail_divides Other tags field) (tail_divides Other others last) (ap (drop 1) keys.1) in
    let rest = same_tails tags others field last left.1 right.1 values.1 in
    ((λ i. (keys.0 i, values.0 i) ∷ rest.0 i), rest.1)

-- two series with one key text are one
pub same_series : (s t : Series) → IsSeries s → IsSeries t → key_text s ≡ key_text t → s ≡ t
same_series s t h i e =
    let first = same_names Measurement s.measurement t.measurement (tail_text (entries s.tags) s.field)
    (tail_text (entries t.tags) t.field) h.measurement i.measurement
    (tail_divides Measurement (entries s.tags) s.field) (tail_divides Measurement (entries t.tags) t.field) e in
    let rest = same_tails (entries s.tags) (entries t.tags) s.field t.field h.tags i.tags first.1 in
    let tags = same_entries_map s.tags t.tags rest.0 in
    λ i. record { measurement = first.0 i; tags = tags i; field = rest.1 i }

-- tags make one map in any order
pub same_tags : (tags others : List Tag) → IsPermutation tags others → has_repeat (keys_of tags) ≡ false
    → from_entries {R = bytes_cmp} tags ≡ from_entries others
same_tags tags others p h =
    let left : Tags = from_entries tags in
    let right : Tags = from_entries others in
    same_map nat_list_cmp_total same_key left right (λ q.
    get-from_entries nat_list_cmp_total tags q ∙ find-IsPermutation tags others p h q
    ∙ sym (get-from_entries nat_list_cmp_total others q))
