-- How long the text of tags is, in the order of their keys as in any other.
use Rattle.std.proofs.Common.{◌≡◌, ℕ, ◌+◌, false, cond, List, [], ◌∷◌, length, length-append, Some, None, refl, sym, ap, ◌∙◌, arith}
use Rattle.std.proofs.lemmas.Bool.{or_parts}
use Rattle.std.proofs.lemmas.Cmp.{nat_list_cmp_total}
use Rattle.std.specs.FinMap.{entries, from_entries, empty, find, put, get-entries, get-from_entries, entries-insert, len-entries, len-empty}
use Rattle.std.specs.FinMap.Entries.{by_order}
use Rattle.std.specs.List.{flat_map}
use Rattle.std.specs.Ordering.{is_eq}
use Rattle.std.specs.declared.cmp.Ordering.{Ordering}
use Rattle.std.specs.declared.cmp.Ordering.TheVariants.{Less, Equal, Greater}
use Rattle.std.specs.Map.{keys_of}
use Rattle.rr_text.proofs.RepeatLemmas.{differ_turned}
use Rattle.rr_text.specs.Bytes.{bytes_cmp, is_among, has_repeat}
use Rattle.rr_key.specs.Series.{tag_text}

abbrev Pair : Type 0
Pair = List ℕ × List ℕ

abbrev pub size : List Pair → ℕ
size tags = length (flat_map tag_text tags)

size-cons : (tag : Pair) (tags : List Pair) → size (tag ∷ tags) ≡ length (tag_text tag) + size tags
size-cons tag tags = length-append (tag_text tag) (flat_map tag_text tags)

-- a key that is not there finds nothing
not_found : (key : List ℕ) (tags : List Pair) → is_among key (keys_of tags) ≡ false → find bytes_cmp key tags ≡ None
not_found key [] h = refl
not_found key (tag ∷ tags) h =
    let parts = or_parts (is_eq (bytes_cmp tag.0 key)) (is_among key (keys_of tags)) h in
    rw (differ_turned tag.0 key parts.0, not_found key tags parts.1) refl

-- a new tag takes its place, and those that are there stay
size-put : (key value : List ℕ) (tags : List Pair) → find bytes_cmp key tags ≡ None
    → size (put bytes_cmp key value tags) ≡ length (tag_text (key, value)) + size tags
size-put key value [] h = size-cons (key, value) []
size-put key value (tag ∷ tags) h =
    go (bytes_cmp key tag.0) h (size-put key value tags)
  where
    go : (o : Ordering) → cond (is_eq o) (Some tag.1) (find bytes_cmp key tags) ≡ None
        → (find bytes_cmp key tags ≡ None → size (put bytes_cmp key value tags) ≡ length (tag_text (key, value))
        + size tags)
        → size (by_order o ((key, value) ∷ tag ∷ tags) ((tag.0, value) ∷ tags) (tag ∷ put bytes_cmp key value tags))
        ≡ length (tag_text (key, value)) + size (tag ∷ tags)
    go Less e later = size-cons (key, value) (tag ∷ tags)
    go Equal e later = absurd cc
    go Greater e later = omega (arith, size-cons tag (put bytes_cmp key value tags), later e, size-cons tag tags)

no_items : (tags : List Pair) → length tags ≡ 0 → tags ≡ []
no_items [] e = refl
no_items (tag ∷ tags) e = absurd (omega arith)

no_entries : entries (empty {X = List ℕ} {R = bytes_cmp}) ≡ []
no_entries = no_items _ (sym (len-entries empty) ∙ len-empty bytes_cmp (List ℕ))

-- tags whose keys differ are as long in the order of their keys
pub size-entries : (tags : List Pair) → has_repeat (keys_of tags) ≡ false
    → size (entries (from_entries {R = bytes_cmp} tags)) ≡ size tags
size-entries [] h = ap size no_entries
size-entries (tag ∷ tags) h =
    let parts = or_parts (is_among tag.0 (keys_of tags)) (has_repeat (keys_of tags)) h in
    let missing : find bytes_cmp tag.0 (entries (from_entries {R = bytes_cmp} tags)) ≡ None =
    sym (get-entries (from_entries tags) tag.0) ∙ get-from_entries nat_list_cmp_total tags tag.0
    ∙ not_found tag.0 tags parts.0 in
    ap size (entries-insert nat_list_cmp_total (from_entries tags) tag.0 tag.1)
    ∙ size-put tag.0 tag.1 (entries (from_entries tags)) missing
    ∙ ap (λ (n : ℕ). length (tag_text tag) + n) (size-entries tags parts.1) ∙ sym (size-cons tag tags)
