-- Keys that occur twice, in a list of entries that grows.
use Rattle.std.proofs.Common.{◌≡◌, ℕ, true, false, List, [], ◌∷◌, ◌++◌, ap, ◌∙◌}
use Rattle.std.proofs.lemmas.List.{map-append, append_assoc}
use Rattle.std.specs.Map.{keys_of}
use Rattle.rr_text.proofs.RepeatLemmas.{has_repeat-again, has_repeat-new}
use Rattle.rr_text.specs.Bytes.{has_repeat}
use Rattle.rr_line.specs.Gathering.{repeats_key}
use Rattle.rr_line.specs.Tag.{has_key}

keys-append : {X : Type 0} (before more : List (List ℕ × X)) → keys_of (before ++ more) ≡ keys_of before ++ keys_of more
keys-append {X} before more = map-append (λ (entry : List ℕ × X). entry.0) before more

-- an entry whose key occurs before it makes a repeat, whatever follows it
pub repeats_key-again : {X : Type 0} (before more : List (List ℕ × X)) (entry : List ℕ × X)
    → has_key before entry.0 ≡ true → repeats_key ((before ++ entry ∷ []) ++ more) ≡ true
repeats_key-again before more entry h =
    ap repeats_key (append_assoc before (entry ∷ []) more) ∙ ap has_repeat (keys-append before (entry ∷ more))
    ∙ has_repeat-again (keys_of before) (keys_of more) entry.0 h

-- an entry with a new key makes none
pub repeats_key-new : {X : Type 0} (before : List (List ℕ × X)) (entry : List ℕ × X) → repeats_key before ≡ false
    → has_key before entry.0 ≡ false → repeats_key (before ++ entry ∷ []) ≡ false
repeats_key-new before entry h new = ap has_repeat (keys-append before (entry ∷ []))
    ∙ has_repeat-new (keys_of before) entry.0 h new
