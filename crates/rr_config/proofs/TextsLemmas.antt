-- Going over the texts of an array, one after the other.
use Rattle.std.proofs.Common.{◌≡◌, ℕ, ◌+◌, ◌<◌, ◌≤◌, List, [], ◌∷◌, ◌++◌, length, get_or, drop, Result, Ok, Err, refl, sym, ap, ◌∙◌, append_assoc}
use Rattle.std.proofs.lemmas.List.{append-nil}
use Rattle.std.proofs.Math.ListN.{drop_of_length-le}
use Rattle.toml.specs.Data.{Items, item}
use Rattle.toml.specs.View.{view, items_view}
use Rattle.toml.specs.declared.value.Value.{Value}
use Rattle.toml.proofs.Views.{items_view-drop}
use Rattle.rr_text.specs.Results.{◌>>=◌}
use Rattle.rr_config.specs.declared.fault.ConfigFault.{ConfigFault}
use Rattle.rr_config.specs.Values.{text_of, texts_in}

abbrev pub Texts : Type 0
Texts = List (List ℕ)

-- the texts so far, and those of the values that are left
abbrev pub with_prefix : Texts → Result Texts ConfigFault → Result Texts ConfigFault
with_prefix prefix rest = rest >>= λ texts. Ok (prefix ++ texts)

pub next_value : (vs : List Value) (i : ℕ) (v : Value) → i < length vs → v ≡ get_or vs i v
    → items_view (drop i vs) ≡ item (view v) (items_view (drop (i + 1) vs))
next_value vs i v lt is = items_view-drop vs i v lt
    ∙ ap (λ (x : Value). item (view x) (items_view (drop (i + 1) vs))) (sym is)

pub no_text : (prefix : Texts) (v : Value) (ds : Items) (fault : ConfigFault) (all : Result Texts ConfigFault)
    → text_of (view v) ≡ Err fault → with_prefix prefix (texts_in (item (view v) ds)) ≡ all → all ≡ Err fault
unfolding texts_in
no_text prefix v ds fault all bad h = sym h ∙ rw bad refl

regroup : (prefix : Texts) (text : List ℕ) (rest : Result Texts ConfigFault)
    → with_prefix prefix (rest >>= λ texts. Ok (text ∷ texts)) ≡ with_prefix (prefix ++ text ∷ []) rest
regroup prefix text (Ok texts) = ap (λ (ys : Texts). Ok ys) (sym (append_assoc prefix (text ∷ []) texts))
regroup prefix text (Err fault) = refl

pub one_more_text : (prefix : Texts) (v : Value) (ds : Items) (text : List ℕ) (all : Result Texts ConfigFault)
    → text_of (view v) ≡ Ok text → with_prefix prefix (texts_in (item (view v) ds)) ≡ all
    → with_prefix (prefix ++ text ∷ []) (texts_in ds) ≡ all
unfolding texts_in
one_more_text prefix v ds text all read h = sym (regroup prefix text (texts_in ds)) ∙ sym (rw read refl) ∙ h

pub no_more : (prefix : Texts) (vs : List Value) (i : ℕ) (all : Result Texts ConfigFault) → length vs ≤ i
    → with_prefix prefix (texts_in (items_view (drop i vs))) ≡ all → all ≡ Ok prefix
unfolding texts_in
no_more prefix vs i all le h = sym h ∙ rw (drop_of_length-le vs le) (ap (λ (xs : Texts). Ok xs) (append-nil prefix))
