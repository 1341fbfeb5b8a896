-- Going over the tables of an array, one after the other.
use Rattle.std.proofs.Common.{◌≡◌, ℕ, ◌+◌, ◌<◌, ◌≤◌, List, [], ◌∷◌, ◌++◌, length, get_or, drop, Some, None, Result, Ok, Err, refl, sym, ap, ◌∙◌, append_assoc}
use Rattle.std.proofs.lemmas.List.{append-nil}
use Rattle.std.proofs.Math.ListN.{drop_of_length-le}
use Rattle.toml.specs.Data.{Items, item, Members, as_table}
use Rattle.toml.specs.View.{view, items_view}
use Rattle.toml.specs.declared.value.Value.{Value}
use Rattle.toml.proofs.Views.{items_view-drop}
use Rattle.rr_schema.specs.declared.archive.ArchiveSpec.{ArchiveSpec}
use Rattle.rr_schema.specs.declared.fault.SchemaFault.{SchemaFault}
use Rattle.rr_schema.specs.declared.fault.SchemaFault.TheVariants.{WrongKind}
use Rattle.rr_document.specs.Document.{archive_in, archives_in}
use Rattle.rr_text.specs.Results.{◌>>=◌}

-- the archives so far, and those of the tables that are left
abbrev pub with_prefix : List ArchiveSpec → Result (List ArchiveSpec) SchemaFault
    → Result (List ArchiveSpec) SchemaFault
with_prefix prefix rest = rest >>= λ archives. Ok (prefix ++ archives)

pub next_value : (vs : List Value) (i : ℕ) (v : Value) → i < length vs → v ≡ get_or vs i v
    → items_view (drop i vs) ≡ item (view v) (items_view (drop (i + 1) vs))
next_value vs i v lt is = items_view-drop vs i v lt
    ∙ ap (λ (x : Value). item (view x) (items_view (drop (i + 1) vs))) (sym is)

-- the archives from a value on that is a table
at_table : (v : Value) (ds : Items) (ms : Members) → Some ms ≡ as_table (view v)
    → archives_in (item (view v) ds) ≡ (archive_in ms >>= λ a. archives_in ds >>= λ rest. Ok (a ∷ rest))
unfolding archives_in
at_table v ds ms e = rw (← e) refl

pub no_table : (prefix : List ArchiveSpec) (v : Value) (ds : Items) (all : Result (List ArchiveSpec) SchemaFault)
    → None ≡ as_table (view v) → with_prefix prefix (archives_in (item (view v) ds)) ≡ all → all ≡ Err WrongKind
unfolding archives_in
no_table prefix v ds all e h = sym h ∙ rw (← e) refl

pub no_archive : (prefix : List ArchiveSpec) (v : Value) (ds : Items) (ms : Members) (fault : SchemaFault)
    (all : Result (List ArchiveSpec) SchemaFault) → Some ms ≡ as_table (view v) → Err fault ≡ archive_in ms
    → with_prefix prefix (archives_in (item (view v) ds)) ≡ all → all ≡ Err fault
no_archive prefix v ds ms fault all is bad h = sym h ∙ ap (with_prefix prefix) (at_table v ds ms is) ∙ rw (← bad) refl

regroup : (prefix : List ArchiveSpec) (a : ArchiveSpec) (rest : Result (List ArchiveSpec) SchemaFault)
    → with_prefix prefix (rest >>= λ archives. Ok (a ∷ archives)) ≡ with_prefix (prefix ++ a ∷ []) rest
regroup prefix a (Ok xs) = ap (λ (ys : List ArchiveSpec). Ok ys) (sym (append_assoc prefix (a ∷ []) xs))
regroup prefix a (Err fault) = refl

pub one_more_archive : (prefix : List ArchiveSpec) (v : Value) (ds : Items) (ms : Members) (a : ArchiveSpec)
    (all : Result (List ArchiveSpec) SchemaFault) → Some ms ≡ as_table (view v) → Ok a ≡ archive_in ms
    → with_prefix prefix (archives_in (item (view v) ds)) ≡ all → with_prefix (prefix ++ a ∷ []) (archives_in ds) ≡ all
one_more_archive prefix v ds ms a all is read h =
    sym (regroup prefix a (archives_in ds)) ∙ sym (ap (with_prefix prefix) (at_table v ds ms is) ∙ rw (← read) refl) ∙ h

pub no_more : (prefix : List ArchiveSpec) (vs : List Value) (i : ℕ) (all : Result (List ArchiveSpec) SchemaFault)
    → length vs ≤ i → with_prefix prefix (archives_in (items_view (drop i vs))) ≡ all → all ≡ Ok prefix
unfolding archives_in
no_more prefix vs i all le h = sym h ∙ rw (drop_of_length-le vs le)
    (ap (λ (xs : List ArchiveSpec). Ok xs) (append-nil prefix))
