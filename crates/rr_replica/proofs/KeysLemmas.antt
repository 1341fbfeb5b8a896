-- The first cell after the greatest name of a key is the first of a key behind it, and the keys from there on.
use Rattle.std.proofs.Common.{◌≡◌, ℕ, ℤ, zero, suc, ◌+◌, ◌-◌, ◌<◌, ◌≤◌, Bool, cond, List, [], ◌∷◌, ◌++◌, length, refl, sym, ap, ◌∙◌, Option, Some, None, Ordering, Less, Equal, Greater, int_cmp, nat_cmp, arith, append_assoc, append-nil, slice_get}
use Rattle.std.specs.List.{AllByRecursion, find}
use Rattle.std.specs.Ordering.{ordering_then, is_lt}
use Rattle.std.specs.FinMap.{entries}
use Rattle.std.proofs.lemmas.Bool.Decides.{nat_tests}
use Rattle.rr_text.specs.declared.limits.TheConstants.{MAX_ARCHIVES}
use Rattle.rr_text.specs.Bytes.{bytes_cmp}
use Rattle.rr_schema.specs.Schema.{Layout}
use Rattle.rr_cells.specs.CellNames.{CellName, cell_name_cmp}
use Rattle.rr_cells.specs.CellBounds.{NamedCell, IsCellOf}
use Rattle.rr_cells.specs.ReplicaState.{IsReplicaState, ReplicaState}
use Rattle.rr_cells.specs.Listing.{cell_name, next_cell}
use Rattle.rr_cells.proofs.HeldCells.{all_held}
use Rattle.rr_replica.specs.Keys.{first_behind, keys_from}

past_archive : (a b : ℕ) → b < a → nat_cmp a b ≡ Greater
past_archive a b lt = grind (arith, nat_tests)

-- an archive past all decides between cells of one key
by_key : (a b : Ordering) → is_lt (ordering_then a (ordering_then Greater b)) ≡ is_lt a
by_key Less b = refl
by_key Equal b = refl
by_key Greater b = refl

same_test : (n : CellName) (s : Layout) (e : NamedCell) → length s.archives ≤ n.archive → IsCellOf s e
    → is_lt (cell_name_cmp n e.0) ≡ is_lt (bytes_cmp n.key e.0.key)
same_test n s e most cell =
    let rest = ordering_then (int_cmp n.slot e.0.slot) (nat_cmp n.origin e.0.origin) in
    ap (λ o. is_lt (ordering_then (bytes_cmp n.key e.0.key) (ordering_then o rest)))
    (past_archive n.archive e.0.archive (let few = cell.archive in omega arith))
    ∙ by_key (bytes_cmp n.key e.0.key) rest

-- tests that answer alike on each of a list find the same
find_alike : (P : NamedCell → Type 0) (p q : NamedCell → Bool) (es : List NamedCell)
    → ((e : NamedCell) → P e → p e ≡ q e) → AllByRecursion P es → find p es ≡ find q es
find_alike P p q [] same all = refl
find_alike P p q (e ∷ es) same all = ap (λ b. cond b (Some e) (find p es)) (same e all.0)
    ∙ ap (λ o. cond (q e) (Some e) o) (find_alike P p q es same all.1)

pub behind : (h : ReplicaState) → IsReplicaState h → (key : List ℕ) (archive : ℕ) (slot : ℤ) (origin : ℕ)
    → MAX_ARCHIVES ≤ archive
    → next_cell h.cells (cell_name key archive slot origin) ≡ first_behind (Some key) (entries h.cells)
behind h holds key archive slot origin most =
    let n = cell_name key archive slot origin in
    let few = holds.layout.few_archives in
    find_alike (IsCellOf h.schema) (λ e. is_lt (cell_name_cmp n e.0)) (λ e. is_lt (bytes_cmp key e.0.key))
    (entries h.cells) (λ e cell. same_test n h.schema e (omega arith) cell) (all_held h holds)

-- behind no key the first cell is the first of all
pub first_of_all : (es : List NamedCell) → slice_get es 0 ≡ first_behind None es
first_of_all [] = refl
first_of_all (e ∷ es) = refl

-- a walk that has come to a cell, with so many keys to come
pub one_taken : (prefix : List (List ℕ)) (count i : ℕ) (e : NamedCell) (es : List NamedCell) → i < count
    → (prefix ++ e.0.key ∷ []) ++ keys_from (first_behind (Some e.0.key) es) (count - (i + 1)) es
    ≡ prefix ++ keys_from (Some e) (count - i) es
unfolding keys_from
one_taken prefix count i e es less =
    append_assoc prefix (e.0.key ∷ []) (keys_from (first_behind (Some e.0.key) es) (count - (i + 1)) es)
    ∙ ap (λ n. prefix ++ keys_from (Some e) n es) (left count i less)
  where
    left : (count i : ℕ) → i < count → suc (count - (i + 1)) ≡ count - i
    left count i less = omega arith

no_more : (n : ℕ) (es : List NamedCell) → keys_from None n es ≡ []
unfolding keys_from
no_more zero es = refl
no_more (suc n) es = refl

-- one that is over, as no key is left
pub none_left : (prefix : List (List ℕ)) (n : ℕ) (es : List NamedCell) → prefix ≡ prefix ++ keys_from None n es
none_left prefix n es = sym (append-nil prefix) ∙ ap (λ ks. prefix ++ ks) (sym (no_more n es))

-- or as all were taken that are wanted
pub all_taken : (prefix : List (List ℕ)) (count i : ℕ) (first : Option NamedCell) (es : List NamedCell) → count ≤ i
    → prefix ≡ prefix ++ keys_from first (count - i) es
unfolding keys_from
all_taken prefix count i first es past =
    let none : count - i ≡ 0 = omega arith in
    sym (append-nil prefix) ∙ ap (λ n. prefix ++ keys_from first n es) (sym none)
