-- How many cells archives hold, and which has a number.
use Rattle.std.proofs.Common.{◌≡◌, ℕ, ℤ, Less, zero, suc, ◌+◌, ◌-◌, ◌<◌, ◌≤◌, ◌^◌, true, false, cond, List, [], ◌∷◌, ◌++◌, map, length, take, drop, min, slice_get, get_or, refl, sym, ap, ◌∙◌, subst, arith, true≢false, Option, Some, None, is_some, unwrap_or}
use Rattle.std.specs.Global.{Vec}
use Rattle.std.specs.List.Sorted.{IsStrictlySortedBy}
use Rattle.std.specs.Map.{keys_of}
use Rattle.std.specs.Option.{option_map}
use Rattle.std.specs.FinMap.{entries, len, len-entries}
use Rattle.std.proofs.lemmas.List.{length-append}
use Rattle.std.proofs.lemmas.Bool.Decides.{nat_tests}
use Rattle.rr_contrib.specs.declared.contribution.Contribution.{Contribution}
use Rattle.rr_archive.specs.declared.entry.Entry.{Entry}
use Rattle.rr_archive.specs.CellSlots.{CellSlot, cell_slot}
use Rattle.rr_archive.specs.Cells.{ArchiveCells, cell_of}
use Rattle.rr_cells.specs.CellNames.{CellName}
use Rattle.rr_cells.specs.Cells.{name_at}
use Rattle.rr_text.specs.declared.limits.TheConstants.{MAX_ARCHIVES}
use Rattle.rr_schema.specs.Schema.{Layout}
use Rattle.rr_text.specs.Bytes.{bytes_cmp}
use Rattle.rr_replica.specs.Series.{Series, cells_from, all_cells, cells_of}
use Rattle.rr_replica.specs.InMemory.{held_series, archives_of, IsReplicaInMemory}
use Rattle.rr_cells.specs.Listing.{count_of, at_most_usize}
use Rattle.rr_replica.proofs.InOrder.{named_as, entries-cells_of}
use Rattle.rr_replica.proofs.Shown.{keys_shown}
use Rattle.rr_replica.proofs.SeriesLemmas.{bytes_cmp-IsAntisymmetric}
use Rattle.rr_join.proofs.Members.{same_from_tie, tie_itself}
use Rattle.std.specs.List.{AllByRecursion}
use Rattle.std.specs.Ordering.{is_eq}
use Rattle.std.specs.Cmp.Lexicographic.{nat_list_cmp_total}
use Rattle.rr_replica.proofs.Each.{take_more, sized_many}

-- ---- counts that a usize holds

pub at_most-start : (n : ℕ) → n ≡ at_most_usize n → n ≡ at_most_usize (n + 0)
at_most-start n h = grind (arith, nat_tests)

pub at_most-fits : (n m : ℕ) → n ≡ at_most_usize m → n ≡ at_most_usize n
at_most-fits n m h = grind (arith, nat_tests)

pub at_most-then : (a b n count : ℕ) → count ≡ at_most_usize (n + a)
    → at_most_usize (count + b) ≡ at_most_usize (n + (a + b))
at_most-then a b n count e = grind (arith, nat_tests)

pub at_most-sum : (n a others result : ℕ) → n ≡ at_most_usize (others) → result ≡ min (n + a) (2 ^ 64 - 1)
    → result ≡ at_most_usize (others + a)
at_most-sum n a others result e f = grind (arith, nat_tests)

-- ---- the archives of a key

pub length-cells_from : (key : List ℕ) (first : ℕ) (rs : List ArchiveCells)
    → length (cells_from key first rs) ≡ count_of rs
length-cells_from key first [] = refl
length-cells_from key first (r ∷ rs) =
    length-append (named_as key first (entries r)) (cells_from key (first + 1) rs)
    ∙ (λ i. (length-named key first (entries r) ∙ sym (len-entries r)) i + length-cells_from key (first + 1) rs i)
  where
    length-named : (key : List ℕ) (first : ℕ) (es : List (CellSlot × Contribution))
        → length (named_as key first es) ≡ length es
    length-named key first [] = refl
    length-named key first (e ∷ es) = ap suc (length-named key first es)

pub count_of-append : (rs : List ArchiveCells) (r : ArchiveCells) → count_of (rs ++ r ∷ []) ≡ count_of rs + len r
count_of-append [] r = omega arith
count_of-append (x ∷ xs) r = let h = count_of-append xs r in omega arith

pub count_more : {X : Type 0} (cells : X → ArchiveCells) (xs : List X) (i : ℕ) (d : X) → i < length xs
    → count_of (map cells (take (i + 1) xs)) ≡ count_of (map cells (take i xs)) + len (cells (get_or xs i d))
count_more cells xs i d h = ap count_of (take_more cells xs i d h)
    ∙ count_of-append (map cells (take i xs)) (cells (get_or xs i d))

pub take_all : {X : Type 0} (xs : List X) (i : ℕ) → length xs ≤ i → take i xs ≡ xs
take_all [] zero h = refl
take_all [] (suc i) h = refl
take_all (x ∷ xs) zero h = absurd (omega arith)
take_all (x ∷ xs) (suc i) h = ap (λ l. x ∷ l) (take_all xs i (omega arith))

-- ---- the cell with a number

pub get_append : {X : Type 0} (xs ys : List X) (i : ℕ) → slice_get (xs ++ ys) (length xs + i) ≡ slice_get ys i
get_append [] ys i = ap (slice_get ys) (from_zero i)
  where
    from_zero : (n : ℕ) → 0 + n ≡ n
    from_zero n = omega arith
get_append (x ∷ xs) ys i = ap (slice_get (x ∷ (xs ++ ys))) (later (length xs) i) ∙ get_append xs ys i
  where
    later : (m n : ℕ) → suc m + n ≡ suc (m + n)
    later m n = omega arith

pub get_first : {X : Type 0} (xs ys : List X) (i : ℕ) (x : X) → slice_get xs i ≡ Some x
    → slice_get (xs ++ ys) i ≡ Some x
get_first [] ys i x e = absurd (true≢false (sym (ap is_some e)))
get_first (y ∷ xs) ys zero x e = e
get_first (y ∷ xs) ys (suc i) x e = get_first xs ys i x e

get_named : (key : List ℕ) (archive : ℕ) (es : List (CellSlot × Contribution)) (i : ℕ) (e : CellSlot × Contribution)
    → slice_get es i ≡ Some e → slice_get (named_as key archive es) i ≡ Some (name_at key archive e.0, e.1)
get_named key archive [] i e h = absurd (true≢false (sym (ap is_some h)))
get_named key archive (x ∷ es) zero e h = ap (λ o. Some (name_at key archive (unwrap_or o x).0, (unwrap_or o x).1)) h
get_named key archive (x ∷ es) (suc i) e h = get_named key archive es i e h

-- so many of the cells are in the archives before one with a number, and what is left of them
pub record IsLeft {X : Type 0} (cells : X → ArchiveCells) (key : List ℕ) (archives : List X) (number i left : ℕ)
    : Type 0 where
  pub before : number ≡ count_of (map cells (take i archives)) + left
  pub same : slice_get (cells_from key i (map cells (drop i archives))) left
      ≡ slice_get (cells_from key 0 (map cells archives)) number

module _ {X : Type 0} (cells : X → ArchiveCells) (key : List ℕ) (archives : List X) (number : ℕ) where
  pub left_start : IsLeft cells key archives number 0 number
  left_start = record { before = omega arith; same = refl }

  drop_more : (i : ℕ) (d : X) → i < length archives → drop i archives ≡ get_or archives i d ∷ drop (i + 1) archives
  drop_more i d h = at archives i h
    where
      at : (xs : List X) (i : ℕ) → i < length xs → drop i xs ≡ get_or xs i d ∷ drop (i + 1) xs
      at [] i h = absurd (omega arith)
      at (x ∷ xs) zero h = refl
      at (x ∷ xs) (suc i) h = at xs i (omega arith) ∙ ap (λ n. get_or xs i d ∷ drop n (x ∷ xs)) (one_more i)
        where
          one_more : (n : ℕ) → suc (n + 1) ≡ suc n + 1
          one_more n = omega arith

  pub left_found : (i left : ℕ) (d : X) (e : CellSlot × Contribution) → i < length archives
      → IsLeft cells key archives number i left → slice_get (entries (cells (get_or archives i d))) left ≡ Some e
      → slice_get (cells_from key 0 (map cells archives)) number ≡ Some (name_at key i e.0, e.1)
  left_found i left d e h l at =
      sym l.same ∙ ap (λ xs. slice_get (cells_from key i (map cells xs)) left) (drop_more i d h)
      ∙ get_first (named_as key i (entries (cells (get_or archives i d))))
      (cells_from key (i + 1) (map cells (drop (i + 1) archives))) left _
      (get_named key i (entries (cells (get_or archives i d))) left e at)

  pub left_more : (i left more : ℕ) (d : X) → i < length archives → IsLeft cells key archives number i left
      → left ≡ len (cells (get_or archives i d)) + more → IsLeft cells key archives number (i + 1) more
  left_more i left more d h l is = record {
    before = (let b = l.before in let c = count_more cells archives i d h in omega arith);
    same =
        let es = named_as key i (entries (cells (get_or archives i d))) in
        let rest = cells_from key (i + 1) (map cells (drop (i + 1) archives)) in
        sym (get_append es rest more)
        ∙ ap (slice_get (es ++ rest)) (ap (λ n. n + more)
        (length-named (entries (cells (get_or archives i d))) ∙ sym (len-entries (cells (get_or archives i d))))
        ∙ sym is)
        ∙ ap (λ xs. slice_get (cells_from key i (map cells xs)) left) (sym (drop_more i d h))
        ∙ l.same;
  }
    where
      length-named : (es : List (CellSlot × Contribution)) → length (named_as key i es) ≡ length es
      length-named [] = refl
      length-named (e ∷ es) = ap suc (length-named es)

pub past_end : {X : Type 0} (xs : List X) (i : ℕ) → slice_get xs i ≡ None → length xs ≤ i
past_end [] i e = omega arith
past_end (x ∷ xs) zero e = absurd (true≢false (ap is_some e))
past_end (x ∷ xs) (suc i) e = let h = past_end xs i e in omega arith

-- what is read at one place is one
pub one_item : {X : Type 0} (xs : List X) (i : ℕ) (a b : X) → i < length xs → a ≡ get_or xs i a → b ≡ get_or xs i b
    → b ≡ a
one_item {X} xs i a b h p q = q ∙ alike xs i h ∙ sym p
  where
    alike : (xs : List X) (i : ℕ) → i < length xs → get_or xs i b ≡ get_or xs i a
    alike [] i h = absurd (omega arith)
    alike (x ∷ xs) zero h = refl
    alike (x ∷ xs) (suc i) h = alike xs i (omega arith)

-- an archive without a cell of this number holds no more
pub none_past : (m : ArchiveCells) (i : ℕ) → None ≡ slice_get (entries m) i → len m ≤ i
none_past m i e = let h = past_end (entries m) i (sym e) in let n = len-entries m in omega arith

pub none_seen : (m : ArchiveCells) (i : ℕ) → None ≡ option_map cell_of (slice_get (entries m) i) → len m ≤ i
none_seen m i e = by_cell (slice_get (entries m) i) refl e
  where
    by_cell : (o : Option (CellSlot × Contribution)) → slice_get (entries m) i ≡ o → None ≡ option_map cell_of o
        → len m ≤ i
    by_cell None at e = none_past m i (sym at)
    by_cell (Some f) at e = absurd (true≢false (sym (ap is_some e)))

module _ {X : Type 0} (cells : X → ArchiveCells) (key : List ℕ) (archives : List X) (number : ℕ) where
  -- the cell that an archive finds
  pub left_seen : (i left : ℕ) (a : X) (cell : ℤ × Entry) → i < length archives → a ≡ get_or archives i a
      → IsLeft cells key archives number i left → Some cell ≡ option_map cell_of (slice_get (entries (cells a)) left)
      → slice_get (cells_from key 0 (map cells archives)) number
      ≡ Some (name_at key i (cell_slot cell.0 cell.1.origin), cell.1.contribution)
  left_seen i left a cell h item l e = by_cell (slice_get (entries (cells a)) left) refl e
    where
      by_cell : (o : Option (CellSlot × Contribution)) → slice_get (entries (cells a)) left ≡ o
          → Some cell ≡ option_map cell_of o → slice_get (cells_from key 0 (map cells archives)) number
          ≡ Some (name_at key i (cell_slot cell.0 cell.1.origin), cell.1.contribution)
      by_cell None at e = absurd (true≢false (ap is_some e))
      by_cell (Some f) at e =
          left_found cells key archives number i left a f h l
          (ap (λ b. slice_get (entries (cells b)) left) (sym item) ∙ at)
          ∙ ap (λ o. Some (
            name_at key i (cell_slot (unwrap_or o cell).0 (unwrap_or o cell).1.origin),
            (unwrap_or o cell).1.contribution,
          )) (sym e)

  pub left_past : (i left : ℕ) (a : X) → i < length archives → a ≡ get_or archives i a
      → IsLeft cells key archives number i left → None ≡ option_map cell_of (slice_get (entries (cells a)) left)
      → IsLeft cells key archives number (i + 1) (left - len (cells a))
  left_past i left a h item l e = left_more cells key archives number i left (left - len (cells a)) a h l
      (let fits = none_seen (cells a) left e in let same = ap (λ b. len (cells b)) item in omega arith)

-- ---- all keys

pub get-all_first : (key : List ℕ) (rs : List ArchiveCells) (es : Series) (i : ℕ) (c : CellName × Contribution)
    → slice_get (cells_from key 0 rs) i ≡ Some c → slice_get (all_cells ((key, rs) ∷ es)) i ≡ Some c
get-all_first key rs es i c e = get_first (cells_from key 0 rs) (all_cells es) i c e

pub get-all_later : (key : List ℕ) (rs : List ArchiveCells) (es : Series) (i left : ℕ) → i ≡ count_of rs + left
    → slice_get (all_cells ((key, rs) ∷ es)) i ≡ slice_get (all_cells es) left
get-all_later key rs es i left e = ap (slice_get (all_cells ((key, rs) ∷ es)))
    (e ∙ ap (λ n. n + left) (sym (length-cells_from key 0 rs))) ∙ get_append (cells_from key 0 rs) (all_cells es) left

-- so many cells, and in this order
pub entries-held_series : {X : Type 0} (cells : X → ArchiveCells) (es : List (List ℕ × Vec X))
    → IsStrictlySortedBy bytes_cmp (keys_of es) → entries (cells_of (held_series cells es))
    ≡ all_cells (held_series cells es)
entries-held_series cells es sorted = entries-cells_of (held_series cells es)
    (subst (IsStrictlySortedBy bytes_cmp) (sym (keys_shown cells es)) sorted)

pub len-held_series : {X : Type 0} (cells : X → ArchiveCells) (es : List (List ℕ × Vec X))
    → IsStrictlySortedBy bytes_cmp (keys_of es) → len (cells_of (held_series cells es))
    ≡ length (all_cells (held_series cells es))
len-held_series cells es sorted = len-entries (cells_of (held_series cells es))
    ∙ ap length (entries-held_series cells es sorted)

-- ---- each key has few archives

none_later : {X : Type 0} (key : List ℕ) (es : List (List ℕ × Vec X))
    → AllByRecursion (λ k. bytes_cmp key k ≡ Less) (keys_of es) → archives_of es key ≡ None
none_later key [] later = refl
none_later key (e ∷ es) later = ap (λ r. cond (is_eq r) (Some e.1) (archives_of es key)) later.0
    ∙ none_later key es later.1

few_archives : {X : Type 0} (n : ℕ) (es : List (List ℕ × Vec X)) → IsStrictlySortedBy bytes_cmp (keys_of es)
    → ((key : List ℕ) (archives : Vec X) → archives_of es key ≡ Some archives → length archives.items ≤ n)
    → AllByRecursion (λ e. length e.1.items ≤ n) es
unfolding IsStrictlySortedBy
few_archives n [] sorted few = tt
few_archives n (e ∷ es) sorted few = (
  few e.0 e.1 (ap (λ b. cond b (Some e.1) (archives_of es e.0))
      (tie_itself nat_list_cmp_total bytes_cmp-IsAntisymmetric e.0)),
  few_archives n es sorted.1 (λ key archives at. few key archives
      (elim (is_eq (bytes_cmp key e.0)) as (λ b. is_eq (bytes_cmp key e.0) ≡ b
      → cond b (Some e.1) (archives_of es key) ≡ Some archives) [
        | true ↦ λ t. absurd (true≢false (ap is_some (sym at
            ∙ ap (archives_of es) (same_from_tie nat_list_cmp_total bytes_cmp-IsAntisymmetric key e.0 t)
            ∙ none_later e.0 es sorted.0)))
        | false ↦ λ t. at
      ] refl)),
)

-- so has each key of a replica
pub few_held : {X : Type 0} (cells : X → ArchiveCells) (limit : X → ℕ) (s : Layout) (origin next : ℕ)
    (es : List (List ℕ × Vec X)) → IsReplicaInMemory cells limit s origin next es
    → AllByRecursion (λ e. length e.1.items ≤ MAX_ARCHIVES) es
few_held cells limit s origin next es held = few_archives MAX_ARCHIVES es held.ordered (λ key archives at.
    let many = sized_many limit s archives.items (held.sized key archives at) in
    let few = held.holds.layout.few_archives in
    omega arith)
