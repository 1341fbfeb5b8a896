-- Cells of a stream, one after the other.
use Rattle.std.proofs.Common.{◌≡◌, ℕ, suc, ◌+◌, ◌-◌, ◌<◌, ◌≤◌, true, false, List, [], ◌∷◌, ◌++◌, Option, None, Some, IfSome, Result, Ok, Err, refl, sym, ap, subst, ◌∙◌, append-nil, arith, inl, inr}
use Rattle.rr_schema.specs.Schema.{Layout}
use Rattle.rr_page.specs.declared.fault.PageFault.{PageFault}
use Rattle.rr_page.specs.declared.version.Version.{Version}
use Rattle.rr_page.specs.PageReading.{is_after, last_name, cells_at}
use Rattle.rr_page.specs.Reading.{cell_at}
use Rattle.rr_page.proofs.LoopLemmas.{with_prefix, goes_on, ends, falls, is_done}
use Rattle.rr_cells.specs.declared.cell.Cell.{Cell}
use Rattle.rr_cells.specs.CellBounds.{NamedCell}
use Rattle.rr_cells.specs.Listing.{owned_cell}
use Rattle.rr_snapshot.specs.declared.fault.LoadFault.{LoadFault}
use Rattle.rr_snapshot.specs.declared.fault.LoadFault.TheVariants as why
use Rattle.rr_snapshot.specs.Fault.{load_fault}
use Rattle.rr_snapshot.specs.SnapshotReading.{as_in_page}
use Rattle.rr_snapshot.specs.Stream.{StreamGives, StreamMakes}

-- ---- what is read as in a page

pub page_ok : {A : Type 0} (r : Result A PageFault) (x : A) → as_in_page r ≡ Ok x → r ≡ Ok x
page_ok (Ok y) x e = cc
page_ok (Err fault) x e = absurd (cc e)

pub page_err : {A : Type 0} (r : Result A PageFault) (fault : LoadFault) → as_in_page r ≡ Err fault
    → (f : PageFault) × (r ≡ Err f) × (load_fault f ≡ fault)
page_err (Ok y) fault e = absurd (cc e)
page_err (Err f) fault e = (f, refl, cc)

-- ---- cells one after the other

-- what was read so far, and what is still read, make the whole, however many more are read
abbrev pub IsSoFar : Version → Layout → List NamedCell → ℕ → ℕ → Option (List ℕ) → Option (List ℕ) → Type 0
IsSoFar v s prefix count i old now =
    IfSome old (λ all. (rest : List ℕ) × (now ≡ Some rest)
    × (with_prefix prefix (cells_at v s (last_name prefix) (count - i) rest) ≡ cells_at v s None count all)
    × ((n : ℕ) → with_prefix prefix (cells_at v s (last_name prefix) n rest) ≡ cells_at v s None (i + n) all))

pub nothing_yet : (v : Version) (s : Layout) (count : ℕ) (old : Option (List ℕ)) → IsSoFar v s [] count 0 old old
nothing_yet v s count None = tt
nothing_yet v s count (Some all) = (
  all,
  refl,
  none (cells_at v s None (count - 0) all)
      ∙ ap (λ (n : ℕ). cells_at v s None n all) zero_less,
  λ n. none (cells_at v s None n all) ∙ ap (λ (m : ℕ). cells_at v s None m all) (zero_more n),
)
  where
    none : (r : Result (List NamedCell × List ℕ) PageFault) → with_prefix [] r ≡ r
    none (Ok x) = refl
    none (Err f) = refl

    zero_less : count - 0 ≡ count
    zero_less = omega arith

    zero_more : (n : ℕ) → n ≡ 0 + n
    zero_more n = omega arith

-- a cell was read, and what follows it is left
abbrev pub Read : Version → Layout → NamedCell → Option (List ℕ) → Option (List ℕ) → Type 0
Read v s e now new = IfSome now (λ all. (rest : List ℕ) × (new ≡ Some rest)
    × (as_in_page (cell_at v s all) ≡ Ok (e, rest)))

-- what a cell is read as under a schema that is another's
pub same_schema_read : (v : Version) (s t : Layout) (e : NamedCell) (now new : Option (List ℕ)) → s ≡ t
    → Read v s e now new → Read v t e now new
same_schema_read v s t e now new is read = subst (λ (u : Layout). Read v u e now new) is read

pub same_schema : (v : Version) (s t : Layout) (fault : LoadFault) (now new : Option (List ℕ)) → s ≡ t
    → StreamGives {X = Cell × ℕ} {Y = NamedCell} (λ x. owned_cell x.0) (Err fault) now new
    (λ all. as_in_page (cell_at v s all))
    → StreamGives {X = Cell × ℕ} {Y = NamedCell} (λ x. owned_cell x.0) (Err fault) now new
    (λ all. as_in_page (cell_at v t all))
same_schema v s t fault now new is read = subst (λ (u : Layout). StreamGives {X = Cell × ℕ} {Y = NamedCell}
    (λ x. owned_cell x.0) (Err fault) now new (λ all. as_in_page (cell_at v u all))) is read

module _ (v : Version) (s : Layout) (prefix : List NamedCell) (count i : ℕ) (lt : i < count) where
  pub goes_on_stream : (old now new : Option (List ℕ)) (e : NamedCell) → IsSoFar v s prefix count i old now
      → Read v s e now new → is_after (last_name prefix) e.0 ≡ true
      → IsSoFar v s (prefix ++ e ∷ []) count (i + 1) old new
  goes_on_stream None now new e so_far step rising = tt
  goes_on_stream (Some all) now new e so_far step rising =
      let next = subst (λ (o : Option (List ℕ)). Read v s e o new) so_far.1 step in (
        next.0,
        next.1,
        goes_on v s prefix count i so_far.0 (cells_at v s None count all) so_far.2 e next.0 lt
            (page_ok (cell_at v s so_far.0) (e, next.0) next.2) rising,
        λ n.
            let before : i + suc n - i ≡ suc n = omega arith in
            let after : i + suc n - (i + 1) ≡ n = omega arith in
            let all_of : i + suc n ≡ i + 1 + n = omega arith in
            ap (λ (m : ℕ). with_prefix (prefix ++ e ∷ []) (cells_at v s (last_name (prefix ++ e ∷ [])) m next.0))
            (sym after)
            ∙ goes_on v s prefix (i + suc n) i so_far.0 (cells_at v s None (i + suc n) all)
            (ap (λ (m : ℕ). with_prefix prefix (cells_at v s (last_name prefix) m so_far.0)) before ∙ so_far.3 (suc n))
            e
            next.0 (omega arith) (page_ok (cell_at v s so_far.0) (e, next.0) next.2) rising
            ∙ ap (λ (m : ℕ). cells_at v s None m all) all_of,
      )

  pub ends_stream : (old now : Option (List ℕ)) (fault : LoadFault) → IsSoFar v s prefix count i old now
      → IfSome now (λ all. as_in_page (cell_at v s all) ≡ Err fault)
      → IfSome old (λ all. as_in_page (cells_at v s None count all) ≡ Err fault)
  ends_stream None now fault so_far step = tt
  ends_stream (Some all) now fault so_far step =
      let next = subst (λ (o : Option (List ℕ)). IfSome o (λ all. as_in_page (cell_at v s all) ≡ Err fault)) so_far.1
      step in
      let f = page_err (cell_at v s so_far.0) fault next in
      ap as_in_page (ends v s prefix count i so_far.0 (cells_at v s None count all) so_far.2 f.0 lt f.1)
      ∙ ap (λ (d : LoadFault). Err d) f.2

  pub falls_stream : (old now new : Option (List ℕ)) (e : NamedCell) → IsSoFar v s prefix count i old now
      → Read v s e now new → is_after (last_name prefix) e.0 ≡ false
      → IfSome old (λ all. as_in_page (cells_at v s None count all) ≡ Err why.OutOfOrder)
  falls_stream None now new e so_far step falling = tt
  falls_stream (Some all) now new e so_far step falling =
      let next = subst (λ (o : Option (List ℕ)). Read v s e o new) so_far.1 step in
      ap as_in_page (falls v s prefix count i so_far.0 (cells_at v s None count all) so_far.2 e next.0 lt
      (page_ok (cell_at v s so_far.0) (e, next.0) next.2) falling)

  -- a fault of a cell is one of the cells
  pub passed_made : {X : Type 0} (made : X → List NamedCell → Type 0) (old now new : Option (List ℕ))
      (fault : LoadFault) → IsSoFar v s prefix count i old now
      → StreamGives {X = Cell × ℕ} {Y = NamedCell} (λ x. owned_cell x.0) (Err fault) now new
      (λ all. as_in_page (cell_at v s all))
      → StreamMakes made (Err fault) old new (λ all. as_in_page (cells_at v s None count all))
  passed_made made old now new fault so_far (inl e) = inl e
  passed_made made old now new fault so_far (inr (inl e)) = inr (inl e)
  passed_made made old now new fault so_far (inr (inr e)) = inr (inr (ends_stream old now fault so_far e))

-- so far the cells are good
pub first_read : (v : Version) (s : Layout) (prefix : List NamedCell) (count i : ℕ) (all : List ℕ)
    (now : Option (List ℕ)) (so_far : IsSoFar v s prefix count i (Some all) now)
    → cells_at v s None i all ≡ Ok (prefix, so_far.0)
unfolding cells_at
first_read v s prefix count i all now so_far =
    let none : i + 0 ≡ i = omega arith in
    ap (λ (n : ℕ). cells_at v s None n all) (sym none) ∙ sym (so_far.3 0)
    ∙ ap (λ (l : List NamedCell). Ok (l, so_far.0)) (append-nil prefix)

pub done_stream : (v : Version) (s : Layout) (prefix : List NamedCell) (count i : ℕ) (old now : Option (List ℕ))
    → count ≤ i → IsSoFar v s prefix count i old now
    → IfSome old (λ all. (rest : List ℕ) × (now ≡ Some rest)
    × (as_in_page (cells_at v s None count all) ≡ Ok (prefix, rest)))
done_stream v s prefix count i None now le so_far = tt
done_stream v s prefix count i (Some all) now le so_far =
    (so_far.0, so_far.1, ap as_in_page (is_done v s prefix count i so_far.0 (cells_at v s None count all) so_far.2 le))
