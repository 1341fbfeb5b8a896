-- Cells joined into a replica, one after the other.
use Rattle.std.proofs.Common.{◌≡◌, ℕ, ◌+◌, Bool, true, false, ◌&&◌, ◌||◌, List, [], ◌∷◌, ◌++◌, map, Option, None, Some, option_map, refl, sym, ap, ◌∙◌}
use Rattle.std.specs.Ordering.{is_lt}
use Rattle.std.specs.Prelude.{◌==◌, nat_le, if◌then◌else◌}
use Rattle.std.specs.FinMap.{empty}
use Rattle.std.proofs.lemmas.List.Folds.{list_any-append}
use Rattle.rr_schema.specs.Schema.{Layout}
use Rattle.rr_schema.specs.declared.added.Addition.{Addition}
use Rattle.rr_schema.specs.declared.added.Addition.TheVariants.{Nothing, Archive}
use Rattle.rr_cells.specs.CellNames.{CellName}
use Rattle.rr_page.specs.PageReading.{is_after}
use Rattle.rr_cells.specs.CellBounds.{NamedCell}
use Rattle.rr_cells.specs.Cells.{Cells}
use Rattle.rr_cells.specs.ReplicaState.{ReplicaState}
use Rattle.rr_cells.specs.Joining.{next_after, with_named}
use Rattle.rr_cells.specs.Joins.{join_cell, join_cells}
use Rattle.rr_cells.specs.Raising.{raised_cell, raised_name}
use Rattle.rr_cells.proofs.Numbers.{raised_name_cmp}
use Rattle.rr_snapshot.specs.Loading.{is_among, replica_of, HasJoined}

joined_more : (s : Layout) (m : Cells) (es : List NamedCell) (e : NamedCell)
    → join_cells s m (es ++ e ∷ []) ≡ join_cell s (join_cells s m es) e.0 e.1
joined_more s m [] e = refl
joined_more s m (x ∷ es) e = joined_more s (join_cell s m x.0 x.1) es e

or_false : (b : Bool) → b || false ≡ b
or_false true = refl
or_false false = refl

among_more : (origin : ℕ) (es : List NamedCell) (e : NamedCell)
    → is_among origin (es ++ e ∷ []) ≡ is_among origin es || (e.0.origin == origin)
among_more origin es e = list_any-append (λ (c : NamedCell). c.0.origin == origin) es (e ∷ [])
    ∙ ap (λ (b : Bool). is_among origin es || b) (or_false (e.0.origin == origin))

or_first : (a b : Bool) → a || b ≡ false → a ≡ false
or_first true b e = absurd (cc e)
or_first false b e = refl

or_second : (a b : Bool) → a || b ≡ false → b ≡ false
or_second true b e = absurd (cc e)
or_second false b e = e

other_origin : (origin next : ℕ) (e : NamedCell) → (e.0.origin == origin) ≡ false → next_after origin next e ≡ next
other_origin origin next e other = ap (λ (b : Bool). if (b && nat_le next e.1.version) then e.1.version + 1 else next)
    other

-- one cell more, raised
raised_more : (a : Addition) (es : List NamedCell) (e : NamedCell)
    → map (raised_cell a) (es ++ e ∷ []) ≡ map (raised_cell a) es ++ raised_cell a e ∷ []
raised_more a [] e = refl
raised_more a (x ∷ es) e = ap (λ l. raised_cell a x ∷ l) (raised_more a es e)

pub HasJoined-none : (a : Addition) (h : ReplicaState) → HasJoined a h h false []
HasJoined-none a h = record { schema = refl; origin = refl; cells = refl; any = refl; next = λ _. refl }

pub HasJoined-more : (a : Addition) (old now new : ReplicaState) (had is_own has : Bool) (es : List NamedCell)
    (e : NamedCell) → HasJoined a old now had es → new ≡ with_named now (raised_cell a e)
    → is_own ≡ (e.0.origin == old.origin) → has ≡ had || is_own → HasJoined a old new has (es ++ e ∷ [])
HasJoined-more a old now new had is_own has es e so_far is own both =
    let r = raised_cell a e in
    record {
      schema = ap (λ (h : ReplicaState). h.schema) is ∙ so_far.schema;
      origin = ap (λ (h : ReplicaState). h.origin) is ∙ so_far.origin;
      cells = ap (λ (h : ReplicaState). h.cells) is ∙ (λ i. join_cell (so_far.schema i) (so_far.cells i) r.0 r.1)
          ∙ sym (joined_more old.schema old.cells (map (raised_cell a) es) r)
          ∙ ap (join_cells old.schema old.cells) (sym (raised_more a es e));
      any = both ∙ (λ i. so_far.any i || own i) ∙ sym (among_more old.origin es e);
      next = λ none.
          let neither : had || is_own ≡ false = sym both ∙ none in
          let other : (r.0.origin == now.origin) ≡ false = ap (λ (o : ℕ). e.0.origin == o) so_far.origin ∙ sym own
          ∙ or_second had is_own neither in
          ap (λ (h : ReplicaState). h.next) is ∙ other_origin now.origin now.next r other
          ∙ so_far.next (or_first had is_own neither);
    }

-- a replica that held no cell, and took none of its own origin
pub joined_replica : (s : Layout) (a : Addition) (o : ℕ) (old new : ReplicaState) (own : Bool) (es : List NamedCell)
    → old ≡ record { schema = s; origin = o; next = 1; cells = empty } → HasJoined a old new own es → own ≡ false
    → new ≡ replica_of s a o es
joined_replica s a o old new own es is joined none =
    let schema : new.schema ≡ s = joined.schema ∙ ap (λ (h : ReplicaState). h.schema) is in
    let origin : new.origin ≡ o = joined.origin ∙ ap (λ (h : ReplicaState). h.origin) is in
    let next : new.next ≡ 1 = joined.next none ∙ ap (λ (h : ReplicaState). h.next) is in
    let cells : new.cells ≡ join_cells s empty (map (raised_cell a) es) = joined.cells
    ∙ ap (λ (h : ReplicaState). join_cells h.schema h.cells (map (raised_cell a) es)) is in
    λ i. record { schema = schema i; origin = origin i; next = next i; cells = cells i }

-- a cell is after another once both are raised where it was before
pub after_raised : (a : Addition) (o : Option CellName) (n : CellName)
    → is_after (option_map (raised_name a) o) (raised_name a n) ≡ is_after o n
after_raised a None n = refl
after_raised Nothing (Some before) n = refl
after_raised (Archive i) (Some before) n = ap is_lt (raised_name_cmp i before n)
