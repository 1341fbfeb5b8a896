-- The cells of records that are added one after the other.
use Rattle.std.proofs.Common.{◌≡◌, ℕ, Bool, true, false, List, [], ◌∷◌, ◌++◌, length, map, drop, ◌+◌, ◌<◌, get_or, Option, None, Some, IsTrue, ap₂, Result, Ok, Err, IsOk, ◌⊎◌, inl, inr, refl, sym, ap, subst, ◌∙◌, append_assoc, append-nil}
use Rattle.std.specs.Prelude.{◌==◌, ◌&&◌, ◌↔◌, not}
use Rattle.std.specs.List.{flat_map, AllByRecursion}
use Rattle.std.proofs.lemmas.Bool.{lt-ltb}
use Rattle.std.proofs.lemmas.List.{drop_more, map-append}
use Rattle.rr_text.specs.Results.{◌>>=◌, GivesUnless, unless}
use Rattle.rr_schema.specs.Schema.{Layout}
use Rattle.rr_cells.specs.declared.cell.Cell.{Cell}
use Rattle.rr_cells.specs.CellBounds.{IsCellOf, NamedCell, is_cell_of}
use Rattle.rr_contrib.specs.Validity.{is_valid}
use Rattle.rr_cells.specs.Listing.{owned_cell}
use Rattle.rr_codec.specs.declared.fault.CodecFault.{CodecFault}
use Rattle.rr_codec.specs.Decoding.{LeftState, with_cell}
use Rattle.rr_codec.specs.declared.fault.CodecFault.TheVariants as codec
use Rattle.rr_codec.specs.Fields.{SlotEntry}
use Rattle.rr_codec.specs.Reading.{alone, cells_left, cells_of, checked_cells_of, checked_count, packed_at}
use Rattle.rr_codec.specs.Laws.{AreChecked}
use Rattle.rr_codec.proofs.CheckLemmas.{are_taken}
use Rattle.rr_journal.specs.declared.fault.JournalFault.{JournalFault}
use Rattle.rr_journal.specs.declared.group.Group.{Group}
use Rattle.rr_journal.specs.Body.{PackedCells, packed_cells}
use Rattle.rr_recovery.specs.Joining.{cells_read, group_cells, named_by}
use Rattle.rr_recovery.specs.Taking.{IsCheckedGroup}
use Rattle.rr_replication.specs.declared.fault.PartFault.{PartFault}
use Rattle.rr_replication.specs.declared.fault.PartFault.TheVariants.{Memory}
use Rattle.rr_replication.specs.Reading.{Adds, AreCellsOf, as_bad}

-- ---- cells of a schema

pub cells_append : (s : Layout) (xs ys : List Cell) → AreCellsOf s xs → AreCellsOf s ys → AreCellsOf s (xs ++ ys)
cells_append s [] ys h k = k
cells_append s (x ∷ xs) ys h k = (h.0, cells_append s xs ys h.1 k)

-- ---- the cells of a group

-- cells were added behind others, and those that are left make them all
pub record IsLeft (s : Layout) (key : List ℕ) (archive : ℕ) (left : Result (List SlotEntry) CodecFault)
    (old now : List Cell) (all : List NamedCell) : Type 0 where
  pub es : List SlotEntry
  pub is : left ≡ Ok es
  pub before : Option SlotEntry
  pub checked : AreChecked s archive before es
  pub more : List Cell
  pub kept : now ≡ old ++ more
  pub of_schema : AreCellsOf s more
  pub whole : map owned_cell more ++ map (named_by key archive) es ≡ all

-- those that are read are those that are left at first
alone_is : (y : List SlotEntry × List ℕ) (es : List SlotEntry) → alone y ≡ Ok es → y.0 ≡ es
alone_is y es e = by_test (not (length y.1 == 0)) e
  where
    by_test : (b : Bool) → ◌≡◌ {A = Result (List SlotEntry) CodecFault} (unless codec.TrailingBytes b (Ok y.0)) (Ok es)
        → y.0 ≡ es
    by_test true h = absurd cc
    by_test false h = cc

left_is : (r : Result (List SlotEntry × List ℕ) CodecFault) (es : List SlotEntry) → (r >>= alone) ≡ Ok es
    → cells_left r ≡ Ok es
left_is (Ok y) es e = ap (λ (l : List SlotEntry). Ok l) (alone_is y es e)
left_is (Err fault) es e = absurd cc

pub all_left : (s : Layout) (key : List ℕ) (archive : ℕ) (bytes : List ℕ) (left : Result (List SlotEntry) CodecFault)
    (old : List Cell) → IsOk (checked_count s archive bytes) → left ≡ cells_left (packed_at bytes)
    → IsLeft s key archive left old old (map (named_by key archive) (cells_read (cells_of bytes)))
all_left s key archive bytes left old good is = by_read (checked_cells_of s archive bytes) refl good
  where
    by_read : (r : Result (List SlotEntry) CodecFault) → checked_cells_of s archive bytes ≡ r
        → IsOk (r >>= λ cells. Ok (length cells))
        → IsLeft s key archive left old old (map (named_by key archive) (cells_read (cells_of bytes)))
    by_read (Err fault) e h = absurd (cc h)
    by_read (Ok es) e h =
        let law = are_taken s archive bytes es e in
        record {
          es = es;
          is = is ∙ left_is (packed_at bytes) es law.0;
          before = None;
          checked = law.1;
          more = [];
          kept = sym (append-nil old);
          of_schema = tt;
          whole = ap (λ (r : Result (List SlotEntry) CodecFault). map (named_by key archive) (cells_read r)) (sym law.0);
        }

-- the first of those that are left, and the others
record IsNext (s : Layout) (archive : ℕ) (e : SlotEntry) (es : List SlotEntry) (left : Result (List SlotEntry) CodecFault)
    : Type 0 where
  others : List SlotEntry
  is : left ≡ Ok others
  valid : IsTrue (is_valid s archive e.0 e.1.contribution)
  checked : AreChecked s archive (Some e) others
  whole : es ≡ e ∷ others

next_of : (s : Layout) (archive : ℕ) (e : SlotEntry) (es : List SlotEntry) (before : Option SlotEntry)
    (r : Result (List SlotEntry) CodecFault) → AreChecked s archive before es → (r >>= λ fs. Ok (e ∷ fs)) ≡ Ok es
    → IsNext s archive e es r
next_of s archive e es before (Err fault) checked h = absurd cc
next_of s archive e es before (Ok fs) checked h =
    let is : es ≡ e ∷ fs = cc in
    let same = subst (AreChecked s archive before) is checked in
    record { others = fs; is = refl; valid = same.0; checked = same.2; whole = is }

cell_of : (s : Layout) (key : List ℕ) (archive : ℕ) (e : SlotEntry) (cell : Cell) (is_of : Bool)
    → archive < length s.archives → IsTrue (is_valid s archive e.0 e.1.contribution)
    → owned_cell cell ≡ named_by key archive e → is_of ≡ is_cell_of s (owned_cell cell)
    → IsTrue is_of ↔ IsCellOf s (owned_cell cell) → IsCellOf s (owned_cell cell)
cell_of s key archive e cell is_of there valid is tested means =
    let yes : is_cell_of s (named_by key archive e) ≡ true =
    ap₂ (λ (a b : Bool). a && b) (lt-ltb _ _ there) valid in
    means.0 (tested ∙ ap (is_cell_of s) is ∙ yes)

-- the first of those that are left was added
pub others_left : (s : Layout) (key : List ℕ) (archive : ℕ) (e : SlotEntry) (cell : Cell) (is_of : Bool)
    (old_left new_left : LeftState) (old now new : List Cell) (all : List NamedCell) → archive < length s.archives
    → IsLeft s key archive old_left.cells old now all → old_left ≡ with_cell e new_left
    → owned_cell cell ≡ named_by key archive e → is_of ≡ is_cell_of s (owned_cell cell)
    → IsTrue is_of ↔ IsCellOf s (owned_cell cell) → new ≡ now ++ cell ∷ []
    → IsLeft s key archive new_left.cells old new all
others_left s key archive e cell is_of old_left new_left old now new all there left is cell_is tested means pushed =
    let next = next_of s archive e left.es left.before new_left.cells left.checked
    (sym (ap (λ (l : LeftState). l.cells) is) ∙ left.is) in
    let names = map (named_by key archive) in
    record {
      es = next.others;
      is = next.is;
      before = Some e;
      checked = next.checked;
      more = left.more ++ cell ∷ [];
      kept = pushed ∙ ap (λ (l : List Cell). l ++ cell ∷ []) left.kept ∙ append_assoc old left.more (cell ∷ []);
      of_schema = cells_append s left.more (cell ∷ []) left.of_schema
          (cell_of s key archive e cell is_of there next.valid cell_is tested means, tt);
      whole = ap (λ (l : List NamedCell). l ++ names next.others) (map-append owned_cell left.more (cell ∷ []))
          ∙ append_assoc (map owned_cell left.more) (owned_cell cell ∷ []) (names next.others)
          ∙ ap (λ (n : NamedCell). map owned_cell left.more ++ n ∷ names next.others) cell_is
          ∙ sym (ap (λ (l : List SlotEntry). map owned_cell left.more ++ names l) next.whole) ∙ left.whole;
    }

-- ---- groups

-- cells were added behind others, and those of the groups that are left make them all
pub record AreLeft (s : Layout) (left : List PackedCells) (old now : List Cell) (all : List NamedCell) : Type 0 where
  pub checked : AllByRecursion (IsCheckedGroup s) left
  pub more : List Cell
  pub kept : now ≡ old ++ more
  pub of_schema : AreCellsOf s more
  pub whole : map owned_cell more ++ flat_map group_cells left ≡ all

-- the group in turn is the first of those that are left
pub in_turn : (gs : List Group) (i : ℕ) (g : Group) → i < length gs → get_or gs i g ≡ g
    → map packed_cells (drop i gs) ≡ packed_cells g ∷ map packed_cells (drop (i + 1) gs)
in_turn gs i g lt is = ap (map packed_cells) (drop_more gs i g lt ∙ ap (λ (h : Group). h ∷ drop (i + 1) gs) is)

pub groups_left : (s : Layout) (g : PackedCells) (gs : List PackedCells) (old now new : List Cell) (all : List NamedCell)
    (result : Result (Unit {0}) PartFault) → AreLeft s (g ∷ gs) old now all
    → Adds s now new (Ok (group_cells g)) result → result ≡ Ok tt → AreLeft s gs old new all
groups_left s g gs old now new all result left added done =
    let exact : ◌≡◌ {A = Result (List NamedCell) PartFault} (Ok (group_cells g)) (Ok (map owned_cell added.more)) =
    subst (λ (r : Result (Unit {0}) PartFault). GivesUnless Memory (λ t. map owned_cell added.more) r (Ok (group_cells g)))
    done added.exact in
    let cells : group_cells g ≡ map owned_cell added.more = cc exact in
    record {
      checked = left.checked.1;
      more = left.more ++ added.more;
      kept = added.kept ∙ ap (λ (l : List Cell). l ++ added.more) left.kept ∙ append_assoc old left.more added.more;
      of_schema = cells_append s left.more added.more left.of_schema added.of_schema;
      whole = ap (λ (l : List NamedCell). l ++ flat_map group_cells gs) (map-append owned_cell left.more added.more)
          ∙ append_assoc (map owned_cell left.more) (map owned_cell added.more) (flat_map group_cells gs)
          ∙ ap (λ (l : List NamedCell). map owned_cell left.more ++ (l ++ flat_map group_cells gs)) (sym cells)
          ∙ left.whole;
    }

pub groups_refused : (s : Layout) (g : PackedCells) (gs : List PackedCells) (old now new : List Cell)
    (all : List NamedCell) (fault : PartFault) → AreLeft s (g ∷ gs) old now all
    → Adds {X = Unit {0}} s now new (Ok (group_cells g)) (Err fault)
    → Adds {X = Unit {0}} s old new (Ok all) (Err fault)
groups_refused s g gs old now new all fault left added = record {
  more = left.more ++ added.more;
  kept = added.kept ∙ ap (λ (l : List Cell). l ++ added.more) left.kept ∙ append_assoc old left.more added.more;
  of_schema = cells_append s left.more added.more left.of_schema added.of_schema;
  exact = memory added.exact;
}
  where
    memory : (fault ≡ Memory) ⊎ ◌≡◌ {A = Result (List NamedCell) PartFault} (Ok (group_cells g)) (Err fault)
        → (fault ≡ Memory) ⊎ ◌≡◌ {A = Result (List NamedCell) PartFault} (Ok all) (Err fault)
    memory (inl e) = inl e
    memory (inr e) = absurd (cc e)

-- ---- with a part's faults

pub as_bad_ok : {A : Type 0} (r : Result A JournalFault) (x : A)
    → ◌≡◌ {A = Result A PartFault} (as_bad r) (Ok x) → r ≡ Ok x
as_bad_ok {A = A} (Ok y) x e = let is : y ≡ x = cc e in ap (λ (z : A). Ok z) is
as_bad_ok (Err fault) x e = absurd (cc e)
