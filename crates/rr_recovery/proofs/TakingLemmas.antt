-- Cells and records that are taken one after the other.
use Rattle.std.proofs.Common.{◌≡◌, ℕ, Bool, true, false, List, [], ◌∷◌, ◌++◌, length, map, drop, ◌+◌, ◌<◌, ◌≤◌, get_or, Option, None, Some, Result, Ok, Err, IsOk, IsTrue, ◌⊎◌, inl, inr, refl, sym, ap, subst, ◌∙◌}
use Rattle.std.specs.Prelude.{◌==◌, not}
use Rattle.std.specs.List.{flat_map, AllByRecursion}
use Rattle.std.proofs.lemmas.List.{drop_more, drop_all}
use Rattle.rr_text.specs.Results.{◌>>=◌, unless}
use Rattle.rr_schema.specs.Schema.{Layout}
use Rattle.rr_contrib.specs.Validity.{is_valid}
use Rattle.rr_cells.specs.CellBounds.{NamedCell}
use Rattle.rr_cells.specs.Joining.{with_named}
use Rattle.rr_cells.specs.ReplicaState.{ReplicaState}
use Rattle.rr_codec.specs.declared.fault.CodecFault.{CodecFault}
use Rattle.rr_codec.specs.declared.fault.CodecFault.TheVariants as codec
use Rattle.rr_codec.specs.Fields.{SlotEntry}
use Rattle.rr_codec.specs.Reading.{alone, cells_left, cells_of, checked_cells_of, checked_count, packed_at}
use Rattle.rr_codec.specs.Decoding.{LeftState, with_cell}
use Rattle.rr_codec.specs.Laws.{AreChecked}
use Rattle.rr_codec.proofs.CheckLemmas.{are_taken}
use Rattle.rr_journal.specs.declared.group.Group.{Group}
use Rattle.rr_journal.specs.Body.{PackedCells, packed_cells}
use Rattle.rr_recovery.specs.declared.fault.RecoveryFault.{RecoveryFault}
use Rattle.rr_recovery.specs.declared.fault.RecoveryFault.TheVariants.{OriginUsed, Memory}
use Rattle.rr_recovery.specs.Found.{FoundState}
use Rattle.rr_recovery.specs.Joining.{JoinsSome, cells_read, group_cells, named_by, with_all}
use Rattle.rr_recovery.specs.Taking.{IsCheckedGroup, Recovery, taken_cells, with_one}

-- what was recovered, by its parts
abbrev pub recovery_of : ReplicaState → FoundState → Recovery
recovery_of replica found = record { replica = replica; found = found }

-- ---- cells that were joined

pub with_all-append : (h : ReplicaState) (es fs : List NamedCell) → with_all h (es ++ fs) ≡ with_all (with_all h es) fs
with_all-append h [] fs = refl
with_all-append h (e ∷ es) fs = with_all-append (with_named h e) es fs

pub with_all-schema : (h : ReplicaState) (es : List NamedCell) → (with_all h es).schema ≡ h.schema
with_all-schema h [] = refl
with_all-schema h (e ∷ es) = with_all-schema (with_named h e) es

pub with_all-origin : (h : ReplicaState) (es : List NamedCell) → (with_all h es).origin ≡ h.origin
with_all-origin h [] = refl
with_all-origin h (e ∷ es) = with_all-origin (with_named h e) es

pub joins_none : (h : ReplicaState) → JoinsSome h h
joins_none h = ([], refl)

pub joins_then : (h k l : ReplicaState) → JoinsSome h k → JoinsSome k l → JoinsSome h l
joins_then h k l a b =
    (a.0 ++ b.0, b.1 ∙ ap (λ (m : ReplicaState). with_all m b.0) a.1 ∙ sym (with_all-append h a.0 b.0))

pub joins_schema : (h k : ReplicaState) → JoinsSome h k → k.schema ≡ h.schema
joins_schema h k a = ap (λ (m : ReplicaState). m.schema) a.1 ∙ with_all-schema h a.0

-- ---- one after the other

abbrev Taken : Type 0
Taken = Result Recovery RecoveryFault

pub one_taken : (x y : Recovery) (e : NamedCell) → (e.0.origin == x.replica.origin) ≡ false → y ≡ with_one x e
    → ◌≡◌ {A = Taken} (taken_cells x (e ∷ [])) (Ok y)
one_taken x y e other is =
    ap (λ (b : Bool). unless OriginUsed b (Ok (with_one x e))) other ∙ ap (λ (z : Recovery). Ok z) (sym is)

pub taken-append : (x : Recovery) (es fs : List NamedCell)
    → taken_cells x (es ++ fs) ≡ (taken_cells x es >>= λ y. taken_cells y fs)
taken-append x [] fs = refl
taken-append x (e ∷ es) fs = by_test (e.0.origin == x.replica.origin) (taken-append (with_one x e) es fs)
  where
    by_test : (b : Bool) → taken_cells (with_one x e) (es ++ fs) ≡ (taken_cells (with_one x e) es >>= λ y. taken_cells y fs)
        → unless OriginUsed b (taken_cells (with_one x e) (es ++ fs))
        ≡ (unless OriginUsed b (taken_cells (with_one x e) es) >>= λ y. taken_cells y fs)
    by_test true later = refl
    by_test false later = later

-- after some cells the others are left to take
pub then_taken : (x y : Recovery) (es fs : List NamedCell) (all : Taken) → taken_cells x (es ++ fs) ≡ all
    → taken_cells x es ≡ Ok y → taken_cells y fs ≡ all
then_taken x y es fs all whole first =
    sym (taken-append x es fs ∙ ap (λ (r : Taken). r >>= λ z. taken_cells z fs) first) ∙ whole

-- and a fault at some of them is that of all
pub then_refused : (x : Recovery) (es fs : List NamedCell) (all : Taken) (fault : RecoveryFault)
    → taken_cells x (es ++ fs) ≡ all → (fault ≡ Memory) ⊎ (taken_cells x es ≡ Err fault)
    → (fault ≡ Memory) ⊎ (all ≡ Err fault)
then_refused x es fs all fault whole (inl memory) = inl memory
then_refused x es fs all fault whole (inr first) =
    inr (sym whole ∙ taken-append x es fs ∙ ap (λ (r : Taken). r >>= λ z. taken_cells z fs) first)

-- ---- the cells of a group

-- of checked cells these are left to be unpacked; to take them now is to take all
pub record IsLeft (s : Layout) (key : List ℕ) (archive : ℕ) (left : Result (List SlotEntry) CodecFault)
    (x now : Recovery) (all : List NamedCell) : Type 0 where
  pub es : List SlotEntry
  pub is : left ≡ Ok es
  pub before : Option SlotEntry
  pub checked : AreChecked s archive before es
  pub whole : taken_cells now (map (named_by key archive) es) ≡ taken_cells x all
  pub joins : JoinsSome x.replica now.replica

alone_is : (y : List SlotEntry × List ℕ) (es : List SlotEntry) → alone y ≡ Ok es → y.0 ≡ es
alone_is y es e = by_test (not (length y.1 == 0)) e
  where
    by_test : (b : Bool) → ◌≡◌ {A = Result (List SlotEntry) CodecFault} (unless codec.TrailingBytes b (Ok y.0)) (Ok es)
        → y.0 ≡ es
    by_test true h = absurd cc
    by_test false h = cc

left_is : (r : Result (List SlotEntry × List ℕ) CodecFault) (es : List SlotEntry) → (r >>= alone) ≡ Ok es
    → cells_left r ≡ Ok es
left_is (Ok y) es e = ap (λ (l : List SlotEntry). Ok l) (alone_is y es e)
left_is (Err fault) es e = absurd cc

pub all_left : (s : Layout) (key : List ℕ) (archive : ℕ) (bytes : List ℕ) (left : Result (List SlotEntry) CodecFault)
    (x : Recovery) → IsOk (checked_count s archive bytes) → left ≡ cells_left (packed_at bytes)
    → IsLeft s key archive left x x (map (named_by key archive) (cells_read (cells_of bytes)))
all_left s key archive bytes left x good is = by_read (checked_cells_of s archive bytes) refl good
  where
    by_read : (r : Result (List SlotEntry) CodecFault) → checked_cells_of s archive bytes ≡ r
        → IsOk (r >>= λ cells. Ok (length cells))
        → IsLeft s key archive left x x (map (named_by key archive) (cells_read (cells_of bytes)))
    by_read (Err fault) e h = absurd (cc h)
    by_read (Ok es) e h =
        let law = are_taken s archive bytes es e in
        record {
          es = es;
          is = is ∙ left_is (packed_at bytes) es law.0;
          before = None;
          checked = law.1;
          whole = ap (λ (r : Result (List SlotEntry) CodecFault). taken_cells x (map (named_by key archive) (cells_read r)))
              (sym law.0);
          joins = joins_none x.replica;
        }

pub is_opened : (s : Layout) (archive : ℕ) (bytes : List ℕ) (fault : CodecFault) → IsOk (checked_count s archive bytes)
    → packed_at bytes ≡ Err fault → ⊥
is_opened s archive bytes fault good bad = by_read (checked_cells_of s archive bytes) refl good
  where
    by_read : (r : Result (List SlotEntry) CodecFault) → checked_cells_of s archive bytes ≡ r
        → IsOk (r >>= λ cells. Ok (length cells)) → ⊥
    by_read (Err fault) e h = absurd (cc h)
    by_read (Ok es) e h =
        let none : Err fault ≡ Ok es =
        sym (ap (λ (r : Result (List SlotEntry × List ℕ) CodecFault). r >>= alone) bad)
        ∙ (are_taken s archive bytes es e).0 in
        absurd (cc none)

-- the first of those that are left, and the others
pub record IsNext (s : Layout) (key : List ℕ) (archive : ℕ) (e : SlotEntry) (left : Result (List SlotEntry) CodecFault)
    (x now : Recovery) (all : List NamedCell) : Type 0 where
  pub es : List SlotEntry
  pub is : left ≡ Ok es
  pub valid : IsTrue (is_valid s archive e.0 e.1.contribution)
  pub checked : AreChecked s archive (Some e) es
  pub whole : taken_cells now (named_by key archive e ∷ map (named_by key archive) es) ≡ taken_cells x all
  pub joins : JoinsSome x.replica now.replica

next_of : (s : Layout) (key : List ℕ) (archive : ℕ) (e : SlotEntry) (es : List SlotEntry) (before : Option SlotEntry)
    (r : Result (List SlotEntry) CodecFault) (x now : Recovery) (all : List NamedCell) → AreChecked s archive before es
    → taken_cells now (map (named_by key archive) es) ≡ taken_cells x all → JoinsSome x.replica now.replica
    → (r >>= λ fs. Ok (e ∷ fs)) ≡ Ok es → IsNext s key archive e r x now all
next_of s key archive e es before (Err fault) x now all checked whole joins h = absurd cc
next_of s key archive e es before (Ok fs) x now all checked whole joins h =
    let is : es ≡ e ∷ fs = cc in
    let same = subst (AreChecked s archive before) is checked in
    record {
      es = fs;
      is = refl;
      valid = same.0;
      checked = same.2;
      whole = sym (ap (λ (l : List SlotEntry). taken_cells now (map (named_by key archive) l)) is) ∙ whole;
      joins = joins;
    }

pub next_left : (s : Layout) (key : List ℕ) (archive : ℕ) (e : SlotEntry) (old new : LeftState) (x now : Recovery)
    (all : List NamedCell) → IsLeft s key archive old.cells x now all → old ≡ with_cell e new
    → IsNext s key archive e new.cells x now all
next_left s key archive e old new x now all left is =
    next_of s key archive e left.es left.before new.cells x now all left.checked left.whole left.joins
    (sym (ap (λ (l : LeftState). l.cells) is) ∙ left.is)

-- the others, after it was taken
pub others_left : (s : Layout) (key : List ℕ) (archive : ℕ) (e : SlotEntry) (left : Result (List SlotEntry) CodecFault)
    (x now new : Recovery) (all : List NamedCell) → IsNext s key archive e left x now all
    → taken_cells now (named_by key archive e ∷ []) ≡ Ok new → JoinsSome now.replica new.replica
    → IsLeft s key archive left x new all
others_left s key archive e left x now new all next taken joins = record {
  es = next.es;
  is = next.is;
  before = Some e;
  checked = next.checked;
  whole = then_taken now new (named_by key archive e ∷ []) (map (named_by key archive) next.es) (taken_cells x all)
      next.whole taken;
  joins = joins_then x.replica now.replica new.replica next.joins joins;
}

-- ---- groups

-- of checked groups these are left; to take them now is to take all
pub record AreLeft (s : Layout) (left : List PackedCells) (x now : Recovery) (all : List NamedCell) : Type 0 where
  pub checked : AllByRecursion (IsCheckedGroup s) left
  pub whole : taken_cells now (flat_map group_cells left) ≡ taken_cells x all
  pub joins : JoinsSome x.replica now.replica

-- the group in turn is the first of those that are left
pub in_turn : (gs : List Group) (i : ℕ) (g : Group) → i < length gs → get_or gs i g ≡ g
    → map packed_cells (drop i gs) ≡ packed_cells g ∷ map packed_cells (drop (i + 1) gs)
in_turn gs i g lt is = ap (map packed_cells) (drop_more gs i g lt ∙ ap (λ (h : Group). h ∷ drop (i + 1) gs) is)

pub after_all : (gs : List Group) (i : ℕ) → length gs ≤ i → map packed_cells (drop i gs) ≡ []
after_all gs i le = ap (map packed_cells) (drop_all i gs le)

pub groups_left : (s : Layout) (g : PackedCells) (gs : List PackedCells) (x now new : Recovery) (all : List NamedCell)
    → AreLeft s (g ∷ gs) x now all → taken_cells now (group_cells g) ≡ Ok new → JoinsSome now.replica new.replica
    → AreLeft s gs x new all
groups_left s g gs x now new all left taken joins = record {
  checked = left.checked.1;
  whole = then_taken now new (group_cells g) (flat_map group_cells gs) (taken_cells x all) left.whole taken;
  joins = joins_then x.replica now.replica new.replica left.joins joins;
}
