-- The cells of an archive in the slots of two ranges.
use Rattle.std.proofs.Common.{◌≡◌, ℕ, ℤ, pos, negsuc, ◌+ℤ◌, ◌≤ℤ◌, true, false, ◌&&◌, ◌||◌, List, [], ◌∷◌, ◌++◌, length, map, refl, sym, ap, ◌∙◌, arith}
use Rattle.std.specs.Prelude.{int_lt, int_le}
use Rattle.std.specs.Int.{int_max, int_min}
use Rattle.std.specs.List.{filter}
use Rattle.std.specs.FinMap.{empty, entries, entries_sorted, len-empty, len-entries}
use Rattle.std.proofs.lemmas.Int.{ints}
use Rattle.std.proofs.lemmas.List.{map-append}
use Rattle.std.proofs.lemmas.List.Elements.{filter_agree}
use Rattle.rr_schema.specs.Schema.{Layout, slot_of}
use Rattle.rr_contrib.specs.declared.contribution.Contribution.{Contribution}
use Rattle.rr_archive.specs.declared.entry.Entry.{Entry}
use Rattle.rr_archive.specs.CellSlots.{CellSlot, IsSlot, cell_slot_cmp}
use Rattle.rr_archive.specs.Cells.{ArchiveCells, cell_of}
use Rattle.rr_changes.specs.declared.time_range.ChangeTimes.{ChangeTimes}
use Rattle.rr_changes.specs.Changes.{is_slot_in_times}
use Rattle.rr_changes.specs.Listing.{archive_changes, cells_between}
use Rattle.rr_changes.proofs.SlotLemmas.{is_from, one_then_other}

module _ (s : Layout) (archive : ℕ) (times : ChangeTimes) (m : ArchiveCells) where
  abbrev recent_first : ℤ
  recent_first = slot_of s archive times.recent.first

  abbrev recent_last : ℤ
  recent_last = slot_of s archive times.recent.last

  abbrev late_first : ℤ
  late_first = slot_of s archive times.late.first

  abbrev late_last : ℤ
  late_last = slot_of s archive times.late.last

  -- the late ones first
  pub late_then_recent : int_lt late_last recent_first ≡ true
      → cells_between m late_first (late_last +ℤ pos 1) ++ cells_between m recent_first (recent_last +ℤ pos 1)
      ≡ archive_changes s archive times m
  late_then_recent apart =
      sym (map-append cell_of (filter (is_from late_first (late_last +ℤ pos 1)) (entries m))
      (filter (is_from recent_first (recent_last +ℤ pos 1)) (entries m)))
      ∙ ap (map cell_of) (one_then_other late_first (late_last +ℤ pos 1) recent_first (recent_last +ℤ pos 1)
      (not_before late_last recent_first apart) (entries m) (entries_sorted m)
      ∙ filter_agree (λ e. is_from late_first (late_last +ℤ pos 1) e || is_from recent_first (recent_last +ℤ pos 1) e)
      (λ e. is_slot_in_times s archive times e.0.slot)
      (λ e. either late_first late_last recent_first recent_last e.0.slot) (entries m))
    where
      not_before : (a b : ℤ) → int_lt a b ≡ true → int_lt b (a +ℤ pos 1) ≡ false
      not_before a b h = grind (arith, ints)

      either : (a b c d z : ℤ) → ((int_le a z && int_lt z (b +ℤ pos 1)) || (int_le c z && int_lt z (d +ℤ pos 1)))
          ≡ ((int_le c z && int_le z d) || (int_le a z && int_le z b))
      either a b c d z = grind (arith, ints)

  -- or the recent ones
  pub recent_then_late : int_lt recent_last late_first ≡ true
      → cells_between m recent_first (recent_last +ℤ pos 1) ++ cells_between m late_first (late_last +ℤ pos 1)
      ≡ archive_changes s archive times m
  recent_then_late apart =
      sym (map-append cell_of (filter (is_from recent_first (recent_last +ℤ pos 1)) (entries m))
      (filter (is_from late_first (late_last +ℤ pos 1)) (entries m)))
      ∙ ap (map cell_of) (one_then_other recent_first (recent_last +ℤ pos 1) late_first (late_last +ℤ pos 1)
      (not_before recent_last late_first apart) (entries m) (entries_sorted m)
      ∙ filter_agree (λ e. is_from recent_first (recent_last +ℤ pos 1) e || is_from late_first (late_last +ℤ pos 1) e)
      (λ e. is_slot_in_times s archive times e.0.slot)
      (λ e. either recent_first recent_last late_first late_last e.0.slot) (entries m))
    where
      not_before : (a b : ℤ) → int_lt a b ≡ true → int_lt b (a +ℤ pos 1) ≡ false
      not_before a b h = grind (arith, ints)

      either : (a b c d z : ℤ) → ((int_le a z && int_lt z (b +ℤ pos 1)) || (int_le c z && int_lt z (d +ℤ pos 1)))
          ≡ ((int_le a z && int_le z b) || (int_le c z && int_le z d))
      either a b c d z = grind (arith, ints)

  -- or all at once, where the ranges meet
  pub both_together : int_lt late_last recent_first ≡ false → int_lt recent_last late_first ≡ false
      → cells_between m (int_min recent_first late_first) (int_max recent_last late_last +ℤ pos 1)
      ≡ archive_changes s archive times m
  both_together not_late not_recent =
      ap (map cell_of) (filter_agree
      (is_from (int_min recent_first late_first) (int_max recent_last late_last +ℤ pos 1))
      (λ e. is_slot_in_times s archive times e.0.slot)
      (λ e. either recent_first recent_last late_first late_last e.0.slot not_late not_recent) (entries m))
    where
      either : (a b c d z : ℤ) → int_lt d a ≡ false → int_lt b c ≡ false
          → (int_le (int_min a c) z && int_lt z (int_max b d +ℤ pos 1))
          ≡ ((int_le a z && int_le z b) || (int_le c z && int_le z d))
      either a b c d z h k = grind (arith, ints)

-- ---- as they are listed

-- of an archive that holds these cells, two lists of slots, one after the other
pub two_listed : (m held : ArchiveCells) (a b c d p q r t : ℤ) (none one two : List (ℤ × Entry)) → held ≡ m → none ≡ []
    → p ≡ a → q ≡ b → r ≡ c → t ≡ d → one ≡ none ++ cells_between held p (q +ℤ pos 1)
    → two ≡ one ++ cells_between held r (t +ℤ pos 1)
    → two ≡ cells_between m a (b +ℤ pos 1) ++ cells_between m c (d +ℤ pos 1)
two_listed m held a b c d p q r t none one two same empty first last later_first later_last listed more =
    more ∙ ap (λ (l : List (ℤ × Entry)). l ++ cells_between held r (t +ℤ pos 1))
    (listed ∙ ap (λ (l : List (ℤ × Entry)). l ++ cells_between held p (q +ℤ pos 1)) empty)
    ∙ (λ i. cells_between (same i) (first i) (last i +ℤ pos 1)
    ++ cells_between (same i) (later_first i) (later_last i +ℤ pos 1))

pub one_listed : (m held : ArchiveCells) (a b p q : ℤ) (none one : List (ℤ × Entry)) → held ≡ m → none ≡ []
    → p ≡ a → q ≡ b → one ≡ none ++ cells_between held p (q +ℤ pos 1) → one ≡ cells_between m a (b +ℤ pos 1)
one_listed m held a b p q none one same empty first last listed =
    listed ∙ ap (λ (l : List (ℤ × Entry)). l ++ cells_between held p (q +ℤ pos 1)) empty
    ∙ (λ i. cells_between (same i) (first i) (last i +ℤ pos 1))

-- an archive without cells has no changes
pub of_none : (s : Layout) (archive : ℕ) (times : ChangeTimes) → archive_changes s archive times empty ≡ []
of_none s archive times = ap (λ es. map cell_of (filter (λ e. is_slot_in_times s archive times e.0.slot) es))
    (none_there (entries empty) (sym (len-entries empty) ∙ len-empty cell_slot_cmp Contribution))
  where
    none_there : (es : List (CellSlot × Contribution)) → length es ≡ 0 → es ≡ []
    none_there [] h = refl
    none_there (e ∷ es) h = absurd (omega (arith, h))

-- ---- slots

pub least_is_slot : (a b : ℤ) → IsSlot a → IsSlot b → IsSlot (int_min a b)
least_is_slot a b (al, ah) (bl, bh) = (low a b al bl, high a b ah bh)
  where
    low : (a b : ℤ) → negsuc 9_223_372_036 ≤ℤ a → negsuc 9_223_372_036 ≤ℤ b → negsuc 9_223_372_036 ≤ℤ int_min a b
    low a b h k = grind (arith, ints)

    high : (a b : ℤ) → a ≤ℤ pos 9_223_372_037 → b ≤ℤ pos 9_223_372_037 → int_min a b ≤ℤ pos 9_223_372_037
    high a b h k = grind (arith, ints)

pub greatest_is_slot : (a b : ℤ) → IsSlot a → IsSlot b → IsSlot (int_max a b)
greatest_is_slot a b (al, ah) (bl, bh) = (low a b al bl, high a b ah bh)
  where
    low : (a b : ℤ) → negsuc 9_223_372_036 ≤ℤ a → negsuc 9_223_372_036 ≤ℤ b → negsuc 9_223_372_036 ≤ℤ int_max a b
    low a b h k = grind (arith, ints)

    high : (a b : ℤ) → a ≤ℤ pos 9_223_372_037 → b ≤ℤ pos 9_223_372_037 → int_max a b ≤ℤ pos 9_223_372_037
    high a b h k = grind (arith, ints)
