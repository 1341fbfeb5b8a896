-- What a sample makes of each archive of each key.
use Rattle.std.proofs.Common.{◌≡◌, ◌≢◌, ℕ, zero, suc, ◌+◌, ◌<◌, ◌≤◌, false, ◌&&◌, List, [], ◌∷◌, map, length, refl, sym, ap, ◌∙◌, subst, arith, ⊎_elim}
use Rattle.std.specs.Prelude.{nat_eq, ◌==◌}
use Rattle.std.specs.List.{range_with_len}
use Rattle.std.specs.Cmp.Lexicographic.{pointwise}
use Rattle.std.specs.FinMap.{get, insert}
use Rattle.std.proofs.lemmas.Bool.{ne_eqb, and_right}
use Rattle.std.proofs.lemmas.Bool.Decides.{eqb_tells}
use Rattle.rr_schema.specs.Schema.{Layout, IsLayout, archive_at}
use Rattle.rr_join.specs.Maps.{trimmed}
use Rattle.rr_join.proofs.Joining.{trimmed-trimmed}
use Rattle.rr_contrib.specs.declared.contribution.Contribution.{Contribution}
use Rattle.rr_contrib.specs.Contributions.{contribution_with}
use Rattle.rr_archive.specs.CellSlots.{is_live_at}
use Rattle.rr_archive.specs.Cells.{put_in_archive}
use Rattle.rr_archive.specs.Cells as held
use Rattle.rr_cells.specs.CellNames.{is_of}
use Rattle.rr_cells.specs.Samples.{Sample, Mark, name_of}
use Rattle.rr_cells.proofs.Orders.{cell_name_cmp_total, cell_name_cmp-IsAntisymmetric}
use Rattle.rr_cells.proofs.Horizon.{live_horizon}
use Rattle.rr_cells.specs.Cells.{Cells, IsTrimmed, cell_slot_of, archive_cells}
use Rattle.rr_cells.specs.Puts.{slot_sample_of, put_mark, put_marks, put_sample}
use Rattle.rr_cells.proofs.Local.{get-archive_cells, trimmed_local, insert_here, insert_elsewhere}

-- the sample in an archive
abbrev pub mark : Sample → ℕ → Mark
mark x archive = record { sample = x; archive = archive }

-- the rows of an archive with the mark put
abbrev pub with_mark : Layout → held.ArchiveCells → Mark → held.ArchiveCells
with_mark s rows m = put_in_archive (archive_at s m.archive).rows rows (cell_slot_of (name_of s m)) (slot_sample_of s m)

module _ (s : Layout) (is : IsLayout s) where
  put_here : (cells : Cells) (m : Mark) → archive_cells (put_mark s cells m) m.key m.archive
      ≡ with_mark s (archive_cells cells m.key m.archive) m
  unfolding put_mark
  put_here cells m =
      let n = name_of s m in
      let v : Contribution = contribution_with (get cells n) (slot_sample_of s m) in
      trimmed_local m.key m.archive s is (insert cells n v)
      ∙ ap (trimmed (is_live_at (archive_at s m.archive).rows))
      (insert_here m.key m.archive cells (cell_slot_of n) v
      ∙ ap (λ o. insert (archive_cells cells m.key m.archive) (cell_slot_of n)
      (contribution_with o (slot_sample_of s m))) (sym (get-archive_cells m.key m.archive cells (cell_slot_of n))))

  put_elsewhere : (cells : Cells) (m : Mark) (key : List ℕ) (archive : ℕ) → IsTrimmed s cells
      → is_of key archive (name_of s m) ≡ false → archive_cells (put_mark s cells m) key archive
      ≡ archive_cells cells key archive
  unfolding put_mark
  put_elsewhere cells m key archive kept apart =
      let n = name_of s m in
      let v : Contribution = contribution_with (get cells n) (slot_sample_of s m) in
      trimmed_local key archive s is (insert cells n v)
      ∙ ap (trimmed (is_live_at (archive_at s archive).rows)) (insert_elsewhere key archive cells n v apart)
      ∙ sym (trimmed_local key archive s is cells)
      ∙ ap (λ c. archive_cells c key archive) kept

  put_trimmed : (cells : Cells) (m : Mark) → IsTrimmed s (put_mark s cells m)
  unfolding put_mark
  put_trimmed cells m = trimmed-trimmed cell_name_cmp_total cell_name_cmp-IsAntisymmetric (live_horizon s is) _

  pub puts_trimmed : (ms : List Mark) (cells : Cells) → IsTrimmed s cells → IsTrimmed s (put_marks s cells ms)
  puts_trimmed [] cells kept = kept
  puts_trimmed (m ∷ ms) cells kept = puts_trimmed ms (put_mark s cells m) (put_trimmed cells m)

  -- ---- in archives one after the other

  abbrev pub marks_from : Sample → ℕ → ℕ → List Mark
  marks_from x first n = map (mark x) (range_with_len first n)

  other_archive : (x : Sample) (key : List ℕ) (i archive : ℕ) → i ≢ archive
      → is_of key archive (name_of s (mark x i)) ≡ false
  other_archive x key i archive apart = and_right (pointwise nat_eq x.key key) (i == archive) (ne_eqb i archive apart)

  after_elsewhere : (x : Sample) (key : List ℕ) (archive n first : ℕ) (cells : Cells) → IsTrimmed s cells
      → ((i : ℕ) → first ≤ i → i < first + n → is_of key archive (name_of s (mark x i)) ≡ false)
      → archive_cells (put_marks s cells (marks_from x first n)) key archive ≡ archive_cells cells key archive
  after_elsewhere x key archive zero first cells kept apart = refl
  after_elsewhere x key archive (suc n) first cells kept apart =
      after_elsewhere x key archive n (first + 1) (put_mark s cells (mark x first)) (put_trimmed cells (mark x first))
      (λ i low high. apart i (omega arith) (omega arith))
      ∙ put_elsewhere cells (mark x first) key archive kept (apart first (omega arith) (omega arith))

  after_here : (x : Sample) (archive n first : ℕ) (cells : Cells) → IsTrimmed s cells → first ≤ archive
      → archive < first + n → archive_cells (put_marks s cells (marks_from x first n)) x.key archive
      ≡ with_mark s (archive_cells cells x.key archive) (mark x archive)
  after_here x archive zero first cells kept low high = absurd (omega arith)
  after_here x archive (suc n) first cells kept low high = ⊎_elim
      (λ h.
      after_elsewhere x x.key archive n (first + 1) (put_mark s cells (mark x first)) (put_trimmed cells (mark x first))
      (λ i above below. let same = h.1 in other_archive x x.key i archive (λ e. absurd (omega arith)))
      ∙ subst (λ j. archive_cells (put_mark s cells (mark x j)) x.key archive
      ≡ with_mark s (archive_cells cells x.key archive) (mark x archive)) h.1 (put_here cells (mark x archive)))
      (λ h.
      after_here x archive n (first + 1) (put_mark s cells (mark x first)) (put_trimmed cells (mark x first))
      (above_first first archive low h.1) (omega arith)
      ∙ ap (λ r. with_mark s r (mark x archive)) (put_elsewhere cells (mark x first) x.key archive kept
      (other_archive x x.key first archive (λ e. h.1 (sym e)))))
      (eqb_tells archive first)
    where
      above_first : (first archive : ℕ) → first ≤ archive → archive ≢ first → first + 1 ≤ archive
      above_first first archive low apart = ⊎_elim (λ h. absurd (apart h.1)) (λ h. omega arith)
          (eqb_tells archive first)

  -- ---- in all archives

  pub put_at : (x : Sample) (archive : ℕ) (cells : Cells) → IsTrimmed s cells → archive < length s.archives
      → archive_cells (put_sample s cells x) x.key archive
      ≡ with_mark s (archive_cells cells x.key archive) (mark x archive)
  put_at x archive cells kept there = after_here x archive (length s.archives) 0 cells kept (omega arith) (omega arith)

  pub put_past : (x : Sample) (key : List ℕ) (archive : ℕ) (cells : Cells) → IsTrimmed s cells
      → length s.archives ≤ archive → archive_cells (put_sample s cells x) key archive ≡ archive_cells cells key archive
  put_past x key archive cells kept past = after_elsewhere x key archive (length s.archives) 0 cells kept
      (λ i low high. other_archive x key i archive (λ e. absurd (omega arith)))

  pub put_other_key : (x : Sample) (key : List ℕ) (archive : ℕ) (cells : Cells) → IsTrimmed s cells
      → pointwise nat_eq x.key key ≡ false → archive_cells (put_sample s cells x) key archive
      ≡ archive_cells cells key archive
  put_other_key x key archive cells kept apart = after_elsewhere x key archive (length s.archives) 0 cells kept
      (λ i low high. ap (λ b. b && (i == archive)) apart)
