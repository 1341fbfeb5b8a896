-- A cell that is joined into one archive of a list.
use Rattle.std.proofs.Common.{◌≡◌, ◌≢◌, ℕ, List, set, slice_get, sym, ap, ◌∙◌, Some, unwrap_or, ⊎_elim}
use Rattle.std.proofs.lemmas.Bool.Decides.{eqb_tells}
use Rattle.std.proofs.lemmas.Option.{slice_get_within}
use Rattle.rr_archive.specs.CellSlots.{cell_slot}
use Rattle.rr_archive.specs.Cells.{ArchiveCells, join_cell}
use Rattle.rr_cells.specs.declared.cell.Cell.{Cell}
use Rattle.rr_replica.specs.Archives.{AreSame, HaveJoined}
use Rattle.rr_replica.proofs.Each.{slice_get-set_same, slice_get-set_other, length-set}

-- of the archive with this number a is what stood there, and b what stands there now
module _ {X : Type 0} (cells : X → ArchiveCells) where
  the_old : (xs : List X) (i : ℕ) (a d : X) → slice_get xs i ≡ Some a → slice_get xs i ≡ Some d → a ≡ d
  the_old xs i a d at was = ap (λ o. unwrap_or o a) (sym at ∙ was)

  the_new : (xs : List X) (i : ℕ) (a b d : X) → slice_get xs i ≡ Some a → slice_get (set xs i b) i ≡ Some d → d ≡ b
  the_new xs i a b d at now = ap (λ o. unwrap_or o d) (sym now ∙ slice_get-set_same xs i b (slice_get_within xs i a at))

  unchanged : (xs : List X) (i j : ℕ) (b d e : X) → j ≢ i → slice_get xs j ≡ Some d → slice_get (set xs i b) j ≡ Some e
      → cells e ≡ cells d
  unchanged xs i j b d e apart was now = ap cells
      (ap (λ o. unwrap_or o e) (sym now ∙ slice_get-set_other xs i j b apart ∙ was))

  module _ (c : Cell) (old : List X) (a b : X) (at : slice_get old c.archive ≡ Some a) where
    pub same_at : cells b ≡ cells a → AreSame cells old (set old c.archive b)
    same_at is = record {
      many = length-set old c.archive b;
      each = λ j d e was now. ⊎_elim
          (λ h. ap cells (the_new old c.archive a b e at (ap (slice_get (set old c.archive b)) (sym h.1) ∙ now)) ∙ is
          ∙ ap cells (the_old old c.archive a d at (ap (slice_get old) (sym h.1) ∙ was)))
          (λ h. unchanged old c.archive j b d e h.1 was now)
          (eqb_tells j c.archive);
    }

  pub joined_at : (limit : X → ℕ) (c : Cell) (old : List X) (a b : X) → slice_get old c.archive ≡ Some a
      → cells b ≡ join_cell (limit a) (cells a) (cell_slot c.slot c.origin) c.contribution
      → HaveJoined cells limit c old (set old c.archive b)
  joined_at limit c old a b at is = record {
    many = length-set old c.archive b;
    here = λ d e was now.
        ap cells (the_new old c.archive a b e at now) ∙ is
        ∙ ap (λ x. join_cell (limit x) (cells x) (cell_slot c.slot c.origin) c.contribution)
        (the_old old c.archive a d at was);
    others = λ j d e was now apart. unchanged old c.archive j b d e apart was now;
  }
