-- Cells one after the other are read exactly where their texts are.
use Rattle.std.proofs.Common.{◌≡◌, ℕ, zero, suc, Bool, true, ◌&&◌, List, [], ◌∷◌, ◌++◌, length, Option, Some, Ok, refl, ap, subst, ◌∙◌, append_assoc}
use Rattle.std.specs.Prelude.{not}
use Rattle.std.specs.List.{flat_map, AllByRecursion}
use Rattle.std.proofs.lemmas.List.Concat.{flat_map-cons}
use Rattle.rr_text.specs.Results.{◌>>=◌, unless}
use Rattle.rr_schema.specs.Schema.{Layout, IsLayout}
use Rattle.rr_join.proofs.Booleans.{and_first, and_second}
use Rattle.rr_cells.specs.CellNames.{CellName}
use Rattle.rr_cells.specs.CellBounds.{NamedCell, IsCellOf}
use Rattle.rr_page.specs.declared.fault.PageFault.TheVariants.{OutOfOrder}
use Rattle.rr_page.specs.declared.version.Version.{Version}
use Rattle.rr_page.specs.CellText.{cell_text}
use Rattle.rr_page.specs.Laws.{AreBytes}
use Rattle.rr_page.specs.PageReading.{is_after, cells_at}
use Rattle.rr_page.specs.Reading.{cell_at}
use Rattle.rr_page.specs.Version.{HasMasksFor}
use Rattle.rr_page.proofs.CellLemmas.{cell_takes, cell_again}
use Rattle.rr_page.proofs.FieldLemmas.{not_false, and_then, unless_ok, ok_is, Takes, with_ok, step}
use Rattle.rr_page.proofs.OrderLemmas.{is_rising}

pub record AreRead (v : Version) (s : Layout) (before : Option CellName) (n : ℕ) (bytes : List ℕ) (es : List NamedCell)
    (rest : List ℕ) : Type 0 where
  pub takes : Takes bytes (flat_map (cell_text v) es) rest
  pub many : length es ≡ n
  pub each : AllByRecursion (IsCellOf s) es
  pub rising : is_rising before es ≡ true

pub cells_take : (v : Version) (s : Layout) (before : Option CellName) (n : ℕ) (bytes : List ℕ)
    (x : List NamedCell × List ℕ) → AreBytes bytes → cells_at v s before n bytes ≡ Ok x
    → AreRead v s before n bytes x.0 x.1
unfolding cells_at
cells_take v s before zero bytes x fits e =
    subst (λ (y : List NamedCell × List ℕ). AreRead v s before 0 bytes y.0 y.1) (ok_is ([], bytes) x e)
    (record { takes = record { parts = refl; rest_fits = fits }; many = refl; each = tt; rising = refl })
cells_take v s before (suc n) bytes x fits e =
    with_ok (cell_at v s bytes) _ x e (λ first i0 e0.
    with_ok (unless OutOfOrder (not (is_after before first.0.0)) (cells_at v s (Some first.0.0) n first.1)) _ x e0
    (λ others i1 e1.
    let g = unless_ok OutOfOrder (not (is_after before first.0.0)) (cells_at v s (Some first.0.0) n first.1) others
    i1 in
    let after = not_false (is_after before first.0.0) g.0 in
    let t0 = cell_takes v s bytes first.0 first.1 fits i0 in
    let t1 = cells_take v s (Some first.0.0) n first.1 others t0.0.rest_fits g.1 in
    subst (λ (y : List NamedCell × List ℕ). AreRead v s before (suc n) bytes y.0 y.1)
    (ok_is (first.0 ∷ others.0, others.1) x e1)
    (record {
      takes = rw flat_map-cons (and_then t0.0 t1.takes);
      many = ap suc t1.many;
      each = (t0.1, t1.each);
      rising = ap (λ (b : Bool). b && is_rising (Some first.0.0) others.0) after ∙ t1.rising;
    })))

pub cells_again : (v : Version) (s : Layout) (before : Option CellName) (es : List NamedCell) (rest : List ℕ)
    → IsLayout s → HasMasksFor v s → AllByRecursion (IsCellOf s) es → is_rising before es ≡ true
    → cells_at v s before (length es) (flat_map (cell_text v) es ++ rest) ≡ Ok (es, rest)
unfolding cells_at
cells_again v s before [] rest layout wide each rising = refl
cells_again v s before (e ∷ es) rest layout wide each rising =
    let first = and_first (is_after before e.0) (is_rising (Some e.0) es) rising in
    let others = and_second (is_after before e.0) (is_rising (Some e.0) es) rising in
    let after = flat_map (cell_text v) es ++ rest in
    let parted : flat_map (cell_text v) (e ∷ es) ++ rest ≡ cell_text v e ++ after =
    ap (λ (l : List ℕ). l ++ rest) (flat_map-cons (cell_text v) e es)
    ∙ append_assoc (cell_text v e) (flat_map (cell_text v) es) rest in
    ap (cells_at v s before (suc (length es))) parted
    ∙ step _ (cell_again v s e after layout wide each.0)
    ∙ ap (λ (b : Bool). unless OutOfOrder (not b) (cells_at v s (Some e.0) (length es) after) >>=
    λ (x : List NamedCell × List ℕ). Ok (e ∷ x.0, x.1)) first
    ∙ step _ (cells_again v s (Some e.0) es rest layout wide each.1 others)
