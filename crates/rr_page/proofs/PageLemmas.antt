-- A page is read exactly where its text is.
use Rattle.std.proofs.Common.{◌≡◌, ℕ, ◌≤◌, List, [], ◌∷◌, ◌++◌, length, map, None, Result, Ok, Err, sym, ap, subst, ◌∙◌, append_assoc, All}
use Rattle.std.specs.Prelude.{not, ◌==◌, IfOk}
use Rattle.std.specs.Global.{Vec}
use Rattle.std.specs.Int.{w16, to_be_bytes}
use Rattle.std.specs.List.{flat_map, AllByRecursion}
use Rattle.std.proofs.lemmas.Bool.{eqb-true}
use Rattle.std.proofs.lemmas.List.{append-nil, nil_from_length}
use Rattle.std.proofs.lemmas.List.Elements.{All-from_recursion, recursion_from_All}
use Rattle.rr_text.specs.declared.limits.TheConstants.{MAX_PAGE_CELLS}
use Rattle.rr_text.specs.Results.{GivesUnless}
use Rattle.rr_schema.specs.Schema.{Layout, IsLayout}
use Rattle.rr_schema.specs.SchemaBytes.{schema_bytes}
use Rattle.rr_schema.proofs.SchemaBytesLemmas.{bytes_tell}
use Rattle.rr_cells.specs.declared.cell.Cell.{Cell}
use Rattle.rr_cells.specs.CellBounds.{NamedCell, IsCellOf}
use Rattle.rr_cells.specs.Listing.{owned_cell}
use Rattle.rr_page.specs.declared.fault.PageFault.{PageFault}
use Rattle.rr_page.specs.declared.fault.PageFault.TheVariants.{TrailingBytes, Memory}
use Rattle.rr_page.specs.declared.version.Version.{Version}
use Rattle.rr_page.specs.CellText.{cell_text}
use Rattle.rr_page.specs.Laws.{AreBytes, PagesAreTheirText, NoPageBeginsAnother}
use Rattle.rr_page.specs.Page.{IsPage, IsPageText, magic, head_text, page_text}
use Rattle.rr_page.specs.PageReading.{start_at, head_at, prefix_page_at, page_at}
use Rattle.rr_page.specs.Version.{version_byte, HasMasksFor}
use Rattle.rr_page.proofs.CellsLemmas.{cells_take, cells_again}
use Rattle.rr_page.proofs.FieldLemmas.{not_false, and_then, unless_ok, ok_is, Takes, with_ok, step}
use Rattle.rr_page.proofs.HeadLemmas.{head_takes, head_again, start_again}
use Rattle.rr_page.proofs.OrderLemmas.{rising_sorted, sorted_rising}

pub record IsRead (s : Layout) (bytes : List ℕ) (es : List NamedCell) (rest : List ℕ) : Type 0 where
  pub page : IsPage s es
  pub version : Version
  pub wide : HasMasksFor version s
  pub takes : Takes bytes (page_text version s es) rest

prefix_page_takes : (s : Layout) (bytes : List ℕ) (x : List NamedCell × List ℕ) → AreBytes bytes
    → prefix_page_at s bytes ≡ Ok x → IsRead s bytes x.0 x.1
unfolding prefix_page_at page_text
prefix_page_takes s bytes x fits e =
    with_ok (head_at s bytes) _ x e (λ head i0 e0.
    let t0 = head_takes s bytes head.0.0 head.0.1 head.1 fits i0 in
    let t1 = cells_take head.0.0 s None head.0.1 head.1 x t0.0.rest_fits e0 in
    record {
      page = record {
        count_fits = subst (λ (n : ℕ). n ≤ MAX_PAGE_CELLS) (sym t1.many) t0.1;
        cells =
            All-from_recursion (IsCellOf s) x.0 t1.each;
        names_ascend = rising_sorted None x.0 t1.rising;
      };
      version = head.0.0;
      wide = t0.2;
      takes = and_then (subst (λ (n : ℕ). Takes bytes (head_text head.0.0 s n) head.1) (sym t1.many) t0.0) t1.takes;
    })

pub prefix_page_again : (v : Version) (s : Layout) (es : List NamedCell) (rest : List ℕ) → IsLayout s → HasMasksFor v s
    → IsPage s es → prefix_page_at s (page_text v s es ++ rest) ≡ Ok (es, rest)
unfolding prefix_page_at page_text
prefix_page_again v s es rest layout wide page =
    ap (prefix_page_at s) (append_assoc (head_text v s (length es)) (flat_map (cell_text v) es) rest)
    ∙ step _ (head_again s v (length es) (flat_map (cell_text v) es ++ rest) page.count_fits wide)
    ∙ cells_again v s None es rest layout wide (recursion_from_All (IsCellOf s) es page.cells)
    (sorted_rising es page.names_ascend)

pub page_takes : (s : Layout) (bytes : List ℕ) (es : List NamedCell) → AreBytes bytes → page_at s bytes ≡ Ok es
    → IsPage s es × IsPageText s es bytes
unfolding page_at
page_takes s bytes es fits e =
    with_ok (prefix_page_at s bytes) _ es e (λ cells i e0.
    let g = unless_ok TrailingBytes (not (length cells.1 == 0)) (Ok cells.0) es e0 in
    let t = prefix_page_takes s bytes cells fits i in
    let nothing : cells.1 ≡ [] = nil_from_length cells.1 (eqb-true _ _ (not_false (length cells.1 == 0) g.0)) in
    let whole : bytes ≡ page_text t.version s cells.0 = t.takes.parts
    ∙ ap (λ (l : List ℕ). page_text t.version s cells.0 ++ l) nothing
    ∙ append-nil (page_text t.version s cells.0) in
    subst (λ (fs : List NamedCell). IsPage s fs × IsPageText s fs bytes) (ok_is cells.0 es g.1)
    (t.page, record { version = t.version; wide = t.wide; text = whole }))

pub page_again : (s : Layout) (bytes : List ℕ) (es : List NamedCell) → IsLayout s → IsPage s es → IsPageText s es bytes
    → page_at s bytes ≡ Ok es
unfolding page_at
page_again s bytes es layout page text =
    ap (page_at s) (text.text ∙ sym (append-nil (page_text text.version s es)))
    ∙ step _ (prefix_page_again text.version s es [] layout text.wide page)

pub pages_are_their_text : PagesAreTheirText
pages_are_their_text s bytes es layout fits = (
  (λ e. page_takes s bytes es fits e),
  (λ p. page_again s bytes es layout p.0 p.1),
)

-- the bytes of a page up to the schema
tail_text : Layout → List NamedCell → Version → List ℕ → List ℕ
tail_text s es v x = to_be_bytes w16 (length es) ++ (flat_map (cell_text v) es ++ x)

start_of_page : (v : Version) (s : Layout) (es : List NamedCell) (x : List ℕ)
    → start_at (page_text v s es ++ x) ≡ Ok (v, schema_bytes s ++ tail_text s es v x)
unfolding page_text head_text tail_text
start_of_page v s es x =
    let parted : page_text v s es ++ x ≡ magic ++ (version_byte v ∷ (schema_bytes s ++ tail_text s es v x)) =
    ap (λ (l : List ℕ). magic ++ (version_byte v ∷ l))
    (three (schema_bytes s) (to_be_bytes w16 (length es)) (flat_map (cell_text v) es) x) in
    ap start_at parted ∙ start_again v (schema_bytes s ++ tail_text s es v x)
  where
    three : (a b c x : List ℕ) → ((a ++ b) ++ c) ++ x ≡ a ++ (b ++ (c ++ x))
    three a b c x = simp append_assoc

pub no_page_begins_another : NoPageBeginsAnother
no_page_begins_another v w s t es fs x y layout other wide wide_too page second e =
    let starts = ok_is (v, schema_bytes s ++ tail_text s es v x) (w, schema_bytes t ++ tail_text t fs w y)
    (sym (start_of_page v s es x) ∙ ap start_at e ∙ start_of_page w t fs y) in
    let schemas = bytes_tell s t (tail_text s es v x) (tail_text t fs w y) layout other
    (ap (λ (p : Version × List ℕ). p.1) starts) in
    let bodies = ok_is (es, x) (fs, y) (sym (prefix_page_again v s es x layout wide page) ∙ ap (prefix_page_at s) e
    ∙ ap (λ (l : Layout). prefix_page_at l (page_text w t fs ++ y)) schemas.0
    ∙ prefix_page_again w t fs y other wide_too second) in (
      ap (λ (p : Version × List ℕ). p.0) starts,
      schemas.0,
      ap (λ (p : List NamedCell × List ℕ). p.0) bodies,
      ap (λ (p : List NamedCell × List ℕ). p.1) bodies,
    )

-- ---- for the code

each_owned : (s : Layout) (cells : List Cell) → AllByRecursion (IsCellOf s) (map owned_cell cells)
    → AllByRecursion (λ c. IsCellOf s (owned_cell c)) cells
each_owned s [] each = tt
each_owned s (c ∷ cells) each = (each.0, each_owned s cells each.1)

module _ (s : Layout) (bytes : List ℕ) (fits : AreBytes bytes) where
  pub page_found : (r : Result (Vec Cell) PageFault)
      → GivesUnless Memory (λ cells. map owned_cell cells.items) r (page_at s bytes)
      → IfOk r (λ cells. IsPage s (map owned_cell cells.items) × IsPageText s (map owned_cell cells.items) bytes)
  page_found (Ok cells) given = page_takes s bytes (map owned_cell cells.items) fits given
  page_found (Err fault) given = tt

  pub cells_found : (r : Result (Vec Cell) PageFault)
      → GivesUnless Memory (λ cells. map owned_cell cells.items) r (page_at s bytes)
      → IfOk r (λ cells. All (λ c. IsCellOf s (owned_cell c)) cells.items)
  cells_found (Ok cells) given = All-from_recursion (λ c. IsCellOf s (owned_cell c)) cells.items
      (each_owned s cells.items (recursion_from_All (IsCellOf s) (map owned_cell cells.items)
      (page_takes s bytes (map owned_cell cells.items) fits given).0.cells))
  cells_found (Err fault) given = tt
