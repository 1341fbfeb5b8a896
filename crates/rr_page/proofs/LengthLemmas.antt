-- How many bytes a cell has.
use Rattle.std.proofs.Common.{◌≡◌, ◌+◌, [], ◌∷◌, ◌++◌, length, arith, refl}
use Rattle.std.proofs.lemmas.List.{length-append}
use Rattle.std.specs.Int.{w16, w64, to_be_bytes}
use Rattle.rr_contrib.specs.declared.contribution.Contribution.{Contribution}
use Rattle.rr_cells.specs.CellNames.{CellName}
use Rattle.rr_cells.specs.CellBounds.{NamedCell}
use Rattle.rr_page.specs.declared.version.Version.{Version}
use Rattle.rr_page.specs.declared.version.Version.TheVariants.{One, Two}
use Rattle.rr_page.specs.CellText.{signed_bytes, sums_text, values_text, name_text, cell_text}
use Rattle.rr_page.specs.Version.{fields_len}

pub name_len : (n : CellName) → length (name_text n) ≡ 13 + length n.key
unfolding name_text
name_len n =
    let text = to_be_bytes w16 (length n.key) ++ n.key in
    let slot = signed_bytes w64 n.slot in
    let a = length-append ((text ++ (n.archive ∷ [])) ++ slot) (to_be_bytes w16 n.origin) in
    let b = length-append (text ++ (n.archive ∷ [])) slot in
    let c = length-append text (n.archive ∷ []) in
    omega arith

sums_len : (c : Contribution) → length (sums_text c) ≡ 32
unfolding sums_text
sums_len c = refl

values_len : (v : Version) (c : Contribution) → 45 + length (values_text v c) ≡ fields_len v
unfolding values_text
values_len One c = refl
values_len Two c = refl

pub cell_len : (v : Version) (e : NamedCell) → length (cell_text v e) ≡ fields_len v + length e.0.key
unfolding cell_text
cell_len v e =
    let a = length-append (name_text e.0 ++ sums_text e.1) (values_text v e.1) in
    let b = length-append (name_text e.0) (sums_text e.1) in
    let n = name_len e.0 in
    let s = sums_len e.1 in
    let w = values_len v e.1 in
    omega arith
