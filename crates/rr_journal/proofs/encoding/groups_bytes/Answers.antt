use Rattle.std.proofs.Common.{ℕ, zero, suc, ◌<◌, ◌≤◌, List, [], ◌∷◌, ◌++◌, length, get_or, map, inr, refl, sym, subst, arith}
use Rattle.std.specs.Int.{w16, w32, to_be_bytes}
use Rattle.std.specs.List.{flat_map}
use Rattle.std.proofs.lemmas.List.{length-append}
use Rattle.rr_journal.specs.declared.group.Group.{Group}
use Rattle.rr_journal.specs.Body.{PackedCells, group_text, packed_cells}
use Rattle.rr_journal.proofs.encoding.groups_bytes.Goals as goal

packed_fits : (g : PackedCells) → length g.bytes ≤ length (group_text g)
unfolding group_text
packed_fits g = omega (
  arith,
  length-append (to_be_bytes w16 (length g.key)) (g.key ++ (g.archive ∷ (to_be_bytes w32 (length g.bytes) ++ g.bytes))),
  length-append g.key (g.archive ∷ (to_be_bytes w32 (length g.bytes) ++ g.bytes)),
  length-append (to_be_bytes w32 (length g.bytes)) g.bytes,
)

each_fits : (gs : List Group) (i : ℕ) (d : Group) → i < length gs
    → length (get_or gs i d).packed.items ≤ length (flat_map group_text (map packed_cells gs))
each_fits [] i d lt = absurd (omega (arith, lt))
each_fits (g ∷ gs) zero d lt = omega (
  arith,
  packed_fits (packed_cells g),
  length-append (group_text (packed_cells g)) (flat_map group_text (map packed_cells gs)),
)
each_fits (g ∷ gs) (suc i) d lt = omega (
  arith,
  each_fits gs i d (omega (arith, lt)),
  length-append (group_text (packed_cells g)) (flat_map group_text (map packed_cells gs)),
)

pub returns-then-len-gt-MAX_BODY_LEN-clause-faults : goal.returns-then-len-gt-MAX_BODY_LEN-clause-faults
returns-then-len-gt-MAX_BODY_LEN-clause-faults c =
    let gs = c.args.groups.now in
    let i = c.loop-group.group-index in
    let g = c.group-item.result in
    let fits : length g.packed.items ≤ length (flat_map group_text (map packed_cells gs)) =
    subst (λ (x : Group). length x.packed.items ≤ length (flat_map group_text (map packed_cells gs)))
    (sym c.group-item.is) (each_fits gs i g c.loop-group-test.true) in
    inr (refl, omega (arith, fits, c.len.ensures, c.if-len-gt-MAX_BODY_LEN.true))
