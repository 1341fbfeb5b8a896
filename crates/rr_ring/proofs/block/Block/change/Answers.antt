use Rattle.std.proofs.Common.{rules, ◌≡◌, ◌<◌, length, sym, ap, ◌∙◌, subst, refl, true≢false, Some, to_z, of_z, w64}
use Rattle.std.specs.Prelude.{slice_get, is_none, IsTrue, IsOk}
use Rattle.std.proofs.lemmas.Option.{slice_get-get_or}
use Rattle.std.proofs.lemmas.Result.{on_ok_weaker, on_err_weaker, IfOk-weaker}
use Rattle.rr_archive.specs.Row.{entry_at}
use Rattle.rr_archive.specs.Changes.{Fits}
use Rattle.rr_ring.specs.declared.stored_row.StoredRow.{StoredRow}
use Rattle.rr_ring.specs.StoredRows.{has_room_at}
use Rattle.rr_ring.proofs.RingLemmas.{block_read, block_alike, block_after, block_room, block_room_within}
use Rattle.rr_ring.proofs.block.Block.change.Goals as goal

pub returns-in_err-make_rows-clause-room : goal.returns-in_err-make_rows-clause-room
returns-in_err-make_rows-clause-room c = λ room.
    let ok : IsOk c.make_rows.result = c.make_rows.ensures.room
    (block_room_within c.args.self.now c.args.number c.args.slot c.args.origin room) in
    absurd (true≢false (sym (subst IsOk c.in_err-make_rows.was ok)))

pub change-requires : goal.change-requires
change-requires c =
    let made = c.make_rows.new.self in
    let was : StoredRow = c.index_mut.result.now in
    let slot : to_z w64 (of_z w64 c.args.slot) ≡ c.args.slot = search rules in
    let within : c.args.number < length made.rows.items = search rules in
    let has : slice_get made.rows.items c.args.number ≡ Some was =
    slice_get-get_or made.rows.items c.args.number was within ∙ ap (λ x. Some x) (sym c.index_mut.ensures.value) in
    let here = block_read made c.args.number was c.args.slot has
    ∙ ap (λ f. f c.args.number c.args.slot) c.make_rows.ensures.same in
    rw slot (subst (λ es. Fits (entry_at es c.args.origin) c.args.change.now) (sym here) c.requires)

pub returns-clause-changed : goal.returns-clause-changed
returns-clause-changed c =
    let made = c.make_rows.new.self in
    let was : StoredRow = c.index_mut.result.now in
    let slot : to_z w64 (of_z w64 c.args.slot) ≡ c.args.slot = search rules in
    let within : c.args.number < length made.rows.items = search rules in
    let has : slice_get made.rows.items c.args.number ≡ Some was =
    slice_get-get_or made.rows.items c.args.number was within ∙ ap (λ x. Some x) (sym c.index_mut.ensures.value) in
    on_ok_weaker c.change.result (λ now. block_after c.args.self.now made _ c.args.number was c.change.new.self
    c.args.slot c.args.origin c.args.change.now c.make_rows.ensures.same has refl now)
    (rw slot at c.change.ensures.changed)

pub returns-clause-unchanged : goal.returns-clause-unchanged
returns-clause-unchanged c =
    let made = c.make_rows.new.self in
    let was : StoredRow = c.index_mut.result.now in
    let within : c.args.number < length made.rows.items = search rules in
    let has : slice_get made.rows.items c.args.number ≡ Some was =
    slice_get-get_or made.rows.items c.args.number was within ∙ ap (λ x. Some x) (sym c.index_mut.ensures.value) in
    on_err_weaker c.change.result (λ same. block_alike made _ c.args.number was c.change.new.self has refl same
    ∙ c.make_rows.ensures.same) c.change.ensures.unchanged

pub returns-clause-room : goal.returns-clause-room
returns-clause-room c = λ room.
    let made = c.make_rows.new.self in
    let was : StoredRow = c.index_mut.result.now in
    let slot : to_z w64 (of_z w64 c.args.slot) ≡ c.args.slot = search rules in
    let within : c.args.number < length made.rows.items = search rules in
    let has : slice_get made.rows.items c.args.number ≡ Some was =
    slice_get-get_or made.rows.items c.args.number was within ∙ ap (λ x. Some x) (sym c.index_mut.ensures.value) in
    c.change.ensures.room (subst (λ z. IsTrue (has_room_at (Some was) z c.args.origin)) (sym slot)
    (block_room c.args.self.now made c.args.number was c.args.slot c.args.origin c.make_rows.ensures.rows_stay has
    room))

pub returns-clause-is_new : goal.returns-clause-is_new
returns-clause-is_new c =
    let made = c.make_rows.new.self in
    let was : StoredRow = c.index_mut.result.now in
    let slot : to_z w64 (of_z w64 c.args.slot) ≡ c.args.slot = search rules in
    let within : c.args.number < length made.rows.items = search rules in
    let has : slice_get made.rows.items c.args.number ≡ Some was =
    slice_get-get_or made.rows.items c.args.number was within ∙ ap (λ x. Some x) (sym c.index_mut.ensures.value) in
    let here = block_read made c.args.number was c.args.slot has
    ∙ ap (λ f. f c.args.number c.args.slot) c.make_rows.ensures.same in
    IfOk-weaker c.change.result _ _ (λ _ is. is ∙ ap (λ es. is_none (entry_at es c.args.origin)) here)
    (rw slot at c.change.ensures.is_new)
