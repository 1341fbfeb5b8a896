use Rattle.std.proofs.Common.{rules, ◌≡◌, ◌<◌, [], ◌∷◌, ◌++◌, cond, eqb, length, refl, sym, ap, ◌∙◌}
use Rattle.std.proofs.lemmas.Option.{slice_get_read}
use Rattle.std.proofs.lemmas.Result.{on_ok_weaker}
use Rattle.rr_archive.specs.declared.entries.Entries.{Entries}
use Rattle.rr_archive.specs.Entries.{items_of}
use Rattle.rr_packed.specs.BlockRows.{items_in, IsUnheld}
use Rattle.rr_packed.proofs.BlockLemmas.{entries_changed, found_entries, items_by_entries}
use Rattle.rr_packed.proofs.FreeRowLemmas.{items_unheld}
use Rattle.rr_packed.proofs.block.Block.append.Goals as goal

pub returns-then-is_free : goal.returns-then-is_free
returns-then-is_free c =
    let b = c.args.self.now in
    let k = c.args.number.value in
    let free : IsUnheld b k = search rules in
    on_ok_weaker c.add.result
    (λ added. λ n. added n
    ∙ (λ i. cond (eqb n k) (sym (items_unheld b k free) i ++ c.args.entry ∷ []) (items_in b n)))
    c.add.ensures.changed

pub returns-in-None : goal.returns-in-None
returns-in-None c =
    let mid = c.unpack.new.self in
    let k = c.args.number.value in
    let free : IsUnheld mid k = search rules in
    let none : items_in c.args.self.now k ≡ [] =
    sym (ap (λ f. f k) c.unpack.ensures.same) ∙ items_unheld mid k free in
    on_ok_weaker c.add-in-None.result
    (λ added. λ n. added n
    ∙ (λ i. cond (eqb n k) (sym none i ++ c.args.entry ∷ []) (c.unpack.ensures.same i n)))
    c.add-in-None.ensures.changed

pub returns-in-Some : goal.returns-in-Some
returns-in-Some c =
    let b = c.args.self.now in
    let mid = c.unpack.new.self in
    let k = c.args.number.value in
    let was : Entries = c.index_mut.result.now in
    let within : c.in-Some.at < length mid.rows.items.items = search rules in
    let has = slice_get_read mid.rows.items.items (length mid.rows.items.items) c.in-Some.at was refl within
    c.index_mut.ensures.value in
    let here : items_of was ≡ items_in b k =
    sym (items_by_entries mid k was (found_entries mid k c.in-Some.at was c.in-Some.ensures.place has))
    ∙ ap (λ f. f k) c.unpack.ensures.same in
    on_ok_weaker c.append_to.result
    (λ added. λ n.
    entries_changed mid _ k c.in-Some.at was c.append_to.new.row c.in-Some.ensures.place has refl refl refl refl n
    ∙ (λ i. cond (eqb n k) ((added ∙ ap (λ l. l ++ c.args.entry ∷ []) here) i) (c.unpack.ensures.same i n)))
    c.append_to.ensures
