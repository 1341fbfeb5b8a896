use Rattle.std.proofs.Common.{Bor, ◌≡◌, ◌+ℤ◌, ◌*ℤ◌, ◌++◌, ◌∷◌, [], List, ℕ, pos, ℤ, sym, ap, ◌∙◌, subst, rules}
use Rattle.std.proofs.Math.Facts.{to_z-of_z}
use Rattle.std.specs.Int.{w64}
use Rattle.rr_schema.specs.Schema.{span}
use Rattle.rr_archive.specs.Cells.{ArchiveCells, row_of}
use Rattle.rr_cells.specs.FetchText.{comma, field_text, record_text}
use Rattle.rr_cells.specs.Cells.{row_at, archive_cells}
use Rattle.rr_fetch.specs.Answers.{value_of_cells}
use Rattle.rr_fetch.specs.Consolidation.{consolidation_of, IsRow}
use Rattle.rr_fetch.specs.LentRows.{lent_cells}
use Rattle.rr_fetch.specs.Requests.{request_view}
use Rattle.rr_replica.specs.ReplicaWithRoom.{replica_state}
use Rattle.rr_fetch.proofs.AnswerLemmas.{answer_none, answer_more}
use Rattle.rr_fetch.proofs.LentRowsLemmas.{lent_is}
use Rattle.rr_fetch.proofs.RowEntries.{row_holds}
use Rattle.rr_fetch.proofs.answering.answer_text.Goals as goal

pub loop-row-init : goal.loop-row-init
loop-row-init g c =
    let h = c.args.replica.now in
    let q = request_view c.args.request.now in
    record {
      text = c.in_ok-text.ensures.empty ∙ sym (answer_none h.schema (value_of_cells h.schema h.cells q) q);
      archive = search rules;
    }

pub value_at-requires-clause-row : goal.value_at-requires-clause-row
value_at-requires-clause-row g c =
    let h = c.args.replica.now in
    let q = request_view c.args.request.now in
    let same : lent_cells {X = Bor g.row.A.Denot} (λ a. g.A.Cells.cells a.now) c.loop-row.rows.archive
    ≡ archive_cells h.cells q.key q.archive =
    ap (lent_cells {X = Bor g.row.A.Denot} (λ a. g.A.Cells.cells a.now))
    (c.loop-row.invariant.archive ∙ c.new-rows.ensures)
    ∙ lent_is (λ a. g.A.Cells.cells a.now) c.archive-archive.result (archive_cells h.cells q.key q.archive)
    c.archive-archive.ensures in
    let holds : (slot : ℤ) → IsRow (row_of (lent_cells {X = Bor g.row.A.Denot} (λ a. g.A.Cells.cells a.now)
    c.loop-row.rows.archive) slot) = λ slot. subst (λ (r : ArchiveCells). IsRow (row_of r slot)) (sym same)
    (row_holds (replica_state h) c.schema-schema.ensures.holds q.key q.archive slot) in
    holds _

pub loop-row-preserved : goal.loop-row-preserved
loop-row-preserved g c =
    let h = c.args.replica.now in
    let q = request_view c.args.request.now in
    let row = c.loop-row.row in
    let value_of = value_of_cells h.schema h.cells q in
    let same : lent_cells {X = Bor g.row.A.Denot} (λ a. g.A.Cells.cells a.now) c.loop-row.rows.archive
    ≡ archive_cells h.cells q.key q.archive =
    ap (lent_cells {X = Bor g.row.A.Denot} (λ a. g.A.Cells.cells a.now))
    (c.loop-row.invariant.archive ∙ c.new-rows.ensures)
    ∙ lent_is (λ a. g.A.Cells.cells a.now) c.archive-archive.result (archive_cells h.cells q.key q.archive)
    c.archive-archive.ensures in
    let at : c.slot_of-slot.result ≡ q.first +ℤ pos row = search rules in
    let start : c.start_of-start.result ≡ (q.first +ℤ pos row) *ℤ pos (span h.schema q.archive) = search rules in
    let back_slot = to_z-of_z {w = w64} {z = c.slot_of-slot.result} (search rules) in
    let found = rw back_slot at c.in_ok-value.ensures.value in
    let value : c.in_ok-value.value ≡ value_of (q.first +ℤ pos row) =
    found ∙ ap (λ (r : ArchiveCells). consolidation_of c.schema-schema.result.now q.archive q.function
    (row_of r c.slot_of-slot.result)) same
    ∙ ap (λ s. consolidation_of s q.archive q.function (row_at h.cells q.key q.archive c.slot_of-slot.result))
    c.schema-schema.ensures.value
    ∙ ap (λ slot. consolidation_of h.schema q.archive q.function (row_at h.cells q.key q.archive slot)) at in
    let back = to_z-of_z {w = w64} {z = c.start_of-start.result} (search rules) in
    let prefix : c.deref-in-loop-row.result.now ≡ field_text q.key ++ comma ∷ [] = search rules in
    let pushed = rw back at c.in_ok-push_row.ensures q.key prefix in
    record {
      text = rw (answer_more h.schema value_of q row, ← start, ← value)
          (pushed ∙ ap (λ (text : List ℕ). text ++ record_text q.key
          (c.start_of-start.result, c.in_ok-value.value)) c.loop-row.invariant.text);
      archive = search rules;
    }
