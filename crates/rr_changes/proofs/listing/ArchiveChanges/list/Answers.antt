use Rattle.std.proofs.Common.{rules, ◌≡◌, ◌∙◌, ℤ, true, false, sym, ap, subst, to_z, of_z, w64}
use Rattle.std.specs.Prelude.{int_lt}
use Rattle.std.specs.Int.{int_max, int_min}
use Rattle.std.proofs.lemmas.Result.{on_ok_weaker}
use Rattle.rr_schema.specs.Schema.{slot_of}
use Rattle.rr_archive.specs.CellSlots.{IsSlot}
use Rattle.rr_cells.specs.Cells.{archive_cells}
use Rattle.rr_changes.specs.Listing.{archive_changes}
use Rattle.rr_changes.proofs.RangeLemmas.{both_together, greatest_is_slot, late_then_recent, least_is_slot, of_none, one_listed, recent_then_late, two_listed}
use Rattle.rr_changes.proofs.listing.ArchiveChanges.list.Goals as goal

pub returns-in_default : goal.returns-in_default
returns-in_default g c =
    c.clear.ensures.items
    ∙ sym (ap (archive_changes c.args.replica.now.schema c.args.archive c.args.series.now.times) c.in_default.ensures
    ∙ of_none c.args.replica.now.schema c.args.archive c.args.series.now.times)

pub returns-then-late-recent : goal.returns-then-late-recent
returns-then-late-recent g c =
    let s = c.args.replica.now.schema in
    let i = c.args.archive in
    let times = c.args.series.now.times in
    let m = archive_cells c.args.replica.now.cells c.args.series.now.key i in
    let recent_first : c.of-recent.result.first ≡ slot_of s i times.recent.first = search rules in
    let recent_last : c.of-recent.result.last ≡ slot_of s i times.recent.last = search rules in
    let late_first : c.of-late.result.first ≡ slot_of s i times.late.first = search rules in
    let late_last : c.of-late.result.last ≡ slot_of s i times.late.last = search rules in
    let apart : int_lt (slot_of s i times.late.last) (slot_of s i times.recent.first) ≡ true = search rules in
    on_ok_weaker c.push_slots-then-late-recent.result (λ listed. two_listed m (g.A.Cells.cells c.in-Some.held.now)
    (slot_of s i times.late.first) (slot_of s i times.late.last) (slot_of s i times.recent.first)
    (slot_of s i times.recent.last) c.of-late.result.first c.of-late.result.last c.of-recent.result.first
    c.of-recent.result.last c.clear.new.self.items c.push_slots.new.self c.push_slots-then-late-recent.new.self c.in-Some.ensures
    c.clear.ensures.items late_first late_last recent_first recent_last c.in_ok-push_slots.ensures listed
    ∙ late_then_recent s i times m apart) c.push_slots-then-late-recent.ensures

pub returns-then-recent-late : goal.returns-then-recent-late
returns-then-recent-late g c =
    let s = c.args.replica.now.schema in
    let i = c.args.archive in
    let times = c.args.series.now.times in
    let m = archive_cells c.args.replica.now.cells c.args.series.now.key i in
    let recent_first : c.of-recent.result.first ≡ slot_of s i times.recent.first = search rules in
    let recent_last : c.of-recent.result.last ≡ slot_of s i times.recent.last = search rules in
    let late_first : c.of-late.result.first ≡ slot_of s i times.late.first = search rules in
    let late_last : c.of-late.result.last ≡ slot_of s i times.late.last = search rules in
    let apart : int_lt (slot_of s i times.recent.last) (slot_of s i times.late.first) ≡ true = search rules in
    on_ok_weaker c.push_slots-then-recent-late-2.result (λ listed. two_listed m (g.A.Cells.cells c.in-Some.held.now)
    (slot_of s i times.recent.first) (slot_of s i times.recent.last) (slot_of s i times.late.first)
    (slot_of s i times.late.last) c.of-recent.result.first c.of-recent.result.last c.of-late.result.first
    c.of-late.result.last c.clear.new.self.items c.push_slots-then-recent-late.new.self c.push_slots-then-recent-late-2.new.self c.in-Some.ensures
    c.clear.ensures.items recent_first recent_last late_first late_last c.in_ok-push_slots-2.ensures listed
    ∙ recent_then_late s i times m apart) c.push_slots-then-recent-late-2.ensures

pub push_slots-requires-2-clause-first : goal.push_slots-requires-2-clause-first
push_slots-requires-2-clause-first g c =
    let min : to_z w64 (of_z w64 c.min.result) ≡ int_min c.of-recent.result.first c.of-late.result.first = search rules in
    subst (λ (z : ℤ). IsSlot z) (sym min) (least_is_slot c.of-recent.result.first c.of-late.result.first
    c.of-recent.ensures.first_is_slot c.of-late.ensures.first_is_slot)

pub push_slots-requires-2-clause-last : goal.push_slots-requires-2-clause-last
push_slots-requires-2-clause-last g c =
    let max : to_z w64 (of_z w64 c.max.result) ≡ int_max c.of-recent.result.last c.of-late.result.last = search rules in
    subst (λ (z : ℤ). IsSlot z) (sym max) (greatest_is_slot c.of-recent.result.last c.of-late.result.last
    c.of-recent.ensures.last_is_slot c.of-late.ensures.last_is_slot)

pub returns : goal.returns
returns g c =
    let s = c.args.replica.now.schema in
    let i = c.args.archive in
    let times = c.args.series.now.times in
    let m = archive_cells c.args.replica.now.cells c.args.series.now.key i in
    let recent_first : c.of-recent.result.first ≡ slot_of s i times.recent.first = search rules in
    let recent_last : c.of-recent.result.last ≡ slot_of s i times.recent.last = search rules in
    let late_first : c.of-late.result.first ≡ slot_of s i times.late.first = search rules in
    let late_last : c.of-late.result.last ≡ slot_of s i times.late.last = search rules in
    let not_late : int_lt (slot_of s i times.late.last) (slot_of s i times.recent.first) ≡ false = search rules in
    let not_recent : int_lt (slot_of s i times.recent.last) (slot_of s i times.late.first) ≡ false = search rules in
    let min : to_z w64 (of_z w64 c.min.result) ≡ int_min c.of-recent.result.first c.of-late.result.first = search rules in
    let max : to_z w64 (of_z w64 c.max.result) ≡ int_max c.of-recent.result.last c.of-late.result.last = search rules in
    on_ok_weaker c.push_slots-2.result (λ listed. one_listed m (g.A.Cells.cells c.in-Some.held.now)
    (int_min (slot_of s i times.recent.first) (slot_of s i times.late.first))
    (int_max (slot_of s i times.recent.last) (slot_of s i times.late.last)) (to_z w64 (of_z w64 c.min.result))
    (to_z w64 (of_z w64 c.max.result)) c.clear.new.self.items c.push_slots-2.new.self c.in-Some.ensures
    c.clear.ensures.items (min ∙ (λ j. int_min (recent_first j) (late_first j)))
    (max ∙ (λ j. int_max (recent_last j) (late_last j))) listed
    ∙ both_together s i times m not_late not_recent) c.push_slots-2.ensures
