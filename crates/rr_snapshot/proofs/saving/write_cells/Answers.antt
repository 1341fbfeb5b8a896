use Rattle.std.proofs.Common.{rules, ◌≡◌, ◌++◌, ℕ, List, take, slice_get, Some, sym, ap, subst, ◌∙◌, append_assoc, to_z, of_z, w64, arith}
use Rattle.std.specs.FinMap.{entries, entries_sorted, len-entries}
use Rattle.std.specs.Io.KnownBytes.{Appends}
use Rattle.std.specs.List.{flat_map}
use Rattle.std.specs.Option.{option_map}
use Rattle.std.proofs.KnownBytes.{Appends-nil, Appends-trans}
use Rattle.std.proofs.lemmas.List.{append-nil}
use Rattle.sha2.specs.Hashers.{Holds256}
use Rattle.rr_io.specs.Counted.{inner_of}
use Rattle.rr_page.specs.CellText.{cell_text}
use Rattle.rr_page.specs.Version.{latest}
use Rattle.rr_cells.specs.Listing.{seen_cell}
use Rattle.rr_replica.proofs.InTurn.{next_of_sorted}
use Rattle.rr_snapshot.proofs.WriteLemmas.{text_more, cells_prefix, whole_is_prefix, all_taken, none_left}
use Rattle.rr_snapshot.proofs.saving.write_cells.Goals as goal

pub returns-in_default : goal.returns-in_default
returns-in_default g c = record {
  whole =
      let all = none_left (entries c.args.replica.now.cells) c.loop.counter c.loop.next c.loop.invariant.next
      c.in_default.is in
      subst (λ es. Appends (g.W.Write.contents (inner_of c.args.output.now))
      (g.W.Write.contents (inner_of c.loop.output))
      (flat_map (cell_text latest) es)) all c.loop.invariant.written;
  prefix =
      let all = none_left (entries c.args.replica.now.cells) c.loop.counter c.loop.next c.loop.invariant.next
      c.in_default.is in
      whole_is_prefix _ _ _ (subst (λ es. Appends (g.W.Write.contents (inner_of c.args.output.now))
      (g.W.Write.contents (inner_of c.loop.output)) (flat_map (cell_text latest) es)) all c.loop.invariant.written);
  digest =
      let all = none_left (entries c.args.replica.now.cells) c.loop.counter c.loop.next c.loop.invariant.next
      c.in_default.is in
      λ m h. subst (λ es. Holds256 c.loop.hasher (m ++ flat_map (cell_text latest) es)) all
      (c.loop.invariant.digest m h);
  fits = search rules;
  failures_never_fall = search rules;
  failed = search rules;
}

pub returns-in_err-write_cell : goal.returns-in_err-write_cell
returns-in_err-write_cell g c = record {
  whole = search rules;
  prefix =
      let all = entries c.args.replica.now.cells in
      let at : slice_get all c.loop.counter ≡ Some (seen_cell c.in-Some.cell) = sym c.loop.invariant.next
      ∙ ap (option_map seen_cell) c.in-Some.is in
      cells_prefix (cell_text latest) all c.loop.counter (seen_cell c.in-Some.cell)
      (g.W.Write.contents (inner_of c.args.output.now)) (g.W.Write.contents (inner_of c.loop.output))
      (g.W.Write.contents (inner_of c.write_cell.new.output)) at c.loop.invariant.written
      c.in_err-write_cell.ensures.prefix;
  digest = search rules;
  fits = search rules;
  failures_never_fall = search rules;
  failed = search rules;
}

pub loop-init : goal.loop-init
loop-init g c = record {
  next = c.cell_at-next.ensures.listed;
  written = Appends-nil (g.W.Write.contents (inner_of c.args.output.now));
  digest = λ m h. subst (Holds256 c.args.hasher.now) (sym (append-nil m)) h;
  count = search rules;
  walk = c.new-walk.ensures;
}

pub loop-preserved : goal.loop-preserved
loop-preserved g c =
    let all = entries c.args.replica.now.cells in
    let i = c.loop.counter in
    let cell = c.in-Some.cell in
    let at : slice_get all i ≡ Some (seen_cell cell) = sym c.loop.invariant.next
    ∙ ap (option_map seen_cell) c.in-Some.is in
    let slot : to_z w64 (of_z w64 cell.slot) ≡ cell.slot = search rules in
    let more = text_more (cell_text latest) all i (seen_cell cell) at in
    let done = flat_map (cell_text latest) (take i all) in
    let piece = cell_text latest (seen_cell cell) in
    let old = g.W.Write.contents (inner_of c.args.output.now) in
    let new = g.W.Write.contents (inner_of c.write_cell.new.output) in
    record {
      next = rw slot at (rw c.loop.invariant.walk at c.next_cell-next.ensures.next).listed
          ∙ next_of_sorted all i (seen_cell cell) (entries_sorted c.args.replica.now.cells) at;
      written = subst (Appends old new) (sym more) (Appends-trans old (g.W.Write.contents (inner_of c.loop.output)) new
          done piece c.loop.invariant.written c.in_ok-write_cell.ensures.whole);
      digest = λ m h. subst (Holds256 c.write_cell.new.hasher)
          (append_assoc m done piece ∙ ap (λ (l : List ℕ). m ++ l) (sym more))
          (c.in_ok-write_cell.ensures.digest (m ++ done) (c.loop.invariant.digest m h));
      count = search rules;
      walk = c.next_cell-next.ensures.same ∙ c.loop.invariant.walk;
    }

pub returns : goal.returns
returns g c = record {
  whole =
      let past = c.loop-test.false in
      let count = c.requires.count_given in
      let all = all_taken (entries c.args.replica.now.cells) c.loop.counter
      (omega (arith, past, count, len-entries c.args.replica.now.cells)) in
      subst (λ es. Appends (g.W.Write.contents (inner_of c.args.output.now))
      (g.W.Write.contents (inner_of c.loop.output))
      (flat_map (cell_text latest) es)) all c.loop.invariant.written;
  prefix =
      let past = c.loop-test.false in
      let count = c.requires.count_given in
      let all = all_taken (entries c.args.replica.now.cells) c.loop.counter
      (omega (arith, past, count, len-entries c.args.replica.now.cells)) in
      whole_is_prefix _ _ _ (subst (λ es. Appends (g.W.Write.contents (inner_of c.args.output.now))
      (g.W.Write.contents (inner_of c.loop.output)) (flat_map (cell_text latest) es)) all c.loop.invariant.written);
  digest =
      let past = c.loop-test.false in
      let count = c.requires.count_given in
      let all = all_taken (entries c.args.replica.now.cells) c.loop.counter
      (omega (arith, past, count, len-entries c.args.replica.now.cells)) in
      λ m h. subst (λ es. Holds256 c.loop.hasher (m ++ flat_map (cell_text latest) es)) all
      (c.loop.invariant.digest m h);
  fits = search rules;
  failures_never_fall = search rules;
  failed = search rules;
}
