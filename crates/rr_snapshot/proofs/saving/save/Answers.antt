use Rattle.std.proofs.Common.{rules, ◌++◌, arith, []}
use Rattle.std.specs.FinMap.{entries, len, len-entries}
use Rattle.std.specs.List.{flat_map}
use Rattle.rr_io.specs.Counted.{inner_of}
use Rattle.rr_page.specs.CellText.{cell_text}
use Rattle.rr_page.specs.Version.{latest}
use Rattle.rr_snapshot.proofs.SaveLemmas.{count_is, piece_is, digest_is, prefix_of_head, prefix_of_cells, prefix_of_digest, written_whole}
use Rattle.rr_snapshot.proofs.WriteLemmas.{whole_is_prefix}
use Rattle.rr_snapshot.proofs.saving.save.Goals as goal

pub returns-in_err-write_piece-clause-saves : goal.returns-in_err-write_piece-clause-saves
returns-in_err-write_piece-clause-saves g c = record {
  whole = search rules;
  prefix =
      let es = entries c.args.replica.now.cells in
      let counted = count_is (len c.args.replica.now.cells) c.cell_count-count.result c.cell_count-count.ensures
      (omega (arith, c.if-count.false)) in
      let is = piece_is c.deref.result.now c.in_ok-head.head.items c.args.replica.now.schema c.schema.result.now
      c.args.replica.now.origin c.origin.result _ es c.deref.ensures.value c.in_ok-head.ensures c.schema.ensures.value
      c.origin.ensures (omega (arith, counted, len-entries c.args.replica.now.cells)) in
      let a = g.W.Write.contents (inner_of c.args.output.now) in
      let b = g.W.Write.contents (inner_of c.write_piece.new.output) in
      prefix_of_head c.args.replica.now.schema c.args.replica.now.origin es c.deref.result.now is a b
      c.in_err-write_piece.ensures.writes.prefix;
  failures_never_fall = search rules;
  failed = search rules;
}

pub returns-in_err-write_cells-clause-saves : goal.returns-in_err-write_cells-clause-saves
returns-in_err-write_cells-clause-saves g c = record {
  whole = search rules;
  prefix =
      let es = entries c.args.replica.now.cells in
      let counted = count_is (len c.args.replica.now.cells) c.cell_count-count.result c.cell_count-count.ensures
      (omega (arith, c.if-count.false)) in
      let is = piece_is c.deref.result.now c.in_ok-head.head.items c.args.replica.now.schema c.schema.result.now
      c.args.replica.now.origin c.origin.result _ es c.deref.ensures.value c.in_ok-head.ensures c.schema.ensures.value
      c.origin.ensures (omega (arith, counted, len-entries c.args.replica.now.cells)) in
      let a = g.W.Write.contents (inner_of c.args.output.now) in
      let b = g.W.Write.contents (inner_of c.write_piece.new.output) in
      let d = g.W.Write.contents (inner_of c.write_cells.new.output) in
      prefix_of_cells c.args.replica.now.schema c.args.replica.now.origin es c.deref.result.now is a b d
      c.in_ok-write_piece.ensures.writes.whole c.in_err-write_cells.ensures.prefix;
  failures_never_fall = search rules;
  failed = search rules;
}

pub returns-in_err-write_all-clause-saves : goal.returns-in_err-write_all-clause-saves
returns-in_err-write_all-clause-saves g c = record {
  whole = search rules;
  prefix =
      let es = entries c.args.replica.now.cells in
      let counted = count_is (len c.args.replica.now.cells) c.cell_count-count.result c.cell_count-count.ensures
      (omega (arith, c.if-count.false)) in
      let is = piece_is c.deref.result.now c.in_ok-head.head.items c.args.replica.now.schema c.schema.result.now
      c.args.replica.now.origin c.origin.result _ es c.deref.ensures.value c.in_ok-head.ensures c.schema.ensures.value
      c.origin.ensures (omega (arith, counted, len-entries c.args.replica.now.cells)) in
      let a = g.W.Write.contents (inner_of c.args.output.now) in
      let b = g.W.Write.contents (inner_of c.write_piece.new.output) in
      let d = g.W.Write.contents (inner_of c.write_cells.new.output) in
      let e = g.W.Write.contents (inner_of c.write_all.new.output) in
      let digest = digest_is c.args.replica.now.schema c.args.replica.now.origin es c.deref.result.now is
      c.finalize.result (c.finalize.ensures (c.deref.result.now ++ flat_map (cell_text latest) es)
      (c.in_ok-write_cells.ensures.digest c.deref.result.now (c.write_piece.ensures.digest [] c.new-hasher.ensures)))
      in
      prefix_of_digest c.args.replica.now.schema c.args.replica.now.origin es c.deref.result.now is a b d e
      c.finalize.result c.in_ok-write_piece.ensures.writes.whole c.in_ok-write_cells.ensures.whole digest
      c.in_err-write_all.ensures.prefix;
  failures_never_fall = search rules;
  failed = search rules;
}

pub returns-clause-saves : goal.returns-clause-saves
returns-clause-saves g c = record {
  whole =
      let es = entries c.args.replica.now.cells in
      let counted = count_is (len c.args.replica.now.cells) c.cell_count-count.result c.cell_count-count.ensures
      (omega (arith, c.if-count.false)) in
      let is = piece_is c.deref.result.now c.in_ok-head.head.items c.args.replica.now.schema c.schema.result.now
      c.args.replica.now.origin c.origin.result _ es c.deref.ensures.value c.in_ok-head.ensures c.schema.ensures.value
      c.origin.ensures (omega (arith, counted, len-entries c.args.replica.now.cells)) in
      let a = g.W.Write.contents (inner_of c.args.output.now) in
      let b = g.W.Write.contents (inner_of c.write_piece.new.output) in
      let d = g.W.Write.contents (inner_of c.write_cells.new.output) in
      let e = g.W.Write.contents (inner_of c.write_all.new.output) in
      let digest = digest_is c.args.replica.now.schema c.args.replica.now.origin es c.deref.result.now is
      c.finalize.result (c.finalize.ensures (c.deref.result.now ++ flat_map (cell_text latest) es)
      (c.in_ok-write_cells.ensures.digest c.deref.result.now (c.write_piece.ensures.digest [] c.new-hasher.ensures)))
      in
      written_whole c.args.replica.now.schema c.args.replica.now.origin es c.deref.result.now is a b d e
      c.finalize.result
      c.in_ok-write_piece.ensures.writes.whole c.in_ok-write_cells.ensures.whole digest c.in_ok-write_all.ensures.whole;
  prefix =
      let es = entries c.args.replica.now.cells in
      let counted = count_is (len c.args.replica.now.cells) c.cell_count-count.result c.cell_count-count.ensures
      (omega (arith, c.if-count.false)) in
      let is = piece_is c.deref.result.now c.in_ok-head.head.items c.args.replica.now.schema c.schema.result.now
      c.args.replica.now.origin c.origin.result _ es c.deref.ensures.value c.in_ok-head.ensures c.schema.ensures.value
      c.origin.ensures (omega (arith, counted, len-entries c.args.replica.now.cells)) in
      let a = g.W.Write.contents (inner_of c.args.output.now) in
      let b = g.W.Write.contents (inner_of c.write_piece.new.output) in
      let d = g.W.Write.contents (inner_of c.write_cells.new.output) in
      let e = g.W.Write.contents (inner_of c.write_all.new.output) in
      let digest = digest_is c.args.replica.now.schema c.args.replica.now.origin es c.deref.result.now is
      c.finalize.result (c.finalize.ensures (c.deref.result.now ++ flat_map (cell_text latest) es)
      (c.in_ok-write_cells.ensures.digest c.deref.result.now (c.write_piece.ensures.digest [] c.new-hasher.ensures)))
      in
      whole_is_prefix a e _
      (written_whole c.args.replica.now.schema c.args.replica.now.origin es c.deref.result.now is a
      b
      d e c.finalize.result c.in_ok-write_piece.ensures.writes.whole c.in_ok-write_cells.ensures.whole digest
      c.in_ok-write_all.ensures.whole);
  failures_never_fall = search rules;
  failed = search rules;
}
