use Rattle.std.proofs.Common.{rules, ◌≡◌, ◌∙◌, ◌++◌, ◌≤◌, [], ap, arith, length, map}
use Rattle.rr_text.specs.declared.limits.TheConstants.{MAX_KEY_TEXT}
use Rattle.rr_text.specs.Results.{◌>>=◌}
use Rattle.rr_codec.specs.Reading.{alone}
use Rattle.rr_journal.specs.Body.{PackedCells, group_text}
use Rattle.rr_recovery.specs.Joining.{cells_read, named_by}
use Rattle.rr_commit.proofs.GroupingLemmas.{group_len}
use Rattle.rr_commit.proofs.packing.group_of.Goals as goal

pub returns : goal.returns
returns c =
    let packed = c.in_ok-packed.packed.items in
    let g : PackedCells = record { key = c.args.key.now; archive = c.args.archive; bytes = packed } in
    let none : c.new-bytes.result.items ≡ [] = search rules in
    let text : c.push_group.new.bytes.items ≡ group_text g =
    c.in_ok-push_group.ensures ∙ (λ i. none i
    ++ group_text (record { key = c.args.key.now; archive = c.args.archive; bytes = c.deref.ensures.value i })) in
    let long = ap length text ∙ group_len g in
    let size = c.in_ok-packed.ensures.size in
    let some = c.requires.some in
    let key : length c.args.key.now ≤ MAX_KEY_TEXT = search rules in
    record {
      group = g;
      text = text;
      has = λ i. map (named_by c.args.key.now c.args.archive)
          (cells_read (c.in_ok-packed.ensures.read i >>= alone));
      small = omega (arith, long, size, some, key);
    }
