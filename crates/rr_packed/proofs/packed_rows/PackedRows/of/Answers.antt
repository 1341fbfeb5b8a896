use Rattle.std.proofs.Common.{rules, ◌≡◌, ◌<◌, ◌^◌, length, vec_len, sym, ap, ◌∙◌, Ok, []}
use Rattle.rr_packed.specs.BlockRows.{items_in}
use Rattle.rr_packed.proofs.PackingLemmas.{packed_as}
use Rattle.rr_packed.proofs.packed_rows.PackedRows.of.Goals as goal

pub invariant_of-result : goal.invariant_of-result
invariant_of-result c =
    let mask : c.mask.result < 2 ^ 64 = search rules in
    let are = packed_as (items_in c.args.block.now) c.mask.result mask c.mask.ensures c.in-Ok.cells.items
    c.in_ok-bytes.bytes.items (c.in_ok-bytes.ensures ∙ ap (λ l. Ok (l, [])) c.deref.ensures.value) c.in-Ok.ensures in
    let len : vec_len c.in-Ok.cells ≡ length c.in-Ok.cells.items = search rules in
    record {
      packed = are.packed;
      masked = λ n clear. ap (λ f. f n) are.rows_are ∙ c.mask.ensures n clear;
      counted = c.len.ensures ∙ len ∙ sym (ap length are.cells_are);
    }

pub returns : goal.returns
returns c =
    let mask : c.mask.result < 2 ^ 64 = search rules in
    (packed_as (items_in c.args.block.now) c.mask.result mask c.mask.ensures c.in-Ok.cells.items
    c.in_ok-bytes.bytes.items (c.in_ok-bytes.ensures ∙ ap (λ l. Ok (l, [])) c.deref.ensures.value)
    c.in-Ok.ensures).rows_are
