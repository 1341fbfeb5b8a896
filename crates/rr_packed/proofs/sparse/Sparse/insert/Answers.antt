use Rattle.std.proofs.Common.{rules, ◌≡◌, ◌<◌, ◌≤◌, ◌+◌, ◌*◌, ◌%◌, ◌^◌, length, insert, ap, ◌∙◌, arith}
use Rattle.std.specs.Prelude.{bit_or, vec_len}
use Rattle.std.proofs.lemmas.Nat.{or_lt, mod_below, pow_pos}
use Rattle.rr_packed.specs.Sparse.{rank, item_at}
use Rattle.rr_packed.proofs.RankLemmas.{HasOneMore, more_by_or, ones_more}
use Rattle.rr_packed.proofs.SparseLemmas.{none_tells, item_insert}
use Rattle.rr_packed.proofs.sparse.Sparse.insert.Goals as goal

pub invariant_of-self-2 : goal.invariant_of-self-2
invariant_of-self-2 g c =
    let s = c.args.self.now in
    let k = c.args.number.value in
    let new = bit_or s.mask (1 * 2 ^ k % 2 ^ 64) in
    let fits : s.mask < 2 ^ 64 = search rules in
    let more : HasOneMore s.mask new k = more_by_or s.mask k c.args.number.fits (none_tells s.mask k c.requires) in
    let ones = ones_more s.mask new k more fits (or_lt 64 s.mask (1 * 2 ^ k % 2 ^ 64) fits
    (mod_below (1 * 2 ^ k) (2 ^ 64) (pow_pos 64))) c.args.number.fits in
    let counted = s.counted in
    let len : vec_len c.insert_at.new.items ≡ vec_len s.items + 1 = search rules in
    record { counted = omega arith }

pub returns : goal.returns
returns g c = record {
  changed =
      λ n.
      let s = c.args.self.now in
      let k = c.args.number.value in
      let new = bit_or s.mask (1 * 2 ^ k % 2 ^ 64) in
      let more : HasOneMore s.mask new k = more_by_or s.mask k c.args.number.fits (none_tells s.mask k c.requires) in
      let at : c.rank-at.result ≡ rank s.mask k = c.rank-at.ensures.rank in
      let fits : rank s.mask k ≤ length s.items.items = omega arith in
      let items : c.insert_at.new.items.items ≡ insert s.items.items c.rank-at.result c.args.item = search rules in
      ap (λ xs. item_at new xs n) (items ∙ ap (λ i. insert s.items.items i c.args.item) at)
      ∙ item_insert s.mask new s.items.items k c.args.item more fits n;
  unchanged = search rules;
  room = search rules;
}
