use Rattle.std.proofs.Common.{rules, ◌≡◌, ◌<◌, ◌+◌, ◌*◌, ◌%◌, ◌^◌, length, remove, sym, ap, ◌∙◌, subst, arith, w64}
use Rattle.std.specs.Prelude.{bit_and, vec_len}
use Rattle.std.specs.Int.{bit_not}
use Rattle.std.proofs.lemmas.Nat.{and_le_l}
use Rattle.rr_packed.specs.Sparse.{item_at}
use Rattle.rr_packed.proofs.RankLemmas.{HasOneMore, less_by_and, ones_more}
use Rattle.rr_packed.proofs.SparseLemmas.{place_tells, place_none, item_absent, item_remove}
use Rattle.rr_packed.proofs.sparse.Sparse.remove.Goals as goal

pub returns-in_default-clause-removed : goal.returns-in_default-clause-removed
returns-in_default-clause-removed g c =
    let s = c.args.self.now in
    item_absent s.mask s.items.items c.args.number.value (sym c.in_default.ensures.place)

pub returns-clause-removed : goal.returns-clause-removed
returns-clause-removed g c = λ n.
    let s = c.args.self.now in
    let k = c.args.number.value in
    let at = c.in-Some.at in
    let left = bit_and s.mask (bit_not w64 (1 * 2 ^ k % 2 ^ 64)) in
    let fits : s.mask < 2 ^ 64 = search rules in
    let told = place_tells s.mask k at c.in-Some.ensures.place in
    let less : HasOneMore left s.mask k = less_by_and s.mask k fits c.args.number.fits told.0 in
    let within : at < length s.items.items = search rules in
    let items : c.remove.new.self.items ≡ remove s.items.items at = search rules in
    ap (λ xs. item_at left xs n) (items ∙ ap (remove s.items.items) told.1)
    ∙ item_remove left s.mask s.items.items k less (subst (λ i. i < length s.items.items) told.1 within) n

pub returns-clause-free : goal.returns-clause-free
returns-clause-free g c =
    let s = c.args.self.now in
    let k = c.args.number.value in
    let left = bit_and s.mask (bit_not w64 (1 * 2 ^ k % 2 ^ 64)) in
    let fits : s.mask < 2 ^ 64 = search rules in
    let told = place_tells s.mask k c.in-Some.at c.in-Some.ensures.place in
    let less : HasOneMore left s.mask k = less_by_and s.mask k fits c.args.number.fits told.0 in
    place_none left k less.was

pub invariant_of-self : goal.invariant_of-self
invariant_of-self g c =
    let s = c.args.self.now in
    let k = c.args.number.value in
    let left = bit_and s.mask (bit_not w64 (1 * 2 ^ k % 2 ^ 64)) in
    let fits : s.mask < 2 ^ 64 = search rules in
    let told = place_tells s.mask k c.in-Some.at c.in-Some.ensures.place in
    let less : HasOneMore left s.mask k = less_by_and s.mask k fits c.args.number.fits told.0 in
    let most = and_le_l s.mask (bit_not w64 (1 * 2 ^ k % 2 ^ 64)) in
    let low : left < 2 ^ 64 = omega arith in
    let ones = ones_more left s.mask k less low fits c.args.number.fits in
    let counted = s.counted in
    let len : vec_len c.remove.new.self + 1 ≡ vec_len s.items = search rules in
    record { counted = omega arith }
