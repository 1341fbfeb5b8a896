use Rattle.std.proofs.Common.{◌≡◌, ℕ, ◌+◌, ◌-◌, List, true, false, length, take, drop, sym, ap, ◌∙◌, arith}
use Rattle.std.proofs.lemmas.List.{length-drop, take_all}
use Rattle.rr_journal.specs.Witness.{has_witness, is_witness_at}
use Rattle.rr_journal.proofs.WitnessLemmas.{by_first, none_behind}
use Rattle.rr_journal.proofs.witness.has_witness.Goals as goal

-- the slice from an index on
rest_of : (bytes : List ℕ) (i : ℕ) → take (length bytes - i) (drop i bytes) ≡ drop i bytes
rest_of bytes i = take_all (length bytes - i) (drop i bytes) (omega (arith, length-drop i bytes))

pub returns-then-is_witness_at : goal.returns-then-is_witness_at
returns-then-is_witness_at c =
    let key = c.args.key.now.bytes in
    let bytes = c.args.bytes.now in
    let i = c.loop-index.index in
    let witnessed = ap (is_witness_at key c.loop-index.at) (sym (rest_of bytes i)) ∙ sym c.if-is_witness_at.ensures in
    sym (by_first key c.loop-index.at bytes i 0 c.loop-index-test.true true witnessed) ∙ c.loop-index.invariant

pub loop-index-preserved : goal.loop-index-preserved
loop-index-preserved c =
    let key = c.args.key.now.bytes in
    let bytes = c.args.bytes.now in
    let i = c.loop-index.index in
    let none = ap (is_witness_at key c.loop-index.at) (sym (rest_of bytes i)) ∙ sym c.if-is_witness_at.ensures in
    ap (λ n. has_witness key n (drop (i + 1) bytes)) c.saturating_add-at.ensures
    ∙ sym (by_first key c.loop-index.at bytes i 0 c.loop-index-test.true false none) ∙ c.loop-index.invariant

pub returns : goal.returns
returns c =
    sym (none_behind c.args.key.now.bytes c.loop-index.at c.args.bytes.now c.loop-index.index c.loop-index-test.false)
    ∙ c.loop-index.invariant
