use Rattle.std.proofs.Common.{◌+◌, ◌≤◌, ◌∙◌, sym, arith}
use Rattle.std.proofs.lemmas.Bool.{false≢true}
use Rattle.rr_key.specs.declared.class.Class.TheVariants.{Other}
use Rattle.rr_key.specs.Unit.{unescape}
use Rattle.rr_key.proofs.TailLemmas.{step_of, no_step, last_of, step_shorter}
use Rattle.rr_key.proofs.key_text.is_tail.Goals as goal
use Rattle.rr_key.proofs.key_text.is_tail.Goals.{then-count-eq-MAX_TAGS-via-then-count-eq-MAX_TAGS, then-count-eq-MAX_TAGS-via-else-count-eq-MAX_TAGS+then-not-is_below}

pub returns-in_default-split_tag : goal.returns-in_default-split_tag
returns-in_default-split_tag c = (
  λ t. absurd cc,
  λ tail. absurd (no_step (unescape Other c.loop-tag.before.now) c.loop-tag.count c.loop-tag.left.now
      c.in-Some.tag.now (sym c.in-Some.ensures) (sym c.in_default-split_tag.ensures)
      (c.loop-tag.invariant.same.1 tail)),
)

pub returns-then-count-eq-MAX_TAGS : goal.returns-then-count-eq-MAX_TAGS
returns-then-count-eq-MAX_TAGS c =
    let step = step_of (unescape Other c.loop-tag.before.now) c.loop-tag.count c.loop-tag.left.now c.in-Some.tag.now
    c.in-Some-split_tag.key.now c.in-Some-split_tag.rest.now (sym c.in-Some.ensures)
    (sym c.in-Some-split_tag.ensures) in (
      λ t. absurd cc,
      λ tail.
          let is = step.0 (c.loop-tag.invariant.same.1 tail) in
          elim c.then-count-eq-MAX_TAGS.branch [
            | then-count-eq-MAX_TAGS-via-then-count-eq-MAX_TAGS w ↦
                absurd (omega (arith, is.room, w.if-count-eq-MAX_TAGS.true))
            | then-count-eq-MAX_TAGS-via-else-count-eq-MAX_TAGS+then-not-is_below w ↦
                absurd (false≢true (sym w.if-not-is_below.true ∙ w.is_below.ensures ∙ is.above))
          ],
    )

pub loop-tag-smaller : goal.loop-tag-smaller
loop-tag-smaller c = step_shorter c.loop-tag.left.now c.in-Some.tag.now c.in-Some-split_tag.key.now
    c.in-Some-split_tag.rest.now (sym c.in-Some.ensures) (sym c.in-Some-split_tag.ensures)

pub loop-tag-preserved : goal.loop-tag-preserved
loop-tag-preserved c =
    let step = step_of (unescape Other c.loop-tag.before.now) c.loop-tag.count c.loop-tag.left.now c.in-Some.tag.now
    c.in-Some-split_tag.key.now c.in-Some-split_tag.rest.now (sym c.in-Some.ensures)
    (sym c.in-Some-split_tag.ensures) in
    let room : c.loop-tag.count + 1 ≤ 32 = omega (arith, c.loop-tag.invariant.few, c.if-count-eq-MAX_TAGS.false) in
    record {
      few = room;
      same = (
        λ t. c.loop-tag.invariant.same.0 (step.1 (record
            { above = sym c.is_below.ensures ∙ c.if-not-is_below.false; room = room; tail = t })),
        λ tail. (step.0 (c.loop-tag.invariant.same.1 tail)).tail,
      );
    }

pub returns : goal.returns
returns c =
    let last = last_of (unescape Other c.loop-tag.before.now) c.loop-tag.count c.loop-tag.left.now
    (sym c.in_default.ensures) c.loop-tag.invariant.few in (
      λ t. c.loop-tag.invariant.same.0 (last.1 (c.is_last.ensures.0 t)),
      λ tail. c.is_last.ensures.1 (last.0 (c.loop-tag.invariant.same.1 tail)),
    )

pub loop-tag-init : goal.loop-tag-init
loop-tag-init c = record { few = omega arith; same = (λ t. t, λ t. t) }
