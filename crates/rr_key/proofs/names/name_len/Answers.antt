use Rattle.std.proofs.Common.{◌≡◌, false, drop, refl, ◌∙◌, rules}
use Rattle.std.proofs.lemmas.Bool.{ne_eqb, eq-eqb}
use Rattle.rr_key.proofs.Walk.{rest_is, before, before_at, stops, goes_on, never}
use Rattle.rr_key.proofs.names.name_len.Goals as goal
use Rattle.rr_key.proofs.names.name_len.Goals.{then-at-eq0-via-then-at-eq0, then-at-eq0-via-else-at-eq0+then-text-end-ne-BACKSLASH}

pub returns-then-at-eq0-clause-value : goal.returns-then-at-eq0-clause-value
returns-then-at-eq0-clause-value c =
    let bare : before (drop c.loop-at.from c.args.text.now) c.in-Some.at ≡ false = elim c.then-at-eq0.branch [
      | then-at-eq0-via-then-at-eq0 w ↦ rw w.if-at-eq0.true refl
      | then-at-eq0-via-else-at-eq0+then-text-end-ne-BACKSLASH w ↦
          before_at c.args.text.now c.loop-at.from c.in-Some.at w.if-at-eq0.false
          ∙ ne_eqb _ 92 w.if-text-end-ne-BACKSLASH.true
    ] in
    stops c.args.class c.args.text.now c.loop-at.from c.in-Some.at (rw rest_is at c.in-Some.ensures) bare
    c.loop-at.invariant.so_far

pub loop-at-preserved : goal.loop-at-preserved
loop-at-preserved c =
    let taken = before_at c.args.text.now c.loop-at.from c.in-Some.at c.if-at-eq0.false
    ∙ eq-eqb _ 92 c.if-text-end-ne-BACKSLASH.false in
    record {
      within = search rules;
      so_far = goes_on c.args.class c.args.text.now c.loop-at.from c.in-Some.at (rw rest_is at c.in-Some.ensures) taken
          c.loop-at.invariant.so_far;
    }

pub returns-clause-value : goal.returns-clause-value
returns-clause-value c = never c.args.class c.args.text.now c.loop-at.from c.loop-at.invariant.within
    (rw rest_is at c.in_default.ensures) c.loop-at.invariant.so_far
