use Rattle.std.proofs.Common.{◌≡◌, ◌+◌, ◌++◌, ℕ, List, [], None, Ok, map, drop, length, get_or, append_assoc, refl, sym, ap, ◌∙◌, arith}
use Rattle.std.proofs.lemmas.List.{at_drop_more, append-nil}
use Rattle.std.proofs.Math.Seq.{drop-length}
use Rattle.rr_cluster.specs.declared.script.event.Event.TheVariants as event
use Rattle.rr_cluster.specs.declared.script.event.ScriptLine.{ScriptLine}
use Rattle.rr_cluster.specs.Model.{cell_model}
use Rattle.rr_cluster.specs.Output.{after_line, output_from, output_of}
use Rattle.rr_cluster.specs.Script.{line_view, parsed_view}
use Rattle.rr_cluster.proofs.AgreementLemmas.{scripts_agree}
use Rattle.rr_cluster.proofs.ScriptLemmas.{line_says_one_line}
use Rattle.rr_cluster.proofs.running.run_on.Goals as goal

abbrev any : ScriptLine
any = record { number = 0; parsed = Ok (event.Schema (record { ref_ptr = (0, 0); now = [] }) None) }

pub loop-line-init : goal.loop-line-init
loop-line-init g c =
    let views = c.in_ok-lines.ensures in
    (None, tt, rw (c.new-text.ensures.items, c.deref-line-items.ensures.value, views) refl)

pub run_line-requires-clause-line : goal.run_line-requires-clause-line
run_line-requires-clause-line g c =
    let views = c.in_ok-lines.ensures in
    line_says_one_line c.deref-line-items.result.now c.args.script.now c.loop-line.line-index any
    (rw c.deref-line-items.ensures.value views) c.loop-line-test.true

pub run_line-requires-clause-state : goal.run_line-requires-clause-state
run_line-requires-clause-state g c = (c.loop-line.invariant.0, c.loop-line.invariant.1)

pub loop-line-preserved : goal.loop-line-preserved
loop-line-preserved g c =
    let lines = c.deref-line-items.result.now in
    let i = c.loop-line.line-index in
    let before = c.loop-line.invariant in
    let m = before.0 in
    let line = get_or lines i any in
    let done = after_line cell_model m line.number (parsed_view line.parsed) in
    let printed = c.in_ok-run_line.ensures m before.1 in
    let rest = output_from cell_model done.0 (map line_view (drop (i + 1) lines)) in
    let more = at_drop_more (λ (ls : List ScriptLine). output_from cell_model m (map line_view ls)) lines i any
    c.loop-line-test.true in (
      done.0,
      printed.1,
      ap (λ (text : List ℕ). text ++ rest) printed.0 ∙ append_assoc c.loop-line.text.items done.1 rest
          ∙ ap (λ (text : List ℕ). c.loop-line.text.items ++ text) (sym more) ∙ before.2,
    )

pub returns : goal.returns
returns g c =
    let lines = c.deref-line-items.result.now in
    let before = c.loop-line.invariant in
    let last : c.loop-line.line-index ≡ length lines =
    omega (arith, c.loop-line-test.false, c.loop-line.auto.line-index-end) in
    let none = ap (λ (k : ℕ). output_from cell_model before.0 (map line_view (drop k lines))) last
    ∙ ap (λ (ls : List ScriptLine). output_from cell_model before.0 (map line_view ls)) (drop-length lines) in
    let cells : c.loop-line.text.items ≡ output_of cell_model c.args.script.now =
    sym (append-nil c.loop-line.text.items)
    ∙ ap (λ (text : List ℕ). c.loop-line.text.items ++ text) (sym none) ∙ before.2 in
    record { cells = cells; samples = cells ∙ scripts_agree c.args.script.now }
