-- The place that `memrchr` finds is where the text is cut.
use Rattle.std.proofs.Common.{◌≡◌, ℕ, ◌-◌, List, length, take, drop, ap, sym, ◌∙◌}
use Rattle.std.proofs.Math.Seq.{take-length}
use Rattle.std.proofs.lemmas.List.{length-drop}
use Rattle.rr_web.proofs.CutLemmas.{cut_last-none, cut_last-some}
use Rattle.rr_web.proofs.rows.cut_last.Goals as goal

-- the slice up to the end is what is left
rest_is : (n : ℕ) (text : List ℕ) → take (length text - n) (drop n text) ≡ drop n text
rest_is n text = ap (λ k. take k (drop n text)) (sym (length-drop n text)) ∙ take-length (drop n text)

pub returns-in-Some : goal.returns-in-Some
returns-in-Some c = rw rest_is (sym (cut_last-some c.args.text.now c.in-Some.at c.in-Some.ensures))

pub returns-in-None : goal.returns-in-None
returns-in-None c = sym (cut_last-none c.args.text.now c.in-None.ensures)
