-- The place that `memchr` finds is where the text is cut.
use Rattle.std.proofs.Common.{◌≡◌, ℕ, ◌-◌, List, length, take, drop, Some, None, ap, sym, ◌∙◌}
use Rattle.std.proofs.Math.Seq.{take-length}
use Rattle.std.proofs.lemmas.List.{length-drop}
use Rattle.rr_text.proofs.CutLemmas.{cut_at-found}
use Rattle.rr_text.proofs.text.cut.Goals as goal

-- the slice up to the end is what is left
rest_is : (n : ℕ) (text : List ℕ) → take (length text - n) (drop n text) ≡ drop n text
rest_is n text = ap (λ k. take k (drop n text)) (sym (length-drop n text)) ∙ take-length (drop n text)

pub returns-in-Some : goal.returns-in-Some
returns-in-Some c =
    rw rest_is (cut_at-found c.args.delimiter c.args.text.now (Some c.in-Some.at) c.in-Some.ensures)

pub returns-in-None : goal.returns-in-None
returns-in-None c = cut_at-found c.args.delimiter c.args.text.now None c.in-None.ensures
