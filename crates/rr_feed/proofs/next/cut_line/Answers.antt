use Rattle.std.proofs.Common.{◌≡◌, ℕ, ◌-◌, List, length, take, drop, ap, sym, ◌∙◌}
use Rattle.std.proofs.Math.Seq.{take-length}
use Rattle.std.proofs.lemmas.List.{length-drop}
use Rattle.rr_feed.proofs.SearchLemmas.{IsCut-found, HasNoLineFeed-unfound}
use Rattle.rr_feed.proofs.next.cut_line.Goals as goal

-- the slice up to the end is what is left
rest_is : (n : ℕ) (text : List ℕ) → take (length text - n) (drop n text) ≡ drop n text
rest_is n text = ap (λ k. take k (drop n text)) (sym (length-drop n text)) ∙ take-length (drop n text)

pub returns-in-Some : goal.returns-in-Some
returns-in-Some c =
    let found = rw rest_is at c.in-Some.ensures in
    rw rest_is (IsCut-found c.args.left.bytes.now c.args.left.searched c.in-Some.found c.args.left.is_searched found)

pub returns-in-None : goal.returns-in-None
returns-in-None c =
    let found = rw rest_is at c.in-None.ensures in
    HasNoLineFeed-unfound c.args.left.bytes.now c.args.left.searched c.args.left.is_searched found
