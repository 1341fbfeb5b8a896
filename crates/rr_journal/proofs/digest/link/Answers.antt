use Rattle.std.proofs.Common.{◌≡◌, ℕ, List, [], ◌∷◌, ◌++◌, take, length, ap, ◌∙◌, append_assoc}
use Rattle.std.specs.Int.{w32, to_be_bytes}
use Rattle.sha2.specs.Sha256.{sha256}
use Rattle.rr_journal.specs.Digest.{cut_digest}
use Rattle.rr_journal.proofs.digest.link.Goals as goal

parts : (b l : List ℕ) (k : ℕ) (body : List ℕ) → ((b ++ l) ++ (k ∷ [])) ++ body ≡ b ++ (l ++ (k ∷ body))
parts b l k body = simp append_assoc

pub returns : goal.returns
unfolding cut_digest
returns c =
    let h = c.finalize.ensures _ (c.update-4.ensures _ (c.update-3.ensures _ (c.update-2.ensures _
    (c.update.ensures [] c.new-hasher.ensures)))) in
    let is : c.finalize.result ≡ sha256 (c.args.before.now ++ (to_be_bytes w32 (length c.args.body.now)
    ++ (c.args.kind ∷ c.args.body.now))) =
    h ∙ ap sha256 ((λ i. ((c.args.before.now ++ c.to_be_bytes.ensures i) ++ (c.args.kind ∷ [])) ++ c.args.body.now)
    ∙ parts c.args.before.now (to_be_bytes w32 (length c.args.body.now)) c.args.kind c.args.body.now) in
    c.cut.ensures ∙ ap (take 8) is
