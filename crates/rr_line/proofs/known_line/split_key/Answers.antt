-- What precedes the last space is the prefix, and what follows it the field.
use Rattle.std.proofs.Common.{◌≡◌, ◌∷◌, List, ℕ, None, take, drop, rules, subst, ◌∙◌}
use Rattle.rr_text.specs.declared.bytes.TheConstants.{SPACE, BACKSLASH}
use Rattle.rr_line.specs.Beginning.{IsCut}
use Rattle.rr_line.specs.Part.{before_last}
use Rattle.rr_line.proofs.CutLemmas.{cut_at_space}
use Rattle.rr_line.proofs.PartLemmas.{strip_some}
use Rattle.rr_line.proofs.known_line.split_key.Goals as goal

pub returns : goal.returns
returns c =
    let key = c.args.key.now in
    let at = c.in_ok-at.at in
    let field = c.in_ok-field.field.now in
    let prefix : take at key ≡ c.split_at.result.0.now = search rules in
    let none : before_last BACKSLASH (take at key) ≡ None = search rules in
    let follows : c.split_at.result.1.now ≡ SPACE ∷ field =
    strip_some SPACE c.split_at.result.1.now field (search rules) in
    let rest : drop at key ≡ c.split_at.result.1.now = search rules in
    subst (λ (t : List ℕ). IsCut key t field) prefix
    (cut_at_space key field at c.in_ok-at.ensures none (rest ∙ follows))
