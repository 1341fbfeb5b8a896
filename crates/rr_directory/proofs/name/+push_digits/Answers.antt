use Rattle.std.proofs.Common.{rules, ◌≡◌, ◌++◌, ◌∙◌, ap, ℕ, ◌+◌, ◌-◌, ◌<◌, ◌/◌, ◌%◌, List, [], ◌∷◌, arith, sym, append_assoc}
use Rattle.rr_directory.proofs.NameLemmas.{digits_more, digits_none}
use Rattle.rr_directory.specs.Names.{digits_of}
use Rattle.rr_directory.proofs.name.+push_digits.Goals as goal

pub returns-then-count-eq0 : goal.returns-then-count-eq0
returns-then-count-eq0 t c =
    sym (digits_none c.args.count c.args.number c.args.bytes.now.items (search rules))

pub returns : goal.returns
returns t c =
    let old = c.args.bytes.now.items in
    let before = digits_of (c.args.count - 1) (c.args.number / 10) in
    let last = (48 + c.args.number % 10) ∷ [] in
    let some : 0 < c.args.count = omega (arith, c.if-count-eq0.false) in
    let items : c.push.new.self.items ≡ (old ++ before) ++ last = search rules in
    items ∙ append_assoc old before last
    ∙ ap (λ (ds : List ℕ). old ++ ds) (sym (digits_more c.args.count c.args.number some))
