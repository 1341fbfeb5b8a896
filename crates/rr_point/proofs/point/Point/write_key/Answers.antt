-- What precedes the field is the line's where the point says so; the key text of a point's field is a key text.
use Rattle.std.proofs.Common.{rules, ◌≡◌, List, ℕ, length, Result, Ok, Err, OnOk, sym, subst, refl}
use Rattle.rr_key.specs.Series.{IsKeyText}
use Rattle.rr_key.specs.Unit.{name_len}
use Rattle.rr_key.specs.declared.class.Class.TheVariants.{Other}
use Rattle.rr_key.proofs.MakingLemmas.{IsKeyText-made}
use Rattle.rr_point.specs.Key.{names_of, key_text}
use Rattle.rr_point.specs.Point.{point_view}
use Rattle.rr_point.proofs.PrefixLemmas.{key_after_prefix}
use Rattle.rr_point.proofs.point.Point.write_key.Goals as goal

pub returns-in-Some-clause-written : goal.returns-in-Some-clause-written
returns-in-Some-clause-written c =
    let p = point_view c.args.self.now in
    let field = c.args.field.now in
    let prefix : c.in-Some.prefix.now ≡ _ = c.args.self.now.prefix_of c.in-Some.prefix (search rules) in
    let spelled : name_len Other field ≡ length field = search rules in
    subst (λ (t : List ℕ). OnOk c.write_parts.result (c.write_parts.new.text.items ≡ t))
    (key_after_prefix p c.in-Some.prefix.now field prefix spelled) c.write_parts.ensures

-- where a text is written, it is a key text
grammar_of : {T E : Type 0} (result : Result T E) (text key : List ℕ) → IsKeyText key → OnOk result (text ≡ key)
    → OnOk result (IsKeyText text)
grammar_of (Ok t) text key is written = subst IsKeyText (sym written) is
grammar_of (Err e) text key is written = written

pub returns-in-Some-clause-grammar : goal.returns-in-Some-clause-grammar
returns-in-Some-clause-grammar c =
    let p = point_view c.args.self.now in
    let key = key_text p c.args.field.now in
    grammar_of c.write_parts.result c.write_parts.new.text.items key
    (IsKeyText-made (names_of p c.args.field.now) key c.requires refl) (returns-in-Some-clause-written c)
