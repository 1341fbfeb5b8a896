-- The names of a line: how they are written, and what they may be.
use Rattle.std.proofs.Common.{◌≡◌, ℕ, ◌<◌, true, false, eqb, List, [], ◌∷◌, ◌++◌, length, refl, sym, ap, subst, ◌∙◌, arith}
use Rattle.std.proofs.lemmas.Bool.{or_parts}
use Rattle.std.proofs.lemmas.List.Folds.{list_any-append}
use Rattle.std.specs.List.{list_any}
use Rattle.rr_text.specs.Bytes.{HasNoLineFeed}
use Rattle.rr_key.specs.declared.class.Class.{Class}
use Rattle.rr_key.specs.Name.{is_name, ends_in_backslash}
use Rattle.rr_key.specs.Unit.{escape, unescape}
use Rattle.rr_key.proofs.EscapeLemmas.{unescape-escape}
use Rattle.rr_key.proofs.NameLemmas.{is_name-escape, ends-escape}
use Rattle.rr_text.specs.declared.bytes.TheConstants.{LINE_FEED}
use Rattle.rr_line.specs.Part.{IsName}
use Rattle.rr_line.proofs.PartLemmas.{not_zero}

-- a name of a line: written in the one way, and a name once it is unescaped
pub record IsGood (class : Class) (name : List ℕ) : Type 0 where
  pub written : escape class (unescape class name) ≡ name
  pub named : is_name (unescape class name) ≡ true

-- a text without a line feed has none in its parts
pub none_in_parts : (prefix rest : List ℕ) → HasNoLineFeed (prefix ++ rest) → HasNoLineFeed prefix × HasNoLineFeed rest
none_in_parts prefix rest h =
    or_parts (list_any (λ byte. eqb byte LINE_FEED) prefix) (list_any (λ byte. eqb byte LINE_FEED) rest)
    (sym (list_any-append (λ byte. eqb byte LINE_FEED) prefix rest) ∙ h)

none_of_text : (text prefix rest : List ℕ) → HasNoLineFeed text → text ≡ prefix ++ rest
    → HasNoLineFeed prefix × HasNoLineFeed rest
none_of_text text prefix rest h whole = none_in_parts prefix rest (subst HasNoLineFeed whole h)

is_good : (class : Class) (text name rest : List ℕ) → HasNoLineFeed text → IsName class text name rest → 0 < length rest
    → IsGood class name
is_good class text name [] none h some = absurd (omega (arith, some))
is_good class text name (byte ∷ rest) none h some =
    let plain : ends_in_backslash name ≡ false = ap ends_in_backslash h.units ∙ ends-escape class h.bytes ∙ h.ended.1 in
    let clear = (none_of_text text name (byte ∷ rest) none h.whole).0 in
    let read : unescape class name ≡ h.bytes = ap (unescape class) h.units ∙ unescape-escape class h.bytes in
    let named : is_name name ≡ true = rw (not_zero (length name) (length name) refl h.some, clear, plain) refl in
    record {
      written = ap (escape class) read ∙ sym h.units;
      named = ap is_name read ∙ sym (is_name-escape class h.bytes) ∙ ap is_name (sym h.units) ∙ named;
    }

-- a name of a text without a line feed that something follows
pub name_is_good : (class : Class) (text name rest : List ℕ) → HasNoLineFeed text → IsName class text name rest
    → 0 < length rest → IsGood class name × HasNoLineFeed rest
name_is_good class text name rest none h some = (
  is_good class text name rest none h some,
  (none_of_text text name rest none h.whole).1,
)
