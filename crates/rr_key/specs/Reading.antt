-- The reading of a key text, from left to right.
use Rattle.std.specs.Prelude.{◌≡◌, ℕ, zero, suc, ◌+◌, ◌≤◌, nat_le, Bool, true, false, ◌&&◌, ◌==◌, List, [], ◌∷◌, length, take, drop, IsTrue, Option, None, Some, if◌then◌else◌}
use Rattle.std.specs.List.{list_all}
use Rattle.std.specs.Ordering.{is_lt}
use Rattle.rr_text.specs.declared.limits.TheConstants.{MAX_KEY_TEXT, MAX_TAGS}
use Rattle.rr_key.specs.declared.class.Class.{Class}
use Rattle.rr_key.specs.declared.class.Class.TheVariants.{Measurement, Other}
use Rattle.rr_text.specs.declared.bytes.TheConstants.{COMMA, SPACE, EQUALS}
use Rattle.rr_key.specs.Name.{is_name}
use Rattle.rr_text.specs.Bytes.{bytes_cmp, strip}
use Rattle.rr_text.specs.Options.{◌>>=◌}
use Rattle.rr_key.specs.Series.{is_tag, tail_text}
use Rattle.rr_key.specs.Unit.{escape, unescape, name_len}

-- the written name at the beginning and the bytes after it, if it may be a name of a key
abbrev pub name_at : Class → List ℕ → Option (List ℕ × List ℕ)
name_at class text =
    let len = name_len class text in
    if is_name (take len text) then Some (take len text, drop len text) else None

-- the written key of the tag at the beginning, and the bytes after the tag
abbrev pub tag_at : List ℕ → Option (List ℕ × List ℕ)
tag_at text = do
  key ← name_at Other text
  value ← strip EQUALS key.1
  end ← name_at Other value
  Some (key.0, end.1)

-- whether the keys rise, the first of them above another key
abbrev pub rises : List ℕ → List (List ℕ × List ℕ) → Bool
rises before [] = true
rises before (tag ∷ tags) = is_lt (bytes_cmp before tag.0) && rises tag.0 tags

-- the bytes after the measurement or a tag: further tags with rising keys, a space and the field
pub record IsTail (before : List ℕ) (count : ℕ) (text : List ℕ) : Type 0 where
  pub tags : List (List ℕ × List ℕ)
  pub field : List ℕ
  pub rising : IsTrue (rises before tags)
  pub named : IsTrue (list_all is_tag tags)
  pub last : IsTrue (is_name field)
  pub few : count + length tags ≤ MAX_TAGS
  pub is : text ≡ tail_text tags field

-- a space and the field
abbrev pub IsLast : List ℕ → Type 0
IsLast text = (field : List ℕ) × IsTrue (is_name field) × (text ≡ SPACE ∷ escape Other field)

-- whether there is something, and it passes a test
abbrev pub is_some_and : {A : Type 0} → Option A → (A → Bool) → Bool
is_some_and None test = false
is_some_and (Some x) test = test x

-- whether a text is a space, the field and nothing more
abbrev pub is_last : List ℕ → Bool
is_last text = is_some_and (strip SPACE text) (λ field. is_some_and (name_at Other field) (λ name. length name.1 == 0))

-- the last part, or one more if a comma follows
abbrev pub if_comma : Option (List ℕ) → Bool → (List ℕ → Bool) → Bool
if_comma None last more = last
if_comma (Some tag) last more = more tag

-- whether a text is a tail after this key, with room for this many tags
abbrev pub is_tail : ℕ → List ℕ → List ℕ → Bool
is_tail zero before text = if_comma (strip COMMA text) (is_last text) (λ tag. false)
is_tail (suc room) before text = if_comma (strip COMMA text) (is_last text) (λ tag.
    is_some_and (tag_at tag) (λ key.
    is_lt (bytes_cmp before (unescape Other key.0)) && is_tail room (unescape Other key.0) key.1))

-- whether a text is a key text
unfoldable pub is_key_text : List ℕ → Bool
is_key_text text =
    nat_le (length text) MAX_KEY_TEXT && is_some_and (name_at Measurement text) (λ name. is_tail MAX_TAGS [] name.1)
