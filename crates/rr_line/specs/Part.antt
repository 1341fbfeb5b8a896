-- The parts of a line, and where each of them ends.
use Rattle.std.specs.Prelude.{◌≡◌, ℕ, ◌<◌, ◌≤◌, Bool, true, ◌==◌, List, [], ◌∷◌, ◌++◌, length, take, drop, Option, None, Some, option_map, unwrap_or, if◌then◌else◌}
use Rattle.rr_key.specs.declared.class.Class.{Class}
use Rattle.rr_key.specs.Class.{is_special}
use Rattle.rr_key.specs.Name.{MayFollow}
use Rattle.rr_key.specs.Unit.{escape}
use Rattle.rr_text.specs.declared.bytes.TheConstants.{RETURN, SPACE}

-- a text without the spaces at its beginning
abbrev pub skip_spaces : List ℕ → List ℕ
skip_spaces [] = []
skip_spaces (byte ∷ rest) = if byte == SPACE then skip_spaces rest else byte ∷ rest

-- the text before a byte that ends it
abbrev pub before_last : ℕ → List ℕ → Option (List ℕ)
before_last byte [] = None
before_last byte (last ∷ []) = if last == byte then Some [] else None
before_last byte (first ∷ next ∷ rest) = option_map (λ prefix. first ∷ prefix) (before_last byte (next ∷ rest))

-- a line without the carriage return at its end and the spaces at its beginning
abbrev pub content : List ℕ → List ℕ
content line = skip_spaces (unwrap_or (before_last RETURN line) line)

-- the prefix of this length, and what follows it
abbrev pub cut_after : ℕ → List ℕ → List ℕ × List ℕ
cut_after len text = (take len text, drop len text)

-- nothing follows a part, or a byte that ends it
abbrev pub Ends : (ℕ → Bool) → List ℕ → Type 0
Ends test [] = Unit {0}
Ends test (byte ∷ rest) = test byte ≡ true

-- text = name rest; the name is one unit or more, each of which writes a byte: a special byte with a backslash before
-- it, any other byte as itself. What follows is nothing, or a special byte that the name does not take.
pub record IsName (class : Class) (text name rest : List ℕ) : Type 0 where
  pub bytes : List ℕ
  pub some : 0 < length name
  pub units : name ≡ escape class bytes
  pub ended : MayFollow class bytes rest
  pub whole : text ≡ name ++ rest

-- there is no name at the beginning: the text is empty, or begins with a special byte
abbrev pub HasNoName : Class → List ℕ → Type 0
HasNoName class text = Ends (is_special class) text

-- a number of bytes at the beginning of a text, as the definition says
pub record IsPrefixLen (len : ℕ) (text : List ℕ) (result : ℕ) : Type 0 where
  pub value : result ≡ len
  pub within : result ≤ length text
