-- The parts of a request's target (RFC 9112, section 3.2).
use Rattle.std.specs.Prelude.{ℕ, Bool, ◌||◌, ◌==◌, List, [], ◌∷◌, codes, Option, None, Some, if◌then◌else◌, unwrap_or}
use Rattle.std.specs.Str.{str_eq_ignore_ascii_case}
use Rattle.rr_text.specs.Bytes.{begins, strip}
use Rattle.rr_text.specs.Options.{◌>>=◌}
use Rattle.rr_text.specs.Text.{cut_at}
use Rattle.rr_web.specs.declared.target.TheConstants.{COLON, QUESTION_MARK, SLASH}

-- a scheme of HTTP, in either case
abbrev pub is_http : List ℕ → Bool
is_http scheme = str_eq_ignore_ascii_case scheme (codes "http") || str_eq_ignore_ascii_case scheme (codes "https")

-- what follows a scheme and two slashes
abbrev pub behind_slashes : List ℕ × List ℕ → Option (List ℕ)
behind_slashes (scheme, rest) = if is_http scheme then strip SLASH rest >>= strip SLASH else None

-- the same for a target, if it begins with these
abbrev pub behind_scheme : List ℕ → Option (List ℕ)
behind_scheme target = cut_at COLON target >>= behind_slashes

-- an authority goes up to the next slash or question mark (RFC 3986, section 3.2)
abbrev pub ends_authority : ℕ → Bool
ends_authority byte = byte == SLASH || byte == QUESTION_MARK

abbrev pub behind_authority : List ℕ → List ℕ
behind_authority [] = []
behind_authority (byte ∷ text) = if ends_authority byte then byte ∷ text else behind_authority text

-- what follows the authority of a target, if it has one
abbrev pub without_authority : List ℕ → Option (List ℕ) → List ℕ
without_authority target None = target
without_authority target (Some rest) = behind_authority rest

-- what is asked of a node: a target that is a path and a query, or these parts of an absolute one
abbrev pub asked_at : List ℕ → List ℕ
asked_at target = if begins SLASH target then target else without_authority target (behind_scheme target)

-- an empty path is that of the root (RFC 9110, section 4.2.3)
abbrev pub or_root : List ℕ → List ℕ
or_root [] = SLASH ∷ []
or_root (byte ∷ path) = byte ∷ path

-- what is before the first question mark, and what is after it
abbrev pub parts_at : List ℕ → List ℕ × List ℕ
parts_at text = unwrap_or (cut_at QUESTION_MARK text) (text, [])

unfoldable pub target_parts : List ℕ → List ℕ × List ℕ
target_parts target = (or_root (parts_at (asked_at target)).0, (parts_at (asked_at target)).1)
