-- The parameters of a query: a form, as the URL Standard defines it.
use Rattle.std.specs.Prelude.{ℕ, List, [], ◌∷◌, Option, None, Some, if◌then◌else◌}
use Rattle.std.specs.Str.{bytes_eq}
use Rattle.form_urlencoded.specs.Form.{decode, raw_pairs}

-- the value first paired with a name, among pairs that are still encoded
abbrev pub first_value : List (List ℕ × List ℕ) → List ℕ → Option (List ℕ)
first_value [] name = None
first_value ((own, value) ∷ pairs) name =
    if bytes_eq (decode own) name then Some (decode value) else first_value pairs name

abbrev pub parameter_of : List ℕ → List ℕ → Option (List ℕ)
parameter_of query name = first_value (raw_pairs query) name
