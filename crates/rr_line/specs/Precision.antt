-- The names of precisions.
use Rattle.std.specs.Prelude.{ℕ, List, codes, Option, None, Some, if◌then◌else◌}
use Rattle.std.specs.Str.{bytes_eq}
use Rattle.rr_line.specs.declared.precision.Precision.{Precision}
use Rattle.rr_line.specs.declared.precision.Precision.TheVariants.{Ns, Us, Ms, S}

abbrev pub precision_name : Precision → List ℕ
precision_name Ns = codes "ns"
precision_name Us = codes "us"
precision_name Ms = codes "ms"
precision_name S = codes "s"

-- the precision of a name
abbrev pub precision_named : List ℕ → Option Precision
precision_named name =
    if bytes_eq name (precision_name Ns) then Some Ns
    else (if bytes_eq name (precision_name Us) then Some Us
    else (if bytes_eq name (precision_name Ms) then Some Ms
    else (if bytes_eq name (precision_name S) then Some S else None)))
