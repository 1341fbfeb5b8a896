-- The names of precisions in writes over HTTP: those of InfluxDB's first version, and of its second.
use Rattle.std.specs.Prelude.{ℕ, Bool, ◌||◌, List, codes, nat_eq}
use Rattle.std.specs.Cmp.Lexicographic.{pointwise}
use Rattle.rr_line.specs.declared.precision.Precision.{Precision}
use Rattle.rr_line.specs.declared.precision.Precision.TheVariants.{Ns, Us, Ms, S}
use Rattle.rr_line.specs.Precision.{precision_name}

abbrev pub is_text : List ℕ → List ℕ → Bool
is_text text other = pointwise nat_eq text other

-- the name in InfluxDB's first version
abbrev pub short_name : Precision → List ℕ
short_name Ns = codes "n"
short_name Us = codes "u"
short_name Ms = codes "ms"
short_name S = codes "s"

abbrev pub is_precision : List ℕ → Precision → Bool
is_precision text precision = is_text text (precision_name precision) || is_text text (short_name precision)
