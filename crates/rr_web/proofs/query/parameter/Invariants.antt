use Rattle.std.proofs.Common.{◌≡◌}
use Rattle.form_urlencoded.specs.Parse.{raw_pairs_left}
use Rattle.rr_web.specs.Query.{first_value, parameter_of}
use Rattle.rr_web.proofs.query.parameter.Given as goal

-- the pairs so far have other names
abbrev pub invariant-loop-own : goal.invariant-loop-own
invariant-loop-own l = parameter_of l.query l.name ≡ first_value (raw_pairs_left l.own-iterator) l.name
