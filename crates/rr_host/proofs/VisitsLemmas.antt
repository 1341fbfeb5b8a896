-- Calls of visits that grow.
use Rattle.std.proofs.Common.{List, ◌++◌, Option}
use Rattle.rr_host.specs.Visits.{Call, HasCalled}
use Rattle.rr_host.proofs.CallsLemmas.{grows_on}

-- calls, and then others
pub called_more : (a b c : Option (List Call)) (xs ys : List Call) → HasCalled a b xs → HasCalled b c ys
    → HasCalled a c (xs ++ ys)
called_more a b c xs ys first later = grows_on a b c xs ys first later
