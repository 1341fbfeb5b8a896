-- Records that can be written.
use Rattle.std.proofs.Common.{◌≤◌, List, [], ◌∷◌, ◌++◌, length}
use Rattle.std.specs.List.{AllByRecursion}
use Rattle.rr_journal.specs.declared.raw.RawRecord.{RawRecord}
use Rattle.rr_journal.specs.declared.raw.TheConstants.{MAX_BODY_LEN}

-- one more that can
pub all_fit_pushed : (raws : List RawRecord) (raw : RawRecord)
    → AllByRecursion (λ one. length one.body.items ≤ MAX_BODY_LEN) raws → length raw.body.items ≤ MAX_BODY_LEN
    → AllByRecursion (λ one. length one.body.items ≤ MAX_BODY_LEN) (raws ++ raw ∷ [])
all_fit_pushed [] raw fit more = (more, tt)
all_fit_pushed (r ∷ raws) raw fit more = (fit.0, all_fit_pushed raws raw fit.1 more)
