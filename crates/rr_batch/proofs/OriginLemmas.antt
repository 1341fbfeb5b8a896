-- The record of an origin.
use Rattle.std.proofs.Common.{◌≡◌, ℕ, ◌≤◌, length, inl, inr, arith}
use Rattle.rr_journal.specs.declared.fault.JournalFault.{JournalFault}
use Rattle.rr_journal.specs.declared.fault.JournalFault.TheVariants.{Memory}
use Rattle.rr_journal.specs.declared.raw.TheConstants.{MAX_BODY_LEN}
use Rattle.rr_journal.specs.Body.{HasOrigin, IsEncodeFault, body_text, raw_text}

-- it is short enough to be written
origin_fits : (origin : ℕ) → length (raw_text (HasOrigin origin)).body ≤ MAX_BODY_LEN
unfolding body_text
origin_fits origin = omega arith

-- whatever refused its encoding was memory
pub only_memory : (origin : ℕ) (fault : JournalFault) → IsEncodeFault (body_text (HasOrigin origin)) fault
    → fault ≡ Memory
only_memory origin fault (inl memory) = memory
only_memory origin fault (inr long) =
    let fits = origin_fits origin in let past = long.1 in absurd (omega (arith, fits, past))
