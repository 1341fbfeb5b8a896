-- How long connections may take.
use Rattle.std.specs.Prelude.{◌≡◌, ℕ, ◌≤◌, ◌-◌, Bool, true, false, not, ◌&&◌, ◌||◌, Option, Some, None, ⊤, ◌⊎◌, nat_le, if◌then◌else◌, IsTrue, IsFalse}
use Rattle.rr_reactor.specs.declared.limits.Limits.{Limits}
use Rattle.rr_reactor.specs.declared.watch.Stage.{Stage}
use Rattle.rr_reactor.specs.declared.watch.Stage.TheVariants.{Idle, Head, Upload, Answer, Download, Refused}
use Rattle.rr_reactor.specs.declared.watch.Watch.{Watch}
use Rattle.rr_reactor.specs.declared.watch.Candidate.{Candidate}
use Rattle.rr_reactor.specs.declared.watch.TheConstants.{GRACE}

-- how long a connection may wait in this stage
abbrev pub allowed : Limits → Stage → Option ℕ
allowed limits Idle = Some limits.idle
allowed limits Head = Some limits.head
allowed limits Upload = Some limits.upload
allowed limits Answer = None
allowed limits Download = Some limits.download
allowed limits Refused = Some limits.head

abbrev pub is_idle : Stage → Bool
is_idle Idle = true
is_idle Head = false
is_idle Upload = false
is_idle Answer = false
is_idle Download = false
is_idle Refused = false

-- the client's bytes are waited for within a request, or after a refusal
abbrev pub is_within_request : Stage → Bool
is_within_request Idle = false
is_within_request Head = true
is_within_request Upload = true
is_within_request Answer = false
is_within_request Download = false
is_within_request Refused = true

abbrev pub same_stage : Stage → Stage → Bool
same_stage Idle b = is_idle b
same_stage Head Head = true
same_stage Upload Upload = true
same_stage Answer Answer = true
same_stage Download Download = true
same_stage Refused Refused = true
same_stage a b = false

-- the time begins anew with another stage, and with each byte while a connection is idle
abbrev pub noted : Watch → Stage → Bool → ℕ → Watch
noted watch stage has_moved now =
    if same_stage stage watch.stage && not (has_moved && is_idle stage) then watch else record { stage = stage; since = now }

-- the allowed time is over
abbrev pub is_over : ℕ → ℕ → Option ℕ → Bool
is_over since now None = false
is_over since now (Some time) = nat_le time (now - since)

abbrev pub is_late : Limits → Watch → ℕ → Bool
is_late limits watch now = is_over watch.since now (allowed limits watch.stage)

-- an idle connection may be let go for a new one, and one within a request after a while
abbrev pub may_go : Watch → ℕ → Bool
may_go watch now = is_idle watch.stage || (is_within_request watch.stage && nat_le GRACE (now - watch.since))

abbrev pub candidate : Watch → ℕ → ℕ → Option Candidate
candidate watch key now =
    if may_go watch now then Some (record { key = key; is_idle = is_idle watch.stage; since = watch.since }) else None

-- one goes no later than another: it is idle and the other isn't, or they are alike in that, and it has waited at least
-- as long
abbrev pub GoesBefore : Candidate → Candidate → Type 0
GoesBefore a b =
    (IsTrue a.is_idle × IsFalse b.is_idle) ⊎ ((a.is_idle ≡ b.is_idle) × (a.since ≤ b.since))

abbrev pub GoesBeforeAny : Option Candidate → Option Candidate → Type 0
GoesBeforeAny None other = other ≡ None
GoesBeforeAny (Some a) None = ⊤
GoesBeforeAny (Some a) (Some b) = GoesBefore a b

-- the one of two connections, if there are any, that goes first
pub record IsFirstToGo (first second chosen : Option Candidate) : Type 0 where
  pub one : (chosen ≡ first) ⊎ (chosen ≡ second)
  pub before_first : GoesBeforeAny chosen first
  pub before_second : GoesBeforeAny chosen second
