-- How long to wait before a peer that can't be followed is called again.
use Rattle.std.specs.Prelude.{ℕ, ◌*◌, ◌-◌, nat_le, Option, None, Some, max, min, if◌then◌else◌}
use Rattle.rr_replication.specs.declared.pace.Pace.{Pace}
use Rattle.rr_replication.specs.declared.pace.Reached.{Reached}
use Rattle.rr_replication.specs.declared.pace.Reached.TheVariants.{Journal, Checkpoint}
use Rattle.rr_replication.specs.declared.pace.TheConstants.{LONGEST_PAUSE}

-- how many bytes of a journal that ends there aren't read yet: while a checkpoint is read, all, and at least one
abbrev pub lag_at : Reached → ℕ → ℕ
lag_at (Journal offset) end = end - offset
lag_at (Checkpoint offset) end = max end 1

-- the farther of a place at which following failed before, and one at which it fails now
abbrev pub failed_at : Option ℕ → ℕ → Option ℕ
failed_at None offset = Some offset
failed_at (Some before) offset = Some (max before offset)

-- a place at which following failed is left once one beyond it is reached
abbrev pub left_at : Option ℕ → ℕ → Option ℕ
left_at None offset = None
left_at (Some failed) offset = if nat_le offset failed then Some failed else None

-- a peer is followed
abbrev pub steady : Pace
steady = record { journal = None; checkpoint = None; pause = 1 }

-- the pause after this one
abbrev pub longer : ℕ → ℕ
longer pause = min (pause * 2) LONGEST_PAUSE

-- the pace after following failed at a place, or nowhere
abbrev pub after_failure : Pace → Option Reached → Pace
after_failure p None = record { journal = p.journal; checkpoint = p.checkpoint; pause = longer p.pause }
after_failure p (Some (Journal offset)) =
    record { journal = failed_at p.journal offset; checkpoint = p.checkpoint; pause = longer p.pause }
after_failure p (Some (Checkpoint offset)) =
    record { journal = p.journal; checkpoint = failed_at p.checkpoint offset; pause = longer p.pause }

-- the pause is a second again, once all places at which following failed are left
abbrev pub paced_by : Option ℕ → Option ℕ → ℕ → Pace
paced_by None None pause = steady
paced_by None (Some failed) pause = record { journal = None; checkpoint = Some failed; pause = pause }
paced_by (Some failed) checkpoint pause = record { journal = Some failed; checkpoint = checkpoint; pause = pause }

-- the pace after a place was reached
abbrev pub after_reaching : Pace → Reached → Pace
after_reaching p (Journal offset) = paced_by (left_at p.journal offset) p.checkpoint p.pause
after_reaching p (Checkpoint offset) = paced_by p.journal (left_at p.checkpoint offset) p.pause
