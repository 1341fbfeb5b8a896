-- Rounds that are kept one after the other.
use Rattle.std.proofs.Common.{ℕ, ◌+◌, ◌<◌, true, false, Some, None, refl, inr, add-one}
use Rattle.rr_config.specs.declared.config.Config.{Config}
use Rattle.rr_node.specs.Rounds.{AreRounds, EndRounds, IsRound, Log, KeeperAndClock, and_then}

pub rounds_more : (n : ℕ) (config : Config) (old mid new : KeeperAndClock) (first last : Log)
    → AreRounds n config old mid first → IsRound config (Some true) mid new last
    → AreRounds (n + 1) config old new (and_then first last)
rounds_more n config old mid new first last rounds round = rw add-one (mid, first, last, rounds, round, refl)

pub rounds_over : (most n : ℕ) (config : Config) (old mid new : KeeperAndClock) (first last : Log) → n < most
    → AreRounds n config old mid first → IsRound config (Some false) mid new last
    → EndRounds most config true old new (and_then first last)
rounds_over most n config old mid new first last few rounds round =
    inr (record {
      n = n;
      few = few;
      mid = mid;
      first = first;
      last = last;
      rounds = rounds;
      ended = round;
      whole =
          refl;
    })

pub rounds_out : (most n : ℕ) (config : Config) (old mid new : KeeperAndClock) (first last : Log) → n < most
    → AreRounds n config old mid first → IsRound config None mid new last
    → EndRounds most config false old new (and_then first last)
rounds_out most n config old mid new first last few rounds round =
    record { n = n; few = few; mid = mid; first = first; last = last; rounds = rounds; ended = round; whole = refl }
