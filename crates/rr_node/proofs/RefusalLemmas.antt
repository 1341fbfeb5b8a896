-- Lines that say nothing or are refused, which ask a clock for nothing.
use Rattle.std.proofs.Common.{◌≡◌, ℕ, ℤ, List, [], Option, Result, Ok, Err, inl, inr, refl}
use Rattle.std.specs.declared.alloc.AllocError.{AllocError}
use Rattle.rr_text.specs.Results.{GivesUnless}
use Rattle.rr_feed.specs.Items.{Line}
use Rattle.rr_line.specs.declared.fault.LineFault.{LineFault}
use Rattle.rr_line.specs.declared.fault.LineFault.TheVariants.{Memory}
use Rattle.rr_line.specs.Line.{line_view, nothing}
use Rattle.rr_line.specs.Reading.{reading}
use Rattle.rr_desk.specs.KeeperState.{KeeperState}
use Rattle.rr_host.proofs.ClockLemmas.{HasGiven-nil}
use Rattle.rr_node.specs.declared.answer.Answer.{Answer}
use Rattle.rr_node.specs.declared.answer.Answer.TheVariants as says
use Rattle.rr_node.specs.declared.rules.Rules.{Rules}
use Rattle.rr_node.specs.Connection.{HandledItem, Refuses}

-- a line that isn't read asks for nothing and changes nothing
pub takes_refusal : (rules : Rules) (bytes : List ℕ) (k : KeeperState) (given : Option (List ℤ)) (fault : LineFault)
    (result : Result Answer AllocError)
    → GivesUnless Memory line_view (Err fault) (reading rules.precision bytes)
    → Refuses fault result
    → HandledItem rules (Line bytes) k k given given result
takes_refusal rules bytes k given fault (Ok answer) (inl memory) refuses = absurd (refuses.read memory)
takes_refusal rules bytes k given fault (Ok answer) (inr parsed) refuses = record {
  asked = [];
  gave = HasGiven-nil given;
  taken = inl (rw parsed refl, rw parsed (refl, refuses.named));
  count_fits = refuses.count_fits;
}
takes_refusal rules bytes k given fault (Err e) unless refuses = record {
  asked = [];
  gave = HasGiven-nil given;
  taken = inr (refl, refl, (e, refl));
  count_fits = refuses.count_fits;
}

-- nor does an empty line or a comment, which says nothing
pub takes_nothing : (rules : Rules) (bytes : List ℕ) (k : KeeperState) (given : Option (List ℤ))
    → reading rules.precision bytes ≡ Ok nothing → HandledItem rules (Line bytes) k k given given (Ok says.Nothing)
takes_nothing rules bytes k given parsed = record {
  asked = [];
  gave = HasGiven-nil given;
  taken = inl (rw parsed refl, rw parsed (refl, tt));
  count_fits = tt;
}
