-- The steps of a cell that goes on as most do: all but six are 0.
use Rattle.std.specs.Prelude.{◌≡◌, ◌∷◌, drop}
use Rattle.rr_codec.specs.declared.expecting.Before.{Before}
use Rattle.rr_codec.specs.declared.fields.Fields.{Fields}
use Rattle.rr_codec.specs.declared.regular.RegularSteps.{RegularSteps}
use Rattle.rr_codec.specs.declared.steps.Steps.{Steps}
use Rattle.rr_codec.specs.Expecting.{plus}
use Rattle.rr_codec.specs.Recent.{KnownState}
use Rattle.rr_codec.specs.Steps.{step_to}

abbrev pub all_steps : RegularSteps → Steps
all_steps r = record {
  place = 0;
  fields = record {
    slot = 0;
    origin = 0;
    version = r.version;
    count = 0;
    sum = r.sum;
    min = r.min;
    max = r.max;
    last_time = r.last_time;
    last_value = r.last_value;
    mask = 0;
  };
}

-- a cell is of the same origin as another, in the next slot, of as many samples at the same places
pub record GoesOn (before cell : Fields) : Type 0 where
  pub same : cell.origin ≡ before.origin
  pub slot : step_to (plus before.slot 1) cell.slot ≡ 0
  pub origin : step_to before.origin cell.origin ≡ 0
  pub count : step_to before.count cell.count ≡ 0
  pub mask : step_to before.mask cell.mask ≡ 0

-- the next cell is expected to be of the origin of the last one, and from this
pub record IsLast (k : KnownState) (b : Before) : Type 0 where
  pub place : k.place ≡ 0
  pub first : k.recent ≡ b ∷ drop 1 k.recent
