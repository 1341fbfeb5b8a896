-- A configuration is of the values at its keys.
use Rattle.std.proofs.Common.{refl}
use Rattle.rr_document.specs.Document.{layout_in}
use Rattle.rr_config.specs.Addresses.{addresses_in}
use Rattle.rr_config.specs.Config.{config_in}
use Rattle.rr_config.specs.Habits.{habits_in}
use Rattle.rr_config.specs.Intake.{intake_in}
use Rattle.rr_config.specs.Laws.{ConfigsAreOfTheirKeys, NodeConfigsAreOfTheirKeys}
use Rattle.rr_config.specs.Node.{node_config_in}

pub configs_are_of_their_keys : ConfigsAreOfTheirKeys
unfolding config_in layout_in addresses_in intake_in habits_in
configs_are_of_their_keys t u schema =
    let addresses = schema.1.1 in
    let intake = addresses.1.1.1 in
    let habits = intake.1.1.1.1 in
    rw (
      schema.0,
      schema.1.0,
      addresses.0,
      addresses.1.0,
      addresses.1.1.0,
      intake.0,
      intake.1.0,
      intake.1.1.0,
      intake.1.1.1.0,
      habits.0,
      habits.1.0,
      habits.1.1.0,
      habits.1.1.1.0,
    ) refl

pub node_configs_are_of_their_keys : NodeConfigsAreOfTheirKeys
unfolding node_config_in layout_in
node_configs_are_of_their_keys t u schema =
    let addresses = schema.1.1 in
    let intake = addresses.1.1.1.1 in
    let habits = intake.1.1 in
    rw (
      schema.0,
      schema.1.0,
      addresses.0,
      addresses.1.0,
      addresses.1.1.0,
      addresses.1.1.1.0,
      intake.0,
      intake.1.0,
      habits.0,
      habits.1.0,
      habits.1.1.0,
    ) refl
