use Rattle.std.proofs.Common.{◌≡◌, to_z, of_z, w64, rules}
use Rattle.rr_contrib.proofs.ValidityLemmas.{Decides-is_valid}
use Rattle.rr_codec.proofs.CheckLemmas.{same_truth}
use Rattle.rr_codec.proofs.checking.is_valid.Goals as goal

pub returns : goal.returns
returns c =
    let back : to_z w64 (of_z w64 c.args.slot) ≡ c.args.slot = search rules in
    let told = rw back at c.is_valid.ensures in
    same_truth _ _ told (Decides-is_valid c.args.schema.now c.args.archive c.args.slot c.args.contribution.now)
