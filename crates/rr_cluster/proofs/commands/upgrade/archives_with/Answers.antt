use Rattle.std.proofs.Common.{◌≡◌, ◌++◌, ◌∷◌, [], take, drop, ◌∙◌, append_assoc, rules}
use Rattle.rr_cells.specs.Raising.{place_for}
use Rattle.rr_cluster.proofs.CommandsLemmas.Upgrade.{put_in_place}
use Rattle.rr_cluster.proofs.commands.upgrade.archives_with.Goals as goal

pub returns : goal.returns
returns c =
    let a = c.args.archive.now in
    let xs = c.args.archives.now in
    let i = place_for a xs in
    let parts : c.extend_from_slice-2.new.self.items ≡ (take i xs ++ a ∷ []) ++ drop i xs = search rules in
    parts ∙ append_assoc (take i xs) (a ∷ []) (drop i xs) ∙ put_in_place a xs
