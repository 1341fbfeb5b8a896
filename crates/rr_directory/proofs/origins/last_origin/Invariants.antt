use Rattle.std.proofs.Common.{◌≡◌, drop, None, IfSome}
use Rattle.rr_directory.specs.Origins.{last_origin_in}
use Rattle.rr_directory.proofs.origins.last_origin.Given as goal

-- the last origin of the files that are left now is that of all
abbrev pub invariant-loop-name : goal.invariant-loop-name
invariant-loop-name g l = IfSome (g.D.Directory.bytes l.directory) (λ of. last_origin_in l.schema of l.origin
    (drop l.name-index l.files) ≡ last_origin_in l.schema of None l.files)
