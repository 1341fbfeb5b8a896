use Rattle.std.proofs.Common.{List, map, sym, ap, ◌∙◌}
use Rattle.std.proofs.lemmas.Simd.{map-map}
use Rattle.rr_directory.specs.Memory.{KnownFile, known_file}
use Rattle.rr_directory.proofs.memory.MemoryDirectoryDirectory.names.Goals as goal

pub returns-in-Ok : goal.returns-in-Ok
returns-in-Ok c =
    let files = c.self.inside.files.now in
    c.in-Ok.ensures ∙ sym (map-map (λ (f : KnownFile). f.name) known_file files)
    ∙ ap (λ (known : List KnownFile). map (λ (f : KnownFile). f.name) known) c.self.view_is
