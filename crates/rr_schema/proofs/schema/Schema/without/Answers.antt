use Rattle.std.proofs.Common.{◌≡◌, sym, rules}
use Rattle.rr_schema.specs.Schema.{Layout, IsLayout}
use Rattle.rr_schema.specs.Added.{without}
use Rattle.rr_schema.proofs.AddedLemmas.{left_is_layout}
use Rattle.rr_schema.proofs.schema.Schema.without.Goals as goal

is_layout : (c : goal.In_ok-archives) → IsLayout
    (record { step = c.self.inside.step; archives = c.in_ok-archives.archives.items })
is_layout c =
    let s : Layout = record { step = c.self.inside.step; archives = c.self.inside.archives.items } in
    let left : c.in_ok-archives.archives.items ≡ without c.args.number s.archives = search rules in
    rw left (left_is_layout c.args.number s c.self.invariant (rw (sym c.self.view_is) at c.requires.is_there)
    (rw (sym c.self.view_is) at c.requires.others))

pub invariant_of-result : goal.invariant_of-result
invariant_of-result c = is_layout c

pub returns-clause-within : goal.returns-clause-within
returns-clause-within c = is_layout c
