-- What families say besides their help.
use Rattle.std.specs.Prelude.{ℕ, List, map}
use Rattle.rr_web.specs.declared.family.Family.{Family}
use Rattle.rr_web.specs.declared.family.FamilyKind.{FamilyKind}
use Rattle.rr_web.specs.Family.{SampleView, sample_view}

-- what a family says besides its help
pub record Numbers : Type 0 where
  pub kind : FamilyKind
  pub name : List ℕ
  pub samples : List SampleView

abbrev pub family_of : FamilyKind → List ℕ → List SampleView → Numbers
family_of kind name samples = record { kind = kind; name = name; samples = samples }

abbrev pub numbers_in : Family → Numbers
numbers_in f = family_of f.kind f.name.now (map sample_view f.samples.items)
