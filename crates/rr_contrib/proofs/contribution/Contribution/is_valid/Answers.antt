use Rattle.std.proofs.Common.{rules, ◌≡◌, List, get_or, ap, ◌∙◌}
use Rattle.std.proofs.lemmas.List.{get_or_default}
use Rattle.rr_schema.specs.declared.archive.ArchiveSpec.{ArchiveSpec}
use Rattle.rr_schema.specs.Schema.{slot_of, archive_at, place_of}
use Rattle.rr_contrib.specs.Validity.{IsBounded}
use Rattle.rr_contrib.proofs.contribution.Contribution.is_valid.Goals as goal
use Rattle.rr_contrib.proofs.contribution.Contribution.is_valid.Goals.{then-is_bounded, else-is_bounded}

pub returns-then-slot : goal.returns-then-slot
returns-then-slot c = elim c.if-is_bounded.branch [
  | then-is_bounded w ↦
      let bounded : IsBounded c.args.self.now = search rules in
      let in_slot : slot_of c.args.schema.now c.args.archive c.args.self.now.last_time ≡ c.args.slot = search rules in
      let place : c.place.result ≡ place_of c.args.schema.now c.args.archive c.args.self.now.last_time = search rules in
      let past : ArchiveSpec = record { steps = 0; rows = 0; num = 0; den = 0 } in
      let archives : c.archives.result.now ≡ c.args.schema.now.archives = search rules in
      let archive : get_or c.archives.result.now c.args.archive past ≡ archive_at c.args.schema.now c.args.archive =
      ap (λ (l : List ArchiveSpec). get_or l c.args.archive past) archives
      ∙ get_or_default c.args.schema.now.archives c.args.archive past _ c.requires in
      let tells = rw (place, archive) at c.has_places.ensures in (
        (λ h. let parts = tells.0 h in record {
          bounded = bounded;
          in_slot = in_slot;
          in_steps = parts.0;
          has_last =
              parts.1;
          few = parts.2;
        }),
        (λ v. tells.1 (v.in_steps, v.has_last, v.few)),
      )
  | else-is_bounded w ↦ absurd cc
]
