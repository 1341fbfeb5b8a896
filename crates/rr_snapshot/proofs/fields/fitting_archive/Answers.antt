use Rattle.std.proofs.Common.{◌≡◌, ◌+◌, ◌-◌, ◌<◌, cond, length, map, Some, sym, ap, subst, ◌∙◌}
use Rattle.std.specs.List.{find, range_with_len}
use Rattle.rr_schema.specs.declared.added.Addition.TheVariants.{Archive}
use Rattle.rr_schema.specs.declared.archive.ArchiveSpec.{ArchiveSpec}
use Rattle.std.proofs.Common.{List}
use Rattle.rr_snapshot.specs.SnapshotReading.{fits_addition}
use Rattle.rr_snapshot.proofs.AdditionLemmas.{archives_left}
use Rattle.rr_snapshot.proofs.fields.fitting_archive.Goals as goal

pub returns-then-fits_addition : goal.returns-then-fits_addition
returns-then-fits_addition c =
    let s = c.args.schema.now in
    let test = fits_addition c.args.version s c.args.field.now in
    let i = c.loop-number.number in
    let less : i < length s.archives = subst (λ (l : List ArchiveSpec). i < length l) c.archives.ensures.value
    c.loop-number-test.true in
    let passes : test (Archive i) ≡ _ = sym c.fits_addition.ensures ∙ c.if-fits_addition.true in
    sym (sym c.loop-number.invariant ∙ archives_left test i (length s.archives) less
    ∙ ap (λ b. cond b (Some (Archive i)) (find test
    (map Archive (range_with_len (i + 1) (length s.archives - (i + 1)))))) passes)

pub loop-number-preserved : goal.loop-number-preserved
loop-number-preserved c =
    let s = c.args.schema.now in
    let test = fits_addition c.args.version s c.args.field.now in
    let i = c.loop-number.number in
    let less : i < length s.archives = subst (λ (l : List ArchiveSpec). i < length l) c.archives.ensures.value
    c.loop-number-test.true in
    let fails : test (Archive i) ≡ _ = sym c.fits_addition.ensures ∙ c.if-fits_addition.false in
    sym (archives_left test i (length s.archives) less
    ∙ ap (λ b. cond b (Some (Archive i)) (find test
    (map Archive (range_with_len (i + 1) (length s.archives - (i + 1)))))) fails) ∙ c.loop-number.invariant
