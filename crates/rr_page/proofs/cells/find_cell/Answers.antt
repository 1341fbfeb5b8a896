use Rattle.std.proofs.Common.{rules, ◌≡◌, ◌∙◌, Ok, sym, false, true≢false, to_z, of_z, w64, arith}
use Rattle.std.specs.Prelude.{◌==◌}
use Rattle.std.proofs.lemmas.Bool.{ne_eqb}
use Rattle.rr_page.proofs.ReadLemmas.{cell_read, cell_refused}
use Rattle.rr_page.proofs.cells.find_cell.Goals as goal

pub returns-then-not-is_valid-clause-found : goal.returns-then-not-is_valid-clause-found
returns-then-not-is_valid-clause-found c =
    let back : to_z w64 (of_z w64 c.in_ok-slot.slot) ≡ c.in_ok-slot.slot = search rules in
    let told = rw back at c.is_valid.ensures in
    let read = cell_refused c.args.version c.args.schema.now c.args.bytes.now c.in_ok-key.key.now c.in_ok-key.rest.now
    c.in_ok-archive.archive c.in_ok-archive.rest.now c.in_ok-slot.slot c.in_ok-slot.rest.now c.in_ok-origin.origin
    c.in_ok-origin.rest.now c.in_ok-contribution.contribution c.in_ok-contribution.rest.now
    c.in_ok-key.ensures.found.read
    c.in_ok-archive.ensures.found.read c.in_ok-slot.ensures.read c.in_ok-origin.ensures.read
    c.in_ok-contribution.ensures.read
    (λ v. true≢false (sym (told.1 v) ∙ c.if-not-is_valid.true)) in
    record { read = read; no_memory = search rules }

pub returns-clause-found : goal.returns-clause-found
returns-clause-found c =
    let back : to_z w64 (of_z w64 c.in_ok-slot.slot) ≡ c.in_ok-slot.slot = search rules in
    let told = rw back at c.is_valid.ensures in
    let origin = c.in-Ok.ensures in
    let some : (c.in_ok-origin.origin == 0) ≡ false =
    ne_eqb c.in_ok-origin.origin 0 (λ e. absurd (omega (arith, e, origin.0))) in
    let read = cell_read c.args.version c.args.schema.now c.args.bytes.now c.in_ok-key.key.now c.in_ok-key.rest.now
    c.in_ok-archive.archive c.in_ok-archive.rest.now c.in_ok-slot.slot c.in_ok-slot.rest.now c.in_ok-origin.origin
    c.in_ok-origin.rest.now c.in_ok-contribution.contribution c.in_ok-contribution.rest.now
    c.in_ok-key.ensures.found.read
    c.in_ok-archive.ensures.found.read c.in_ok-slot.ensures.read c.in_ok-origin.ensures.read
    c.in_ok-contribution.ensures.read some (told.0 c.if-not-is_valid.false) in
    record {
      read = read ∙ (λ i. Ok (
        (
          record {
            key = c.in_ok-key.key.now;
            archive = c.in_ok-archive.archive;
            slot = sym back i;
            origin = sym origin.1 i;
          },
          c.in_ok-contribution.contribution,
        ),
        c.in_ok-contribution.rest.now,
      ));
      no_memory = search rules;
    }
