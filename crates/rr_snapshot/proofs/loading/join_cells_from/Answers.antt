use Rattle.std.proofs.Common.{rules, ◌≡◌, Err, ◌++◌, ◌∷◌, [], ◌∙◌, sym, ap, subst, take, true, false, Option, Some, ℕ, arith, append_assoc, append-nil, inr, refl}
use Rattle.std.specs.Prelude.{◌==◌}
use Rattle.std.proofs.KnownBytes.{Consumes-nil, Consumes-trans}
use Rattle.std.proofs.lemmas.Result.{err_from_is_err_and}
use Rattle.sha2.specs.Hashers.{Holds256}
use Rattle.rr_io.specs.Counted.{inner_of}
use Rattle.std.specs.Option.{option_map}
use Rattle.rr_schema.specs.Added.{older}
use Rattle.rr_schema.specs.declared.added.Addition.{Addition}
use Rattle.rr_schema.specs.Schema.{Layout}
use Rattle.rr_cells.specs.CellNames.{CellName}
use Rattle.rr_page.specs.Reading.{cell_at}
use Rattle.rr_snapshot.specs.declared.fault.LoadFault.TheVariants.{Memory}
use Rattle.rr_snapshot.specs.Stream.{HasRead}
use Rattle.rr_page.specs.PageReading.{is_after, last_name}
use Rattle.rr_page.proofs.LoopLemmas.{last_name_push}
use Rattle.rr_cells.specs.Listing.{owned_cell}
use Rattle.rr_replica.specs.ReplicaWithRoom.{replica_state}
use Rattle.rr_snapshot.proofs.PrefixLemmas.{none_read, read_then}
use Rattle.rr_snapshot.proofs.CellsLemmas.{nothing_yet, goes_on_stream, falls_stream, passed_made, done_stream, same_schema, same_schema_read}
use Rattle.rr_cells.specs.CellBounds.{NamedCell, IsCellOf}
use Rattle.rr_cells.specs.Joining.{with_named}
use Rattle.rr_cells.specs.Raising.{raised, raised_cell, raised_name}
use Rattle.rr_cells.proofs.Joined.{raised_is_cell}
use Rattle.rr_snapshot.specs.Loading.{HasJoined}
use Rattle.rr_snapshot.proofs.MemoryLemmas.{has_read, stops_among}
use Rattle.rr_snapshot.proofs.JoinedLemmas.{HasJoined-none, HasJoined-more, after_raised}
use Rattle.rr_snapshot.proofs.loading.join_cells_from.Goals as goal

-- the name with its archive raised
named : (a : Addition) (e : NamedCell) (archive : ℕ) → archive ≡ raised a e.0.archive
    → ◌≡◌ {A = CellName} (record { key = e.0.key; archive = archive; slot = e.0.slot; origin = e.0.origin })
    (raised_name a e.0)
named a e archive is = λ i. record { key = e.0.key; archive = is i; slot = e.0.slot; origin = e.0.origin }

pub raised-requires : goal.raised-requires
raised-requires g c =
    let few = c.archives-archives.ensures.within.few_archives in
    let there = c.in_ok-cell.ensures.cell.archive in
    omega (arith, few, there)

pub join_next-requires : goal.join_next-requires
join_next-requires g c =
    let so_far = c.loop.invariant.cells in
    let a = c.args.head.addition in
    let s = c.args.replica.now.schema in
    let e = owned_cell c.in_ok-cell.cell in
    let is = raised_is_cell a s e c.requires.addition
    (subst (λ (t : Layout). IsCellOf t e) c.requires.own c.in_ok-cell.ensures.cell) in
    let named_cell : NamedCell = (
      record {
        key = e.0.key;
        archive = c.raised.result;
        slot = e.0.slot;
        origin =
            e.0.origin;
      },
      e.1,
    ) in
    let same : raised_cell a e ≡ named_cell = λ i. (sym (named a e c.raised.result c.raised.ensures) i, e.1) in
    subst (λ (x : NamedCell). IsCellOf (replica_state c.loop.replica).schema x) same
    (subst (λ (t : Layout). IsCellOf t (raised_cell a e)) (sym so_far.3.schema) is)

pub loop-init : goal.loop-init
loop-init g c =
    let old = g.R.Read.remaining (inner_of c.args.input.now) in
    let h = c.args.head in
    record {
      cells = (
        [],
        nothing_yet h.version (older c.args.replica.now.schema h.addition) h.count old,
        refl,
        HasJoined-none h.addition (replica_state c.args.replica.now),
      );
      prefix = none_read old;
      digest = ([], Consumes-nil old, λ m h. subst (Holds256 c.args.hasher.now) (sym (append-nil m)) h);
      count = search rules;
    }

pub returns-in_err-cell-clause-read : goal.returns-in_err-cell-clause-read
returns-in_err-cell-clause-read g c =
    let so_far = c.loop.invariant.cells in
    let h = c.args.head in
    let t = older c.args.replica.now.schema h.addition in
    let old = g.R.Read.remaining (inner_of c.args.input.now) in
    let now = g.R.Read.remaining (inner_of c.loop.input) in
    let new = g.R.Read.remaining (inner_of c.cell_from.new.input) in
    let p = err_from_is_err_and c.from_residual.result c.from_residual.ensures.1 in
    let e = same_schema h.version c.args.own.now t c.in_err-cell.field-0.0 now new c.requires.own
    c.in_err-cell.ensures.read in
    rw (p.1, p.2) (passed_made h.version t so_far.0 h.count c.loop.counter c.loop-test.true
    (HasJoined h.addition (replica_state c.args.replica.now) (replica_state c.loop.replica)) old now new
    c.in_err-cell.field-0.0 so_far.1 e)

pub returns-then-not-is_after-clause-read : goal.returns-then-not-is_after-clause-read
returns-then-not-is_after-clause-read g c =
    let so_far = c.loop.invariant.cells in
    let h = c.args.head in
    let t = older c.args.replica.now.schema h.addition in
    let e = owned_cell c.in_ok-cell.cell in
    let old = g.R.Read.remaining (inner_of c.args.input.now) in
    let now = g.R.Read.remaining (inner_of c.loop.input) in
    let new = g.R.Read.remaining (inner_of c.cell_from.new.input) in
    let read = same_schema_read h.version c.args.own.now t e now new c.requires.own c.in_ok-cell.ensures.read in
    let falling : is_after (last_name so_far.0) e.0 ≡ false = sym (after_raised h.addition (last_name so_far.0) e.0)
    ∙ ap (λ (o : Option CellName). is_after o (raised_name h.addition e.0)) so_far.2
    ∙ ap (is_after (option_map (λ d. (owned_cell d).0) c.loop.before))
    (sym (named h.addition e c.raised.result c.raised.ensures)) ∙ sym c.is_after.ensures ∙ c.if-not-is_after.true in
    inr (inr (falls_stream h.version t so_far.0 h.count c.loop.counter c.loop-test.true old now new e so_far.1 read
    falling))

pub loop-preserved : goal.loop-preserved
loop-preserved g c =
    let so_far = c.loop.invariant.cells in
    let h = c.args.head in
    let t = older c.args.replica.now.schema h.addition in
    let e = owned_cell c.in_ok-cell.cell in
    let old = g.R.Read.remaining (inner_of c.args.input.now) in
    let now = g.R.Read.remaining (inner_of c.loop.input) in
    let new = g.R.Read.remaining (inner_of c.cell_from.new.input) in
    let read = same_schema_read h.version c.args.own.now t e now new c.requires.own c.in_ok-cell.ensures.read in
    let name = named h.addition e c.raised.result c.raised.ensures in
    let rising : is_after (last_name so_far.0) e.0 ≡ true = sym (after_raised h.addition (last_name so_far.0) e.0)
    ∙ ap (λ (o : Option CellName). is_after o (raised_name h.addition e.0)) so_far.2
    ∙ ap (is_after (option_map (λ d. (owned_cell d).0) c.loop.before)) (sym name) ∙ sym c.is_after.ensures
    ∙ c.if-not-is_after.false in
    let digest = c.loop.invariant.digest in
    let piece = take c.in_ok-cell.len c.cell_from.new.buffer in
    record {
      cells = (
        so_far.0 ++ e ∷ [],
        goes_on_stream h.version t so_far.0 h.count c.loop.counter c.loop-test.true old now new e so_far.1 read rising,
        ap (option_map (raised_name h.addition)) (last_name_push so_far.0 e) ∙ ap (λ (n : CellName). Some n) (sym name),
        HasJoined-more h.addition (replica_state c.args.replica.now) (replica_state c.loop.replica)
            (replica_state c.join_next.new.replica) c.loop.has_own c.eq-has_own.result _ so_far.0 e so_far.3
            (c.in_ok-join_next.ensures.state.made ∙ ap (λ (n : CellName). with_named (replica_state c.loop.replica)
            (n, e.1)) name) (c.eq-has_own.ensures ∙ ap (λ (o : ℕ). e.0.origin == o) c.origin-origin.ensures) refl,
      );
      prefix = read_then old now new c.loop.invariant.prefix c.cell_from.ensures.stream.prefix;
      digest = (
        digest.0 ++ piece,
        Consumes-trans old now new digest.0 piece digest.1 c.in_ok-cell.ensures.bytes,
        λ m h. subst (Holds256 c.update.new.self) (append_assoc m digest.0 piece)
            (c.update.ensures (m ++ digest.0) (digest.2 m h)),
      );
      count = search rules;
    }

pub returns-clause-read : goal.returns-clause-read
returns-clause-read g c =
    let so_far = c.loop.invariant.cells in (
      so_far.0,
      so_far.3,
      done_stream c.args.head.version (older c.args.replica.now.schema c.args.head.addition) so_far.0
          c.args.head.count c.loop.counter (g.R.Read.remaining (inner_of c.args.input.now))
          (g.R.Read.remaining (inner_of c.loop.input)) c.loop-test.false so_far.1,
    )

pub returns-in_err-cell-clause-loads : goal.returns-in_err-cell-clause-loads
returns-in_err-cell-clause-loads g c = record {
  digest = search rules;
  stream = record {
    prefix = read_then _ _ _ c.loop.invariant.prefix c.cell_from.ensures.stream.prefix;
    failures_never_fall = search rules;
    failed = search rules;
  };
  memory =
      let so_far = c.loop.invariant.cells in
      let h = c.args.head in
      let t = older c.args.replica.now.schema h.addition in
      let old = g.R.Read.remaining (inner_of c.args.input.now) in
      let now = g.R.Read.remaining (inner_of c.loop.input) in
      let new = g.R.Read.remaining (inner_of c.cell_from.new.input) in
      let p = err_from_is_err_and c.from_residual.result c.from_residual.ensures.1 in
      rw (p.1, p.2)
      (λ e.
      let memory : c.in_err-cell.field-0.0 ≡ Memory = cc e in
      stops_among c.args.replica.now.schema h so_far.0 c.loop.counter old now new c.loop-test.true so_far.1
      (subst (λ (u : Layout). HasRead now new (cell_at h.version u)) c.requires.own
      (c.in_err-cell.ensures.memory (ap (λ f. Err f) memory))));
}

pub returns-then-not-is_after-clause-loads : goal.returns-then-not-is_after-clause-loads
returns-then-not-is_after-clause-loads g c = record {
  digest = search rules;
  stream = record {
    prefix = read_then _ _ _ c.loop.invariant.prefix c.cell_from.ensures.stream.prefix;
    failures_never_fall = search rules;
    failed = search rules;
  };
  memory = search rules;
}

pub returns-in_err-join_next-clause-loads : goal.returns-in_err-join_next-clause-loads
returns-in_err-join_next-clause-loads g c = record {
  digest = search rules;
  stream = record {
    prefix = read_then _ _ _ c.loop.invariant.prefix c.cell_from.ensures.stream.prefix;
    failures_never_fall = search rules;
    failed = search rules;
  };
  memory =
      λ e.
      let so_far = c.loop.invariant.cells in
      let h = c.args.head in
      let t = older c.args.replica.now.schema h.addition in
      let cell = owned_cell c.in_ok-cell.cell in
      let old = g.R.Read.remaining (inner_of c.args.input.now) in
      let now = g.R.Read.remaining (inner_of c.loop.input) in
      let new = g.R.Read.remaining (inner_of c.cell_from.new.input) in
      let read = same_schema_read h.version c.args.own.now t cell now new c.requires.own c.in_ok-cell.ensures.read in
      stops_among c.args.replica.now.schema h so_far.0 c.loop.counter old now new c.loop-test.true so_far.1
      (has_read h.version t cell now new read);
}
