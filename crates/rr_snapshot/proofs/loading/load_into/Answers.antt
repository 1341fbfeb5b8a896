use Rattle.std.proofs.Common.{rules, ℕ, ◌≡◌, ◌⊎◌, ◌∙◌, ◌||◌, Bool, true, false, Err, ap, sym, inl, inr}
use Rattle.std.specs.Prelude.{◌==◌}
use Rattle.std.specs.FinMap.{empty}
use Rattle.std.proofs.lemmas.Bool.{or_left, or_right, or_from}
use Rattle.std.proofs.lemmas.Result.{err_from_is_err_and}
use Rattle.rr_io.specs.Counted.{inner_of}
use Rattle.rr_replica.specs.ReplicaWithRoom.{replica_state}
use Rattle.rr_snapshot.specs.declared.fault.LoadFault.TheVariants.{Memory}
use Rattle.rr_snapshot.proofs.PrefixLemmas.{loads_then, loads_then_refused}
use Rattle.rr_snapshot.proofs.BodyLemmas.{body_read}
use Rattle.rr_snapshot.specs.Loading.{is_among}
use Rattle.rr_snapshot.proofs.MemoryLemmas.{stops_in_snapshot}
use Rattle.rr_snapshot.proofs.JoinedLemmas.{joined_replica}
use Rattle.rr_snapshot.proofs.LoadLemmas.{head_failed, cells_failed, digest_failed, end_failed, all_read, used_origin, new_origin}
use Rattle.rr_snapshot.proofs.loading.load_into.Goals as goal

pub returns-in_err-head-clause-read : goal.returns-in_err-head-clause-read
returns-in_err-head-clause-read g c =
    let old = g.R.Read.remaining (inner_of c.args.input.now) in
    let f = c.in_err-head.field-0.0 in
    let p = err_from_is_err_and c.from_residual.result c.from_residual.ensures.1 in
    rw (p.1, p.2) (head_failed c.args.schema.now c.args.replica.now.origin f old c.in_err-head.ensures.read)

pub returns-in_err-has_own-clause-read : goal.returns-in_err-has_own-clause-read
returns-in_err-has_own-clause-read g c =
    let old = g.R.Read.remaining (inner_of c.args.input.now) in
    let now = g.R.Read.remaining (inner_of c.head_from.new.input) in
    let h = c.in_ok-head.head in
    let s = c.args.schema.now in
    let p = err_from_is_err_and c.from_residual-in_err-has_own.result c.from_residual-in_err-has_own.ensures.1 in
    let head = c.in_ok-head.ensures.read in
    rw (p.1, p.2) (cells_failed s c.args.replica.now.origin h c.in_err-has_own.field-0.0 old now head
    c.in_err-has_own.ensures.read)

pub returns-in_err-digest_from-clause-read : goal.returns-in_err-digest_from-clause-read
returns-in_err-digest_from-clause-read g c =
    let old = g.R.Read.remaining (inner_of c.args.input.now) in
    let now = g.R.Read.remaining (inner_of c.head_from.new.input) in
    let mid = g.R.Read.remaining (inner_of c.join_cells_after.new.input) in
    let h = c.in_ok-head.head in
    let s = c.args.schema.now in
    let joined = c.in_ok-has_own.ensures.read in
    let head = c.in_ok-head.ensures.read in
    let body = body_read s h joined.0 c.finalize.result old now mid c.new-hasher.result c.head_from.new.hasher
    c.join_cells_after.new.hasher head joined.2 c.new-hasher.ensures c.in_ok-head.ensures.piece.digest
    c.in_ok-has_own.ensures.loads.digest c.finalize.ensures in
    let p = err_from_is_err_and c.from_residual-in_err-digest_from.result
    c.from_residual-in_err-digest_from.ensures.1 in
    rw (p.1, p.2) (digest_failed s c.args.replica.now.origin h joined.0 c.finalize.result c.in_err-digest_from.field-0.0
    old now mid body c.in_err-digest_from.ensures.read)

pub returns-in_err-end_from-clause-read : goal.returns-in_err-end_from-clause-read
returns-in_err-end_from-clause-read g c =
    let old = g.R.Read.remaining (inner_of c.args.input.now) in
    let now = g.R.Read.remaining (inner_of c.head_from.new.input) in
    let mid = g.R.Read.remaining (inner_of c.join_cells_after.new.input) in
    let new = g.R.Read.remaining (inner_of c.digest_from.new.input) in
    let h = c.in_ok-head.head in
    let s = c.args.schema.now in
    let joined = c.in_ok-has_own.ensures.read in
    let head = c.in_ok-head.ensures.read in
    let body = body_read s h joined.0 c.finalize.result old now mid c.new-hasher.result c.head_from.new.hasher
    c.join_cells_after.new.hasher head joined.2 c.new-hasher.ensures c.in_ok-head.ensures.piece.digest
    c.in_ok-has_own.ensures.loads.digest c.finalize.ensures in
    let p = err_from_is_err_and c.from_residual-in_err-end_from.result c.from_residual-in_err-end_from.ensures.1 in
    rw (p.1, p.2) (end_failed s c.args.replica.now.origin h joined.0 c.finalize.result c.in_err-end_from.field-0.0 old
    now mid new body c.in_ok-digest_from.ensures.read c.in_err-end_from.ensures.read)

either_used : (a b : Bool) → (a ≡ true) ⊎ ((a ≡ false) × (b ≡ true)) → a || b ≡ true
either_used a b (inl e) = or_left a b e
either_used a b (inr e) = or_right a b e.1

pub returns-then-eq-clause-read : goal.returns-then-eq-clause-read
returns-then-eq-clause-read g c =
    let o = c.args.replica.now.origin in
    let old = g.R.Read.remaining (inner_of c.args.input.now) in
    let now = g.R.Read.remaining (inner_of c.head_from.new.input) in
    let mid = g.R.Read.remaining (inner_of c.join_cells_after.new.input) in
    let new = g.R.Read.remaining (inner_of c.digest_from.new.input) in
    let end = g.R.Read.remaining (inner_of c.end_from.new.input) in
    let h = c.in_ok-head.head in
    let s = c.args.schema.now in
    let joined = c.in_ok-has_own.ensures.read in
    let head = c.in_ok-head.ensures.read in
    let body = body_read s h joined.0 c.finalize.result old now mid c.new-hasher.result c.head_from.new.hasher
    c.join_cells_after.new.hasher head joined.2 c.new-hasher.ensures c.in_ok-head.ensures.piece.digest
    c.in_ok-has_own.ensures.loads.digest c.finalize.ensures in
    let read = all_read s o h joined.0 c.finalize.result old now mid new end body c.in_ok-digest_from.ensures.read
    c.in_ok-end_from.ensures.read in
    let saver : c.eq.result ≡ (h.origin == o) = c.eq.ensures
    ∙ ap (λ (n : ℕ). h.origin == n) (c.origin.ensures ∙ joined.1.origin) in
    let used : (h.origin == o) || is_among o joined.0 ≡ true = (λ i. sym saver i || sym joined.1.any i)
    ∙ either_used c.eq.result c.in_ok-has_own.has_own c.then-eq.either in
    used_origin s o h joined.0 old used read

pub returns-clause-read : goal.returns-clause-read
returns-clause-read g c =
    let o = c.args.replica.now.origin in
    let old = g.R.Read.remaining (inner_of c.args.input.now) in
    let now = g.R.Read.remaining (inner_of c.head_from.new.input) in
    let mid = g.R.Read.remaining (inner_of c.join_cells_after.new.input) in
    let new = g.R.Read.remaining (inner_of c.digest_from.new.input) in
    let end = g.R.Read.remaining (inner_of c.end_from.new.input) in
    let h = c.in_ok-head.head in
    let s = c.args.schema.now in
    let joined = c.in_ok-has_own.ensures.read in
    let head = c.in_ok-head.ensures.read in
    let body = body_read s h joined.0 c.finalize.result old now mid c.new-hasher.result c.head_from.new.hasher
    c.join_cells_after.new.hasher head joined.2 c.new-hasher.ensures c.in_ok-head.ensures.piece.digest
    c.in_ok-has_own.ensures.loads.digest c.finalize.ensures in
    let read = all_read s o h joined.0 c.finalize.result old now mid new end body c.in_ok-digest_from.ensures.read
    c.in_ok-end_from.ensures.read in
    let saver : c.eq.result ≡ (h.origin == o) = c.eq.ensures
    ∙ ap (λ (n : ℕ). h.origin == n) (c.origin.ensures ∙ joined.1.origin) in
    let free : (h.origin == o) || is_among o joined.0 ≡ false = (λ i. sym saver i || sym joined.1.any i)
    ∙ or_from c.eq.result c.in_ok-has_own.has_own c.if-eq.false c.if-has_own.false in
    let held_none : replica_state c.args.replica.now ≡ record { schema = s; origin = o; next = 1; cells = empty } =
    λ i. record { schema = c.requires.schema i; origin = o; next = c.requires.next i; cells = c.requires.cells i }
    in
    let is = joined_replica s h.addition o (replica_state c.args.replica.now)
    (replica_state c.join_cells_after.new.replica) c.in_ok-has_own.has_own joined.0 held_none joined.1
    c.if-has_own.false in
    new_origin s o h joined.0 c.join_cells_after.new.replica old free is read

pub returns-in_err-has_own-clause-loads : goal.returns-in_err-has_own-clause-loads
returns-in_err-has_own-clause-loads g c = record {
  end = search rules;
  stream =
      let p = err_from_is_err_and c.from_residual-in_err-has_own.result c.from_residual-in_err-has_own.ensures.1 in
      rw (p.1, p.2) (loads_then_refused _ _ _ _ _ _ c.head_from.ensures.piece.stream
      c.in_err-has_own.ensures.loads.stream);
  memory =
      let old = g.R.Read.remaining (inner_of c.args.input.now) in
      let now = g.R.Read.remaining (inner_of c.head_from.new.input) in
      let new = g.R.Read.remaining (inner_of c.join_cells_after.new.input) in
      let h = c.in_ok-head.head in
      let s = c.args.schema.now in
      let p = err_from_is_err_and c.from_residual-in_err-has_own.result c.from_residual-in_err-has_own.ensures.1 in
      let head = c.in_ok-head.ensures.read in
      rw (p.1, p.2)
      (λ e.
      let memory : c.in_err-has_own.field-0.0 ≡ Memory = cc e in
      inr (stops_in_snapshot s h old now new head (c.in_err-has_own.ensures.loads.memory (ap (λ f. Err f) memory))));
}

pub returns-in_err-digest_from-clause-loads : goal.returns-in_err-digest_from-clause-loads
returns-in_err-digest_from-clause-loads g c = record {
  end = search rules;
  stream =
      let p = err_from_is_err_and c.from_residual-in_err-digest_from.result c.from_residual-in_err-digest_from.ensures.1
      in
      let two = loads_then _ _ _ _ _ _ c.join_cells_after.result c.head_from.ensures.piece.stream
      c.join_cells_after.ensures.loads.stream (λ e. e) in
      rw (p.1, p.2) (loads_then_refused _ _ _ _ _ _ two c.in_err-digest_from.ensures.piece.stream);
  memory = search rules;
}

pub returns-in_err-end_from-clause-loads : goal.returns-in_err-end_from-clause-loads
returns-in_err-end_from-clause-loads g c = record {
  end = search rules;
  stream =
      let p = err_from_is_err_and c.from_residual-in_err-end_from.result c.from_residual-in_err-end_from.ensures.1 in
      let two = loads_then _ _ _ _ _ _ c.join_cells_after.result c.head_from.ensures.piece.stream
      c.join_cells_after.ensures.loads.stream (λ e. e) in
      let three = loads_then _ _ _ _ _ _ c.digest_from.result two c.digest_from.ensures.piece.stream (λ e. e) in
      rw (p.1, p.2) (loads_then_refused _ _ _ _ _ _ three c.in_err-end_from.ensures.piece.stream);
  memory = search rules;
}

pub returns-then-eq-clause-loads : goal.returns-then-eq-clause-loads
returns-then-eq-clause-loads g c = record {
  end = search rules;
  stream =
      let two = loads_then _ _ _ _ _ _ c.join_cells_after.result c.head_from.ensures.piece.stream
      c.join_cells_after.ensures.loads.stream (λ e. e) in
      let three = loads_then _ _ _ _ _ _ c.digest_from.result two c.digest_from.ensures.piece.stream (λ e. e) in
      loads_then _ _ _ _ _ _ _ three c.end_from.ensures.piece.stream (λ e. absurd (cc e));
  memory = search rules;
}

pub returns-clause-loads : goal.returns-clause-loads
returns-clause-loads g c = record {
  end = search rules;
  stream =
      let two = loads_then _ _ _ _ _ _ c.join_cells_after.result c.head_from.ensures.piece.stream
      c.join_cells_after.ensures.loads.stream (λ e. e) in
      let three = loads_then _ _ _ _ _ _ c.digest_from.result two c.digest_from.ensures.piece.stream (λ e. e) in
      loads_then _ _ _ _ _ _ _ three c.end_from.ensures.piece.stream (λ e. absurd (cc e));
  memory = search rules;
}
