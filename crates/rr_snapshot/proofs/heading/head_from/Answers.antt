use Rattle.std.proofs.Common.{rules, ◌≡◌, ◌+◌, ◌-◌, ◌*◌, ◌<◌, ◌∙◌, length, Bool, true, false, List, ℕ, zero, suc, Result, ap, sym, subst, refl, arith, inr}
use Rattle.std.specs.Prelude.{◌==◌}
use Rattle.std.specs.Int.{w32}
use Rattle.std.proofs.lemmas.Bool.{ne_eqb}
use Rattle.std.proofs.lemmas.Result.{err_from_is_err_and}
use Rattle.rr_io.specs.Counted.{inner_of}
use Rattle.rr_text.specs.Results.{◌>>=◌, unless}
use Rattle.rr_schema.specs.declared.added.Addition.{Addition}
use Rattle.rr_schema.specs.SchemaBytes.{schema_bytes}
use Rattle.rr_schema.proofs.SchemaBytesLemmas.{schema_len}
use Rattle.rr_page.specs.Reading.{number_at}
use Rattle.rr_snapshot.specs.declared.fault.LoadFault.{LoadFault}
use Rattle.rr_snapshot.specs.declared.fault.LoadFault.TheVariants.{BadOrigin}
use Rattle.rr_snapshot.specs.declared.heading.Head.{Head}
use Rattle.rr_snapshot.specs.SnapshotReading.{as_in_page, start_at, archives_at, head_at}
use Rattle.rr_snapshot.proofs.BodyLemmas.{counted, after_archives, after_start}
use Rattle.rr_snapshot.proofs.PrefixLemmas.{loads_then, loads_then_refused, took_more}
use Rattle.rr_snapshot.proofs.ChainLemmas.{Gave, passes, refuses, then_gave, then_refused, fails_then, then_fails, Digests-then}
use Rattle.rr_snapshot.proofs.heading.head_from.Goals as goal

zero_is : (n : ℕ) → (0 < n → ⊥) → (n == 0) ≡ true
zero_is zero none = refl
zero_is (suc n) none = absurd (none (omega arith))

pub returns-in_err-version-clause-read : goal.returns-in_err-version-clause-read
unfolding head_at
returns-in_err-version-clause-read g c =
    let s = c.args.schema.now in
    let old = g.R.Read.remaining (inner_of c.args.input.now) in
    let mid = g.R.Read.remaining (inner_of c.start_from.new.input) in
    let p = err_from_is_err_and c.from_residual.result c.from_residual.ensures.1 in
    rw (p.1, p.2) (fails_then (λ all. as_in_page (start_at s all)) (after_start s) (λ y. y) (λ x. x)
    c.in_err-version.field-0.0 old mid mid c.in_err-version.ensures.read)

pub returns-in_err-addition-clause-read : goal.returns-in_err-addition-clause-read
unfolding head_at
returns-in_err-addition-clause-read g c =
    let s = c.args.schema.now in
    let v = c.in_ok-version.version in
    let n = c.in_ok-version.number in
    let old = g.R.Read.remaining (inner_of c.args.input.now) in
    let mid = g.R.Read.remaining (inner_of c.start_from.new.input) in
    let new = g.R.Read.remaining (inner_of c.archives_from.new.input) in
    let p = err_from_is_err_and c.from_residual-in_err-addition.result c.from_residual-in_err-addition.ensures.1 in
    rw (p.1, p.2) (then_fails (λ all. as_in_page (start_at s all)) (after_start s) (λ y. y) (λ x. x) (v, n)
    c.in_err-addition.field-0.0 old mid new (λ all. as_in_page (archives_at v s n all)) c.in_ok-version.ensures.read
    (λ all e. ap (λ (z : Result ((Addition × ℕ) × List ℕ) LoadFault). z >>= after_archives v) e)
    c.in_err-addition.ensures.read)

pub returns-in-Err-clause-read : goal.returns-in-Err-clause-read
unfolding head_at
returns-in-Err-clause-read g c =
    let s = c.args.schema.now in
    let v = c.in_ok-version.version in
    let n = c.in_ok-version.number in
    let from : Addition × ℕ = (c.in_ok-addition.addition, c.in_ok-addition.origin) in
    let old = g.R.Read.remaining (inner_of c.args.input.now) in
    let mid = g.R.Read.remaining (inner_of c.start_from.new.input) in
    let new = g.R.Read.remaining (inner_of c.archives_from.new.input) in
    let none = zero_is c.in_ok-addition.origin c.in-Err.ensures in
    inr (inr (then_refused (λ all. as_in_page (start_at s all)) (after_start s) (v, n) BadOrigin old mid
    c.in_ok-version.ensures.read
    (then_refused (λ all. as_in_page (archives_at v s n all)) (after_archives v) from BadOrigin mid new
    c.in_ok-addition.ensures.read
    (refuses BadOrigin new (λ all. after_archives v (from, all))
    (λ all. ap (λ (b : Bool). unless BadOrigin b (as_in_page (number_at w32 all)) >>= counted v from) none)))))

pub returns-in_err-count-clause-read : goal.returns-in_err-count-clause-read
unfolding head_at
returns-in_err-count-clause-read g c =
    let s = c.args.schema.now in
    let v = c.in_ok-version.version in
    let n = c.in_ok-version.number in
    let from : Addition × ℕ = (c.in_ok-addition.addition, c.in_ok-addition.origin) in
    let old = g.R.Read.remaining (inner_of c.args.input.now) in
    let mid = g.R.Read.remaining (inner_of c.start_from.new.input) in
    let now = g.R.Read.remaining (inner_of c.archives_from.new.input) in
    let new = g.R.Read.remaining (inner_of c.count_from.new.input) in
    let origin = c.in-Ok.ensures in
    let some : (c.in_ok-addition.origin == 0) ≡ false =
    ne_eqb c.in_ok-addition.origin 0 (λ e. absurd (omega (arith, e, origin.0))) in
    let p = err_from_is_err_and c.from_residual-in_err-count.result c.from_residual-in_err-count.ensures.1 in
    let f = c.in_err-count.field-0.0 in
    rw (p.1, p.2) (then_fails (λ all. as_in_page (start_at s all)) (after_start s) (λ y. y) (λ y. y) (v, n) f old mid
    new (λ all. as_in_page (archives_at v s n all) >>= after_archives v) c.in_ok-version.ensures.read
    (λ all e. e)
    (then_fails (λ all. as_in_page (archives_at v s n all)) (after_archives v) (λ y. y) (λ x. x) from f mid now new
    (λ all. as_in_page (number_at w32 all)) c.in_ok-addition.ensures.read
    (λ all e. ap (λ (b : Bool). unless BadOrigin b (as_in_page (number_at w32 all)) >>= counted v from) some
    ∙ ap (λ (z : Result (ℕ × List ℕ) LoadFault). z >>= counted v from) e)
    c.in_err-count.ensures.read))

pub returns-clause-read : goal.returns-clause-read
unfolding head_at
returns-clause-read g c =
    let s = c.args.schema.now in
    let v = c.in_ok-version.version in
    let n = c.in_ok-version.number in
    let from : Addition × ℕ = (c.in_ok-addition.addition, c.in_ok-addition.origin) in
    let old = g.R.Read.remaining (inner_of c.args.input.now) in
    let mid = g.R.Read.remaining (inner_of c.start_from.new.input) in
    let now = g.R.Read.remaining (inner_of c.archives_from.new.input) in
    let new = g.R.Read.remaining (inner_of c.count_from.new.input) in
    let origin = c.in-Ok.ensures in
    let some : (c.in_ok-addition.origin == 0) ≡ false =
    ne_eqb c.in_ok-addition.origin 0 (λ e. absurd (omega (arith, e, origin.0))) in
    let y : Head = record { version = v; addition = from.0; origin = from.1; count = c.in_ok-count.count } in
    let third = then_gave (λ all. as_in_page (number_at w32 all)) (counted v from) c.in_ok-count.count y now new new
    c.in_ok-count.ensures.read (passes y new (λ all. counted v from (c.in_ok-count.count, all)) (λ all. refl)) in
    let judged = subst (λ (b : Bool). Gave y now new
    (λ all. unless BadOrigin b (as_in_page (number_at w32 all)) >>= counted v from)) (sym some) third in
    let second = then_gave (λ all. as_in_page (archives_at v s n all)) (after_archives v) from y mid now new
    c.in_ok-addition.ensures.read judged in
    let whole = then_gave (λ all. as_in_page (start_at s all)) (after_start s) (v, n) y old mid new
    c.in_ok-version.ensures.read second in
    subst (λ (o : ℕ). Gave (record { version = v; addition = from.0; origin = o; count = c.in_ok-count.count }) old new
    (head_at s)) (sym origin.1) whole

pub returns-in_err-addition-clause-piece : goal.returns-in_err-addition-clause-piece
returns-in_err-addition-clause-piece g c = record {
  digest = search rules;
  stream =
      let p = err_from_is_err_and c.from_residual-in_err-addition.result c.from_residual-in_err-addition.ensures.1 in
      rw (p.1, p.2) (loads_then_refused _ _ _ _ _ _ c.in_ok-version.ensures.piece.stream
      c.in_err-addition.ensures.piece.stream);
  most =
      let old = g.R.Read.remaining (inner_of c.args.input.now) in
      let mid = g.R.Read.remaining (inner_of c.start_from.new.input) in
      let now = g.R.Read.remaining (inner_of c.archives_from.new.input) in
      let s = c.args.schema.now in
      let n = c.in_ok-version.number in
      let few = c.in_ok-version.ensures.number.at_most in
      let all = length (schema_bytes s) in
      took_more 10 (9 * n + 2) (all + 11) old mid now c.start_from.ensures.piece.most c.archives_from.ensures.piece.most
      (omega (arith, few, schema_len s));
  no_memory = search rules;
}

pub returns-in-Err-clause-piece : goal.returns-in-Err-clause-piece
returns-in-Err-clause-piece g c = record {
  digest = search rules;
  stream =
      loads_then _ _ _ _ _ _ _ c.in_ok-version.ensures.piece.stream c.in_ok-addition.ensures.piece.stream
      (λ e. absurd (cc e));
  most =
      let old = g.R.Read.remaining (inner_of c.args.input.now) in
      let mid = g.R.Read.remaining (inner_of c.start_from.new.input) in
      let now = g.R.Read.remaining (inner_of c.archives_from.new.input) in
      let s = c.args.schema.now in
      let n = c.in_ok-version.number in
      let few = c.in_ok-version.ensures.number.at_most in
      let all = length (schema_bytes s) in
      took_more 10 (9 * n + 2) (all + 11) old mid now c.start_from.ensures.piece.most c.archives_from.ensures.piece.most
      (omega (arith, few, schema_len s));
  no_memory = search rules;
}

pub returns-in_err-count-clause-piece : goal.returns-in_err-count-clause-piece
returns-in_err-count-clause-piece g c = record {
  digest = search rules;
  stream =
      let p = err_from_is_err_and c.from_residual-in_err-count.result c.from_residual-in_err-count.ensures.1 in
      let two = loads_then _ _ _ _ _ _ c.archives_from.result c.start_from.ensures.piece.stream
      c.archives_from.ensures.piece.stream (λ e. e) in
      rw (p.1, p.2) (loads_then_refused _ _ _ _ _ _ two c.in_err-count.ensures.piece.stream);
  most =
      let old = g.R.Read.remaining (inner_of c.args.input.now) in
      let mid = g.R.Read.remaining (inner_of c.start_from.new.input) in
      let now = g.R.Read.remaining (inner_of c.archives_from.new.input) in
      let new = g.R.Read.remaining (inner_of c.count_from.new.input) in
      let s = c.args.schema.now in
      let n = c.in_ok-version.number in
      let few = c.in_ok-version.ensures.number.at_most in
      let all = length (schema_bytes s) in
      took_more (all + 7) 4 (all + 11) old now new (took_more 10 (9 * n + 2) (all + 7) old mid now
      c.start_from.ensures.piece.most c.archives_from.ensures.piece.most (omega (arith, few, schema_len s)))
      c.count_from.ensures.piece.most (omega arith);
  no_memory = search rules;
}

pub returns-clause-piece : goal.returns-clause-piece
returns-clause-piece g c = record {
  digest =
      let old = g.R.Read.remaining (inner_of c.args.input.now) in
      let mid = g.R.Read.remaining (inner_of c.start_from.new.input) in
      let now = g.R.Read.remaining (inner_of c.archives_from.new.input) in
      let new = g.R.Read.remaining (inner_of c.count_from.new.input) in
      Digests-then old now new c.args.hasher.now c.archives_from.new.hasher c.count_from.new.hasher
      (Digests-then old mid now c.args.hasher.now c.start_from.new.hasher c.archives_from.new.hasher
      c.in_ok-version.ensures.piece.digest c.in_ok-addition.ensures.piece.digest)
      c.in_ok-count.ensures.piece.digest;
  stream =
      let two = loads_then _ _ _ _ _ _ c.archives_from.result c.start_from.ensures.piece.stream
      c.archives_from.ensures.piece.stream (λ e. e) in
      loads_then _ _ _ _ _ _ _ two c.count_from.ensures.piece.stream (λ e. absurd (cc e));
  most =
      let old = g.R.Read.remaining (inner_of c.args.input.now) in
      let mid = g.R.Read.remaining (inner_of c.start_from.new.input) in
      let now = g.R.Read.remaining (inner_of c.archives_from.new.input) in
      let new = g.R.Read.remaining (inner_of c.count_from.new.input) in
      let s = c.args.schema.now in
      let n = c.in_ok-version.number in
      let few = c.in_ok-version.ensures.number.at_most in
      let all = length (schema_bytes s) in
      took_more (all + 7) 4 (all + 11) old now new (took_more 10 (9 * n + 2) (all + 7) old mid now
      c.start_from.ensures.piece.most c.archives_from.ensures.piece.most (omega (arith, few, schema_len s)))
      c.count_from.ensures.piece.most (omega arith);
  no_memory = search rules;
}

pub returns-in-Err-clause-bad_origin : goal.returns-in-Err-clause-bad_origin
returns-in-Err-clause-bad_origin g c = λ e.
    let old = g.R.Read.remaining (inner_of c.args.input.now) in
    let mid = g.R.Read.remaining (inner_of c.start_from.new.input) in
    let now = g.R.Read.remaining (inner_of c.archives_from.new.input) in
    let s = c.args.schema.now in
    let n = c.in_ok-version.number in
    let few = c.in_ok-version.ensures.number.at_most in
    let all = length (schema_bytes s) in
    took_more 10 (9 * n + 2) (all + 11 - 4) old mid now c.start_from.ensures.piece.most
    c.archives_from.ensures.piece.most
    (omega (arith, few, schema_len s))
