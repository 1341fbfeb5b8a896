-- A field that is read is a value more.
use Rattle.std.proofs.Common.{◌≡◌, ◌+◌, ◌≤◌, ◌∷◌, ◌++◌, [], List, ℕ, Some, length, map, sym, ap, subst, ◌∙◌, arith, rules, to_z, of_z, w64}
use Rattle.std.proofs.lemmas.List.{length-append, map-append}
use Rattle.rr_line.specs.Known.{Sample}
use Rattle.rr_line.specs.KnownLine.{HasRead}
use Rattle.rr_desk.specs.Points.{keyed_value}
use Rattle.rr_desk.specs.declared.samples.KeyedValue.{KeyedValue}
use Rattle.rr_node.proofs.answer.read_next.Goals as goal

-- with one value more
more_values : (old new : List KeyedValue) (x : KeyedValue) (s : Sample) → new ≡ old ++ x ∷ [] → keyed_value x ≡ s
    → map keyed_value new ≡ map keyed_value old ++ s ∷ []
more_values old new x s is same = ap (map keyed_value) is ∙ map-append keyed_value old (x ∷ [])
    ∙ ap (λ (t : Sample). map keyed_value old ++ t ∷ []) same

few_more : (old new : List KeyedValue) (x : KeyedValue) (n : ℕ) → new ≡ old ++ x ∷ [] → length old ≤ n
    → length new ≤ n + 1
few_more old new x n is few = omega (arith, few, ap length is, length-append old (x ∷ []))

pub loop-preserved : goal.loop-preserved
loop-preserved g c =
    let old = c.loop.values.items in
    let key = c.in_ok-key-2.key.now in
    let value = c.in_ok-value-2.value in
    let parsed = c.next_field.ensures c.args.line.now (map keyed_value old) c.loop.invariant.read in
    let was : c.next_field.result ≡ Some (value, c.in_ok-value-2.next) = search rules in
    let back : to_z w64 (of_z w64 value) ≡ value = search rules in
    let pushed : c.push-in-loop.new.self.items ≡ old ++ c.in_ok-keyed-2.field-0 ∷ [] = search rules in
    let keyed : keyed_value c.in_ok-keyed-2.field-0 ≡ (key, value) = rw back at c.in_ok-keyed-2.ensures in
    let read : HasRead c.args.line.now (map keyed_value old ++ (key, value) ∷ []) c.in_ok-value-2.next =
    rw was at parsed in
    let more = more_values old c.push-in-loop.new.self.items c.in_ok-keyed-2.field-0 (key, value) pushed keyed in
    record {
      read = subst (λ (ss : List Sample). HasRead c.args.line.now ss c.in_ok-value-2.next) (sym more) read;
      few = few_more old c.push-in-loop.new.self.items c.in_ok-keyed-2.field-0 c.loop.counter pushed
          c.loop.invariant.few;
    }
