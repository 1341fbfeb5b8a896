use Rattle.std.proofs.Common.{rules, ◌≡◌, ◌<◌, ℕ, true, false, length, map, ap, ◌∙◌, to_z, of_z, w64}
use Rattle.std.specs.List.{list_any, range_with_len}
use Rattle.rr_replica.specs.Horizon.{keeps, keeps_in}
use Rattle.rr_replica.proofs.Keeping.{any_more, any_upto}
use Rattle.rr_replica.proofs.replica.Replica.keeps_near.Goals as goal

pub loop-i-preserved : goal.loop-i-preserved
loop-i-preserved g c =
    let r = c.args.self.now in
    let time : to_z w64 (of_z w64 c.args.time) ≡ c.args.time = search rules in
    let here : false ≡ keeps_in r.schema r.cells c.args.key.now c.args.time c.loop-i.i = search rules in
    rw time (any_more (keeps_in r.schema r.cells c.args.key.now c.args.time) c.loop-i.i false false
    (rw time at c.loop-i.invariant) here)

pub returns-then-keeps_in : goal.returns-then-keeps_in
unfolding keeps
returns-then-keeps_in g c =
    let r = c.args.self.now in
    let time : to_z w64 (of_z w64 c.args.time) ≡ c.args.time = search rules in
    let here : true ≡ keeps_in r.schema r.cells c.args.key.now c.args.time c.loop-i.i = search rules in
    let within : c.loop-i.i < length r.schema.archives = search rules in
    any_upto (keeps_in r.schema r.cells c.args.key.now c.args.time) c.loop-i.i (length r.schema.archives)
    (rw time at c.loop-i.invariant) here within

pub returns : goal.returns
unfolding keeps
returns g c =
    let r = c.args.self.now in
    let time : to_z w64 (of_z w64 c.args.time) ≡ c.args.time = search rules in
    let all : c.loop-i.i ≡ length r.schema.archives = search rules in
    (rw time at c.loop-i.invariant)
    ∙ ap (λ (n : ℕ). list_any (λ k. k) (map (keeps_in r.schema r.cells c.args.key.now c.args.time)
    (range_with_len 0 n))) all
