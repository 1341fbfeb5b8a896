use Rattle.std.proofs.Common.{rules, ◌≡◌, ℕ, ◌+◌, length, All, List, [], ◌∷◌, ◌++◌, sym, ap, ◌∙◌, subst, length-append}
use Rattle.std.proofs.lemmas.List.Elements.{All-push}
use Rattle.left_right.specs.Sides.{view}
use Rattle.rr_desk.specs.declared.rule.View.{View}
use Rattle.rr_desk.specs.ReaderState.{HasSeen, ReaderState}
use Rattle.rr_desk.proofs.opening.joined_readers.Goals as goal

pub loop-n-preserved : goal.loop-n-preserved
loop-n-preserved g c =
    let was = c.loop-n.invariant in
    let did = c.in_ok-joined_reader.ensures in
    let v = view c.args.writer.now.desk.place in
    let s = c.args.schema.now in
    let items : c.push.new.self.items ≡ c.loop-n.all.items ++ c.in_ok-joined_reader.field-0 ∷ [] = search rules in
    let here : HasSeen v.desk s v.seen c.in_ok-joined_reader.field-0 =
    subst (λ (v : View). HasSeen v.desk s v.seen c.in_ok-joined_reader.field-0) was.place did.seen in
    record {
      place = did.same.place ∙ was.place;
      shown = did.same.shown ∙ was.shown;
      pending = did.same.pending ∙ was.pending;
      count = ap length items ∙ (length-append c.loop-n.all.items (c.in_ok-joined_reader.field-0 ∷ [])
          ∙ ap (λ (k : ℕ). k + 1) was.count);
      seen = subst (λ (l : List ReaderState). All (HasSeen v.desk s v.seen) l) (sym items)
          (All-push (HasSeen v.desk s v.seen) c.loop-n.all.items c.in_ok-joined_reader.field-0 was.seen here);
    }
