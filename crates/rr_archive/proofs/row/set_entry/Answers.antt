use Rattle.std.proofs.Common.{rules, IsTrue, ◌≡◌, ◌<◌, arith, List, length, get_or, sym, ap, subst, refl, ◌∙◌, Ok}
use Rattle.std.specs.List.{position_from, insert}
use Rattle.std.specs.Option.{unwrap_or}
use Rattle.std.proofs.lemmas.Bool.{eqb-true, eqb-false}
use Rattle.std.specs.Global.{Vec}
use Rattle.rr_archive.specs.declared.entry.Entry.{Entry}
use Rattle.rr_archive.specs.Row.{is_from, ascends, with_entry}
use Rattle.rr_archive.specs.Stored.{SetsEntry}
use Rattle.rr_archive.proofs.RowLemmas.{position_for, position_for-is, position_for-le, with_entry-set, with_entry-insert, ascends_with_entry}
use Rattle.rr_archive.proofs.row.set_entry.Goals as goal
use Rattle.rr_archive.proofs.row.set_entry.Goals.{else-at-len-via-then-at-len+else-eq, else-at-len-via-else-at-len}

there : (e : Entry) (old new : Vec Entry) → new.items ≡ with_entry old.items e → SetsEntry e old new (Ok (tt {0}))
there e old new set = record {
  changed = set;
  unchanged = tt;
  ascend = λ a. subst (λ es. IsTrue (ascends es)) (sym set) (ascends_with_entry old.items e a);
  room = λ _. refl;
}

pub returns-then-eq : goal.returns-then-eq
returns-then-eq c =
    let es : List Entry = c.args.row.now.items in
    let new : Entry = c.args.entry in
    let d : Entry = c.index.result.now in
    let found : c.unwrap_or-at.result ≡ unwrap_or (position_from (is_from new.origin) 0 es) (length es) =
    search rules in
    let at : c.unwrap_or-at.result ≡ position_for new.origin es = found ∙ position_for-is new.origin es in
    let within : c.unwrap_or-at.result < length es = omega arith in
    let same : (get_or es c.unwrap_or-at.result d).origin ≡ new.origin =
    ap (λ (e : Entry). e.origin) (sym c.index.ensures)
    ∙ eqb-true d.origin new.origin (sym c.eq.ensures ∙ c.if-eq.true) in
    there new c.args.row.now _ (rw at (with_entry-set es new d (subst (λ k. k < length es) at within)
    (subst (λ k. (get_or es k d).origin ≡ new.origin) at same)))

pub insert-requires : goal.insert-requires
insert-requires c =
    let es : List Entry = c.args.row.now.items in
    let found : c.unwrap_or-at.result ≡ unwrap_or (position_from (is_from c.args.entry.origin) 0 es) (length es) =
    search rules in
    let at = position_for-is c.args.entry.origin es in
    let most = position_for-le c.args.entry.origin es in
    omega arith

pub returns : goal.returns
returns c =
    let es : List Entry = c.args.row.now.items in
    let new : Entry = c.args.entry in
    let found : c.unwrap_or-at.result ≡ unwrap_or (position_from (is_from new.origin) 0 es) (length es) =
    search rules in
    let at : c.unwrap_or-at.result ≡ position_for new.origin es = found ∙ position_for-is new.origin es in
    let items : c.insert.new.self.items ≡ insert es c.unwrap_or-at.result new = search rules in
    there new c.args.row.now _ (rw (items, at) (elim c.else-at-len.branch [
      | else-at-len-via-then-at-len+else-eq w ↦
          let d : Entry = w.index.result.now in
          let here : get_or es (position_for new.origin es) d ≡ d = ap (λ k. get_or es k d) (sym at)
          ∙ sym w.index.ensures in
          let other = eqb-false d.origin new.origin (sym w.eq.ensures ∙ w.if-eq.false) in
          with_entry-insert es new d (λ _ same. other (sym (ap (λ (e : Entry). e.origin) here) ∙ same))
      | else-at-len-via-else-at-len w ↦ with_entry-insert es new new (λ lt _. absurd (omega arith))
    ]))
