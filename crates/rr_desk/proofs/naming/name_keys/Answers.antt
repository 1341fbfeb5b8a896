use Rattle.std.proofs.Common.{rules, ◌≡◌, [], ◌∷◌, ◌++◌, Some, false, slice_get, take, ap, ◌∙◌}
use Rattle.rr_replica.specs.Numbered.{knows}
use Rattle.rr_desk.specs.declared.change.Change.TheVariants.{AddKey}
use Rattle.rr_desk.specs.Changes.{prefix_after, names_of, ops_in}
use Rattle.rr_desk.specs.Writers.{changes}
use Rattle.rr_desk.proofs.ChangesLemmas.{prefix_after-more, ops_in-add_key}
use Rattle.rr_desk.proofs.NamingLemmas.{named-next}
use Rattle.rr_desk.proofs.naming.name_keys.Goals as goal

pub loop-number-preserved : goal.loop-number-preserved
loop-number-preserved g c =
    let w = c.loop-number.writer in
    let n = c.append.new.self in
    let so_far = c.loop-number.invariant in
    let names = names_of c.args.writer.now.desk.shown.value.replica in
    let own = c.args.own.now.keys in
    let number = c.loop-number.number in
    let key = c.in_ok-key.key in
    let more : changes n ≡ changes w ++ AddKey key ∷ [] = search rules in
    let same : key ≡ c.key_numbered.result.now = search rules in
    let at : slice_get own number ≡ Some key = rw same c.key_numbered.ensures.key in
    let fresh : knows (take number own) key ≡ false = rw same c.key_numbered.ensures.first in
    record {
      desk = c.append.ensures.desk ∙ so_far.desk;
      pending = ap (ops_in names) more ∙ ops_in-add_key names (changes w) key ∙ so_far.pending;
      prefix = λ s. ap (prefix_after s) more ∙ prefix_after-more s (changes w) (AddKey key) ∙ so_far.prefix s;
      named = named-next names own (changes w) number (rw so_far.here at so_far.named) (changes n) key at fresh more;
      here = search rules;
    }
