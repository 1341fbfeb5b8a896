use Rattle.std.proofs.Common.{◌≡◌, ℕ, ◌-◌, min, List, length, drop, refl, sym, ap, ◌∙◌, subst, Bor, rules}
use Rattle.std.proofs.lemmas.List.{drop_min, take_rest}
use Rattle.rr_journal.specs.Header.{header_len}
use Rattle.rr_replication.specs.Following.{FileBegins}
use Rattle.rr_replication.specs.Reading.{after_part, peer_state}
use Rattle.rr_replication.specs.declared.tally.Tally.{Tally}
use Rattle.rr_replication.specs.Tally.{IsTallied}
use Rattle.rr_replication.proofs.following.Following.take_newest.Goals as goal

pub returns-clause-begun : goal.returns-clause-begun
returns-clause-begun c =
    let s = c.args.schema.now in
    let body = c.args.answer.now.body.items in
    let begins = c.in-Ok.begins in
    let header = c.in-Ok.ensures.read in
    let input = ap (λ (b : Bor (List ℕ)). b.now) c.new-input.ensures.inner ∙ c.as_slice.ensures.value in
    let at : c.min.result ≡ min (header_len s) (length body) = cc (c.min.ensures, c.header_len.ensures.value, c.len.ensures) in
    let records = take_rest c.deref.result.now c.min.result ∙ ap (drop c.min.result) c.deref.ensures.value
    ∙ ap (λ (n : ℕ). drop n body) at ∙ drop_min (header_len s) body in
    let more = length c.read_tallied.new.cells.items - length c.args.cells.now.items in
    record {
      begins = begins;
      end = c.in_ok-place.place;
      tally = c.in_ok-place.tally;
      header = subst (λ (l : List ℕ). FileBegins s l begins) input (header.0, header.2);
      of_peer = search rules;
      read = sym (ap (λ (l : List ℕ). after_part s (peer_state begins c.args.cells.now.items) l) records)
          ∙ c.in_ok-place.ensures.read.0;
      tallied = subst (λ (t : Tally). IsTallied s t begins (drop (header_len s) body) more c.in_ok-place.tally)
          c.new-before.ensures
          (subst (λ (l : List ℕ). IsTallied s c.new-before.result begins l more c.in_ok-place.tally) records
          c.in_ok-place.ensures.read.1);
      position_is = refl;
      next_is = refl;
    }
