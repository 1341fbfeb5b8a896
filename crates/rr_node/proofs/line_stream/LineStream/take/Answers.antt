use Rattle.std.proofs.Common.{◌≡◌, List, ℕ, [], ◌++◌, take, refl, sym, ap, ◌∙◌, append_assoc, append-nil}
use Rattle.std.proofs.lemmas.List.{take-append-drop}
use Rattle.std.proofs.lemmas.Result.{err_from_is_err_and}
use Rattle.rr_host.proofs.ClockLemmas.{HasGiven-nil, HasGiven-trans}
use Rattle.rr_node.proofs.LineStreamLemmas.{Takes-nothing, Takes-trans, stops_later, take_again}
use Rattle.rr_node.proofs.AmongLemmas.{TakesAmong-nothing, TakesAmong-trans}
use Rattle.rr_node.proofs.line_stream.LineStream.take.Goals as goal

pub loop-left-init : goal.loop-left-init
loop-left-init g c =
    let limit = c.args.limit in
    let before = c.args.answers.now.items in
    let kept : c.truncate.new.self.items ≡ take limit before = c.truncate.ensures.items in
    record {
      taken = (
        [],
        [],
        [],
        refl,
        HasGiven-nil _,
        kept ∙ ap (take limit) (sym (append-nil before)) ∙ sym (take_again limit before [])
            ∙ ap (λ (l : List ℕ). take limit (l ++ [])) (sym kept),
        Takes-nothing c.args.self.now c.args.keeper.now,
      );
      among = (
        [],
        [],
        [],
        [],
        refl,
        HasGiven-nil _,
        kept ∙ ap (take limit) (sym (append-nil before)) ∙ sym (take_again limit before [])
            ∙ ap (λ (l : List ℕ). take limit (l ++ [])) (sym kept),
        TakesAmong-nothing c.args.self.now c.args.keeper.now,
      );
      renewals = refl;
    }

pub returns-in_err-take_piece-clause-stopped : goal.returns-in_err-take_piece-clause-stopped
returns-in_err-take_piece-clause-stopped g c =
    let raised = err_from_is_err_and c.from_residual.result c.from_residual.ensures.1 in
    let so_far = c.loop-left.invariant.taken in
    let stopped = c.in_err-take_piece.ensures.stopped in
    let piece = c.split_at.result.0.now in
    let rest = c.split_at.result.1.now in
    let split : piece ++ rest ≡ c.loop-left.left.now =
    rw (c.split_at.ensures.front, c.split_at.ensures.back) (take-append-drop _ c.loop-left.left.now) in
    rw raised.1 (
      so_far.1 ++ stopped.0,
      rw c.renew.ensures.given at (HasGiven-trans _ _ _ so_far.1 stopped.0 so_far.4 stopped.1),
      λ start came given answered has. stops_later c.args.self.now c.loop-left.self start c.args.keeper.now
          c.loop-left.keeper _ came so_far.0 piece rest c.args.bytes.now answered given so_far.1 stopped.0 so_far.2
          (sym (ap (λ (l : List ℕ). so_far.0 ++ l) split ∙ so_far.3)) so_far.6 stopped.2 has,
    )

pub loop-left-preserved : goal.loop-left-preserved
loop-left-preserved g c =
    let limit = c.args.limit in
    let before = c.truncate.new.self.items in
    let so_far = c.loop-left.invariant.taken in
    let more = c.in_ok-take_piece.ensures.taken in
    let piece = c.split_at.result.0.now in
    let rest = c.split_at.result.1.now in
    let split : piece ++ rest ≡ c.loop-left.left.now =
    rw (c.split_at.ensures.front, c.split_at.ensures.back) (take-append-drop _ c.loop-left.left.now) in
    record {
      taken = (
        so_far.0 ++ piece,
        so_far.1 ++ more.0,
        so_far.2 ++ more.1,
        append_assoc so_far.0 piece rest ∙ ap (λ (l : List ℕ). so_far.0 ++ l) split ∙ so_far.3,
        HasGiven-trans _ _ _ so_far.1 more.0 so_far.4 more.2,
        c.truncate-in-loop-left.ensures.items
            ∙ ap (take limit) (more.3 ∙ ap (λ (l : List ℕ). l ++ more.1) so_far.5)
            ∙ take_again limit (before ++ so_far.2) more.1
            ∙ ap (take limit) (append_assoc before so_far.2 more.1),
        Takes-trans c.args.self.now c.loop-left.self _ c.args.keeper.now c.loop-left.keeper _ so_far.0 piece so_far.1
            more.0 so_far.2 more.1 so_far.6 more.4,
      );
      among =
          let others = c.loop-left.invariant.among in
          let next = c.in_ok-take_piece.ensures.among in (
            others.0 ++ piece,
            others.1 ++ next.0,
            others.2 ++ next.1,
            others.3 ++ next.2,
            append_assoc others.0 piece rest ∙ ap (λ (l : List ℕ). others.0 ++ l) split ∙ others.4,
            HasGiven-trans _ _ _ others.2 next.1 others.5 next.3,
            c.truncate-in-loop-left.ensures.items
                ∙ ap (take limit) (next.4 ∙ ap (λ (l : List ℕ). l ++ next.2) others.6)
                ∙ take_again limit (before ++ others.3) next.2
                ∙ ap (take limit) (append_assoc before others.3 next.2),
            TakesAmong-trans c.args.self.now c.loop-left.self _ c.args.keeper.now c.loop-left.keeper _ others.0 piece
                others.1 next.0 others.2 next.1 others.3 next.2 others.7 next.5,
          );
      renewals = c.in_ok-take_piece.ensures.renewals ∙ c.loop-left.invariant.renewals;
    }
