-- Lines that are answered while their stream is read.
use Rattle.std.proofs.Common.{◌≡◌, ℕ, take, true, false, List, [], ◌∷◌, ◌++◌, Option, Some, None, refl, sym, ap, subst, ◌∙◌, append_assoc}
use Rattle.std.specs.Prelude.{IfSome}
use Rattle.std.specs.Io.KnownBytes.{Appends, Consumes, IsAtEnd, Keeps}
use Rattle.std.proofs.KnownBytes.{Appends-nil, Appends-trans, Consumes-nil, Consumes-trans, Consumes-whole}
use Rattle.std.proofs.lemmas.List.{append-nil}
use Rattle.rr_io.proofs.StreamLemmas.{prefix_after}
use Rattle.rr_feed.specs.Feed.{FeedState, empty_feed, items_left, state, with_more}
use Rattle.rr_feed.specs.Items.{Item, items}
use Rattle.rr_feed.specs.Laws.{IsFed}
use Rattle.rr_feed.proofs.FedLemmas.{IsFed-all, IsFed-end, IsFed-new, IsFed-push}
use Rattle.rr_desk.specs.ReaderState.{ReaderState, HasSeenMore}
use Rattle.rr_node.specs.Answering.{HasWritten, HasWrittenSome}
use Rattle.rr_node.specs.Fetches.{ReaderAndGate, AreAnswered, HasAnswered, HasAnsweredSome, HasAnsweredTaken}
use Rattle.rr_node.proofs.FetchesLemmas.{answers_append, seen_in_answers, seen_more, seen_same}

-- what holds of all that a reader had, since it holds of what was taken whatever is left
pub of_all_bytes : (a b : Option (List ℕ)) (taken : List ℕ) (P : List ℕ → Type 0) → Consumes a b taken
    → ((more : List ℕ) → P (taken ++ more)) → IfSome a P
of_all_bytes None b taken P consumed each = tt
of_all_bytes (Some x) None taken P consumed each = absurd consumed
of_all_bytes (Some x) (Some y) taken P consumed each = subst P (sym consumed) (each y)

-- a read that took nothing
pub none_consumed : (a b : Option (List ℕ)) → Keeps a b → Consumes a b []
none_consumed None b keeps = tt
none_consumed (Some x) None keeps = absurd keeps
none_consumed (Some x) (Some y) keeps = sym keeps

-- a read that took nothing, after bytes that were taken
pub consumed_same : (a b c : Option (List ℕ)) (taken : List ℕ) → Consumes a b taken → Keeps b c → Consumes a c taken
consumed_same a b c taken consumed keeps = subst (Consumes a c) (append-nil taken)
    (Consumes-trans a b c taken [] consumed (none_consumed b c keeps))

-- what was taken after the first byte went into the feed, and what the feed handed out is answered
pub record SoFar (first : ℕ) (feed : FeedState) (had left before after : Option (List ℕ))
    (old new : ReaderAndGate) : Type 0 where
  pub taken : List ℕ
  pub consumed : Consumes had left taken
  pub handed : List Item
  pub fed : IsFed (first ∷ taken) handed feed
  pub text : List ℕ
  pub answered : AreAnswered handed old new text
  pub written : Appends before after text

-- the first byte
pub so_far_first : (first : ℕ) (feed : FeedState) (had out : Option (List ℕ)) (at : ReaderAndGate)
    → feed ≡ state (first ∷ []) false false → SoFar first feed had had out out at at
so_far_first first feed had out at is = record {
  taken = [];
  consumed = Consumes-nil had;
  handed = [];
  fed = subst (IsFed (first ∷ []) []) (sym is) (IsFed-push [] (first ∷ []) [] empty_feed refl IsFed-new);
  text = [];
  answered = (refl, refl);
  written = Appends-nil out;
}

-- a read that a signal interrupted
pub so_far_same : (first : ℕ) (feed : FeedState) (had left next before after : Option (List ℕ))
    (old new : ReaderAndGate) → SoFar first feed had left before after old new → Keeps left next
    → SoFar first feed had next before after old new
so_far_same first feed had left next before after old new so_far keeps = record {
  taken = so_far.taken;
  consumed = consumed_same had left next so_far.taken so_far.consumed keeps;
  handed = so_far.handed;
  fed = so_far.fed;
  text = so_far.text;
  answered = so_far.answered;
  written = so_far.written;
}

-- a piece more
pub so_far_pushed : (first : ℕ) (f g : FeedState) (had left next before after : Option (List ℕ))
    (old new : ReaderAndGate) (piece : List ℕ) → SoFar first f had left before after old new → f.ended ≡ false
    → Consumes left next piece → g ≡ state (f.left ++ piece) f.skipping f.ended
    → SoFar first g had next before after old new
so_far_pushed first f g had left next before after old new piece so_far going consumes is = record {
  taken = so_far.taken ++ piece;
  consumed = Consumes-trans had left next so_far.taken piece so_far.consumed consumes;
  handed = so_far.handed;
  fed = subst (IsFed (first ∷ (so_far.taken ++ piece)) so_far.handed) (sym is)
      (IsFed-push (first ∷ so_far.taken) piece so_far.handed f going so_far.fed);
  text = so_far.text;
  answered = so_far.answered;
  written = so_far.written;
}

-- the end
pub so_far_ended : (first : ℕ) (f g : FeedState) (had left before after : Option (List ℕ)) (old new : ReaderAndGate)
    → SoFar first f had left before after old new → g ≡ state f.left f.skipping true
    → SoFar first g had left before after old new
so_far_ended first f g had left before after old new so_far is = record {
  taken = so_far.taken;
  consumed = so_far.consumed;
  handed = so_far.handed;
  fed = subst (IsFed (first ∷ so_far.taken) so_far.handed) (sym is)
      (IsFed-end (first ∷ so_far.taken) so_far.handed f so_far.fed);
  text = so_far.text;
  answered = so_far.answered;
  written = so_far.written;
}

-- answers more
pub so_far_answered : (first : ℕ) (f g : FeedState) (had left before mid after : Option (List ℕ))
    (old at new : ReaderAndGate) → SoFar first f had left before mid old at → HasWritten f g at new mid after
    → SoFar first g had left before after old new
so_far_answered first f g had left before mid after old at new so_far more = record {
  taken = so_far.taken;
  consumed = so_far.consumed;
  handed = so_far.handed ++ more.items;
  fed = more.handed.fed (first ∷ so_far.taken) so_far.handed so_far.fed;
  text = so_far.text ++ more.text;
  answered = answers_append so_far.handed more.items old at new so_far.text more.text so_far.answered more.answered;
  written = Appends-trans before mid after so_far.text more.text so_far.written more.written;
}

-- what the reader has seen
pub seen_so_far : (first : ℕ) (feed : FeedState) (had left before after : Option (List ℕ)) (old new : ReaderAndGate)
    → SoFar first feed had left before after old new → HasSeenMore old.reader new.reader
seen_so_far first feed had left before after old new so_far =
    seen_in_answers so_far.handed old new so_far.text so_far.answered

pub seen_in_written : (f g : FeedState) (old new : ReaderAndGate) (before after : Option (List ℕ))
    → HasWritten f g old new before after → HasSeenMore old.reader new.reader
seen_in_written f g old new before after has = seen_in_answers has.items old new has.text has.answered

pub seen_in_some : (f g : FeedState) (old : ReaderAndGate) (new : ReaderState) (before after : Option (List ℕ))
    → HasWrittenSome f g old new before after → HasSeenMore old.reader new
seen_in_some f g old new before after some = seen_more old.reader some.last.reader new
    (seen_in_answers some.first old some.last some.text some.answered) some.seen

-- nothing is answered yet
pub none_answered : (bytes : List ℕ) (at : ReaderAndGate) (out : Option (List ℕ))
    → HasAnsweredSome bytes at at.reader out out
none_answered bytes at out = record {
  first = [];
  later = items true bytes;
  cut = refl;
  last = at;
  seen =
      seen_same at.reader;
  text = [];
  answered = (refl, refl);
  written = ([], [], refl, Appends-nil out);
}

-- what holds of all bytes holds of those that are known
pub of_each : (had : Option (List ℕ)) (P : List ℕ → Type 0) → ((rest : List ℕ) → P rest) → IfSome had P
of_each None P each = tt
of_each (Some rest) P each = each rest

-- a prefix of the answers is written, whatever comes
pub prefix_so_far : (first : ℕ) (feed : FeedState) (had left before after : Option (List ℕ)) (old new : ReaderAndGate)
    (reader : ReaderState) → SoFar first feed had left before after old new → feed.ended ≡ false
    → HasSeenMore new.reader reader → IfSome had (λ rest. HasAnsweredSome (first ∷ rest) old reader before after)
prefix_so_far first feed had left before after old new reader so_far going seen =
    of_all_bytes had left so_far.taken (λ rest. HasAnsweredSome (first ∷ rest) old reader before after) so_far.consumed
    (λ more. record {
      first = so_far.handed;
      later = items_left (with_more feed more true);
      cut = so_far.fed more true (λ e. absurd cc);
      last = new;
      seen = seen;
      text = so_far.text;
      answered = so_far.answered;
      written = (so_far.text, [], sym (append-nil so_far.text), so_far.written);
    })

regroup : {A : Type 0} (a b c d : List A) → (a ++ (b ++ c)) ++ d ≡ (a ++ b) ++ (c ++ d)
regroup a b c d = simp append_assoc

-- so it is where not all of the next ones were answered
pub prefix_of_some : (first : ℕ) (f g : FeedState) (had left before mid after : Option (List ℕ))
    (old at : ReaderAndGate)
    (reader : ReaderState) → SoFar first f had left before mid old at → f.ended ≡ false
    → HasWrittenSome f g at reader mid after → IfSome had
    (λ rest. HasAnsweredSome (first ∷ rest) old reader before after)
prefix_of_some first f g had left before mid after old at reader so_far going some =
    of_all_bytes had left so_far.taken (λ rest. HasAnsweredSome (first ∷ rest) old reader before after) so_far.consumed
    (λ more.
    let ended : g.ended ≡ false = some.handed.ended ∙ going in
    let rest = items_left (with_more g more true) in
    record {
      first = so_far.handed ++ some.first;
      later = some.later ++ rest;
      cut = some.handed.fed (first ∷ so_far.taken) so_far.handed so_far.fed more true (λ e. absurd cc)
          ∙ regroup so_far.handed some.first some.later rest;
      last = some.last;
      seen = some.seen;
      text = so_far.text ++ some.text;
      answered = answers_append so_far.handed some.first old at some.last so_far.text some.text so_far.answered
          some.answered;
      written = prefix_after before mid after so_far.text some.text so_far.written some.written;
    })

-- all lines that came whole are answered
pub whole_so_far : (first : ℕ) (feed : FeedState) (had left before after : Option (List ℕ)) (old new : ReaderAndGate)
    → SoFar first feed had left before after old new → feed.ended ≡ false → items_left feed ≡ []
    → HasAnsweredTaken (first ∷ []) had left old new before after
whole_so_far first feed had left before after old new so_far going nothing =
    let all : so_far.handed ≡ items false (first ∷ so_far.taken) =
    IsFed-all (first ∷ so_far.taken) so_far.handed feed nothing so_far.fed
    ∙ ap (λ b. items b (first ∷ so_far.taken)) going in (
      so_far.taken,
      so_far.consumed,
      record {
        text = so_far.text;
        answered = subst (λ (items : List Item). AreAnswered items old new so_far.text) all so_far.answered;
        written = so_far.written;
      },
    )

-- all of a reader's bytes are taken, once it is at its end
pub of_all_taken : (a b c : Option (List ℕ)) (taken buffer : List ℕ) (given : ℕ) (P : List ℕ → Type 0)
    → Consumes a b taken → Consumes b c (take given buffer) → given ≡ 0 → IsAtEnd c → P taken → IfSome a P
of_all_taken a b c taken buffer given P first second zero end holds =
    let nothing : take given buffer ≡ [] = ap (λ (k : ℕ). take k buffer) zero in
    let last = Consumes-trans a b c taken [] first (subst (Consumes b c) nothing second) in
    Consumes-whole a c taken P (subst (Consumes a c) (append-nil taken) last) end holds

-- at the end all lines are answered
pub all_answered : (first : ℕ) (f e g : FeedState) (had left before mid after : Option (List ℕ))
    (old at new : ReaderAndGate) → (so_far : SoFar first f had left before mid old at)
    → e ≡ state f.left f.skipping true → HasWritten e g at new mid after → items_left g ≡ []
    → HasAnswered true (first ∷ so_far.taken) old new before after
unfolding so_far_answered so_far_ended
all_answered first f e g had left before mid after old at new so_far is more nothing =
    let last = so_far_answered first e g had left before mid after old at new
    (so_far_ended first f e had left before mid old at so_far is) more in
    let all : last.handed ≡ items true (first ∷ so_far.taken) =
    IsFed-all (first ∷ so_far.taken) last.handed g nothing last.fed
    ∙ ap (λ b. items b (first ∷ so_far.taken)) (more.handed.ended ∙ ap (λ (s : FeedState). s.ended) is) in
    record {
      text = last.text;
      answered = subst (λ (items : List Item). AreAnswered items old new last.text) all last.answered;
      written = last.written;
    }

-- or some are, where a fault came
pub some_answered : (first : ℕ) (f e g : FeedState) (had left before mid after : Option (List ℕ))
    (old at : ReaderAndGate) (reader : ReaderState) → (so_far : SoFar first f had left before mid old at)
    → e ≡ state f.left f.skipping true → HasWrittenSome e g at reader mid after
    → HasAnsweredSome (first ∷ so_far.taken) old reader before after
unfolding so_far_ended
some_answered first f e g had left before mid after old at reader so_far is some =
    let fed = (so_far_ended first f e had left before mid old at so_far is).fed in
    let rest = items_left (with_more g [] true) in
    let whole : (first ∷ so_far.taken) ++ [] ≡ first ∷ so_far.taken = append-nil (first ∷ so_far.taken) in
    record {
      first = so_far.handed ++ some.first;
      later = some.later ++ rest;
      cut = ap (items true) (sym whole) ∙ some.handed.fed (first ∷ so_far.taken) so_far.handed fed [] true
          (λ e. (refl, refl)) ∙ regroup so_far.handed some.first some.later rest;
      last = some.last;
      seen = some.seen;
      text = so_far.text ++ some.text;
      answered = answers_append so_far.handed some.first old at some.last so_far.text some.text so_far.answered
          some.answered;
      written = prefix_after before mid after so_far.text some.text so_far.written some.written;
    }
