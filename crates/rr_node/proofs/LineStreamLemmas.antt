-- The lines of a stream, taken piece by piece.
use Rattle.std.proofs.Common.{◌≡◌, ℕ, ℤ, true, false, zero, suc, List, [], ◌∷◌, ◌++◌, take, refl, sym, ap, subst, ◌∙◌, append_assoc, append-nil}
use Rattle.std.proofs.lemmas.Bool.{true≢false}
use Rattle.rr_desk.specs.KeeperState.{KeeperState}
use Rattle.rr_feed.specs.Feed.{FeedState, state}
use Rattle.rr_feed.specs.Items.{items}
use Rattle.rr_node.specs.declared.connection.Connection.{Connection}
use Rattle.rr_node.specs.declared.line_stream.LineStream.{LineStream}
use Rattle.rr_node.specs.declared.report.Report.{Report}
use Rattle.rr_node.specs.declared.rules.Rules.{Rules}
use Rattle.rr_node.specs.Connection.{ConnectionTakesPiece, ComesAfter, EndsWithin, HasServed, ServedAllItems, StoppedByMemory, served_so_far}
use Rattle.rr_node.specs.Lines.{Served, after}
use Rattle.rr_node.specs.LineStream.{AreTaken, BeginsWith, HasTaken, Takes, rules_by}
use Rattle.rr_node.proofs.ConnectionLemmas.{HasServed-push, HasServed-end, SameButFeed, ends_here, ends_of, served_all}

-- what is kept of a text, and then of more
pub take_again : (count : ℕ) (first more : List ℕ) → take count (take count first ++ more) ≡ take count (first ++ more)
take_again zero first more = refl
take_again (suc count) [] more = refl
take_again (suc count) (byte ∷ first) more = ap (λ (l : List ℕ). byte ∷ l) (take_again count first more)

-- no byte
pub Takes-nothing : (s : LineStream) (k : KeeperState) → Takes s s k k [] [] []
Takes-nothing s k = record {
  taken = λ start came given answered has.
      rw (append-nil came, append-nil given, append-nil answered) has;
  rules = refl;
}

-- the bytes of one call, and then those of the next
pub Takes-trans : (a b c : LineStream) (k l m : KeeperState) (first second : List ℕ) (moments later : List ℤ)
    (text more : List ℕ) → Takes a b k l first moments text → Takes b c l m second later more
    → Takes a c k m (first ++ second) (moments ++ later) (text ++ more)
Takes-trans a b c k l m first second moments later text more one two = record {
  taken = λ start came given answered has.
      rw (sym (append_assoc came first second), sym (append_assoc given moments later), sym (append_assoc answered text more))
      (two.taken start (came ++ first) (given ++ moments) (answered ++ text) (one.taken start came given answered has));
  rules = two.rules ∙ one.rules;
}

-- a piece was pushed, and its lines were served
pub Takes-piece : (old mid new : Connection) (k now : KeeperState) (piece : List ℕ) (moments : List ℤ)
    (text : List ℕ) → ConnectionTakesPiece old mid piece → ServedAllItems mid new k now moments text
    → Takes (record { connection = old }) (record { connection = new }) k now piece moments text
Takes-piece old mid new k now piece moments text pushed served = record {
  taken = λ start came given answered has. record {
    served = served.items.served start (came ++ piece) given answered
        (HasServed-push old mid start k came piece answered given has.going pushed has.served);
    whole = served.all_taken;
    going = served.items.ended ∙ (ap (λ (f : FeedState). f.ended) pushed.feed ∙ has.going);
  };
  rules = served.items.rules ∙ pushed.rules;
}

-- nothing more comes of an input that begins so than what may come
may_come : (feed : FeedState) (pushed rest bytes : List ℕ) → feed.ended ≡ false → BeginsWith (pushed ++ rest) bytes
    → ComesAfter feed pushed bytes
may_come feed pushed rest bytes going begins =
    (rest ++ begins.0, begins.1 ∙ append_assoc pushed rest begins.0, λ e. absurd (true≢false (sym e ∙ going)))

-- before a piece was pushed
pub stops_before : (old : Connection) (start k : KeeperState) (came piece answered : List ℕ) (given : List ℤ)
    → HasTaken (record { connection = old }) start came given k answered
    → EndsWithin old.rules start k (BeginsWith (came ++ piece)) (given ++ [])
stops_before old start k came piece answered given has =
    ends_of old.rules old.rules start k (ComesAfter old.feed came) (BeginsWith (came ++ piece)) given (given ++ []) refl
    (sym (append-nil given)) (λ bytes. may_come old.feed came piece bytes has.going)
    (ends_here old start k came answered given has.served)

-- within the lines of a piece
pub stops_within : (old mid : Connection) (start k now : KeeperState) (came piece answered : List ℕ)
    (given moments : List ℤ) → ConnectionTakesPiece old mid piece → StoppedByMemory mid k now moments
    → HasTaken (record { connection = old }) start came given k answered
    → EndsWithin old.rules start now (BeginsWith (came ++ piece)) (given ++ moments)
stops_within old mid start k now came piece answered given moments pushed stopped has =
    let going : mid.feed.ended ≡ false = ap (λ (f : FeedState). f.ended) pushed.feed ∙ has.going in
    ends_of mid.rules old.rules start now (ComesAfter mid.feed (came ++ piece)) (BeginsWith (came ++ piece))
    (given ++ moments) (given ++ moments) pushed.rules refl
    (λ bytes begins. (begins.0, begins.1, λ e. absurd (true≢false (sym e ∙ going))))
    (stopped start (came ++ piece) given answered
    (HasServed-push old mid start k came piece answered given has.going pushed has.served))

-- after some pieces, before or within the next one
pub stops_later : (a b : LineStream) (start k l now : KeeperState) (came first piece rest bytes answered : List ℕ)
    (given moments later : List ℤ) (text : List ℕ) → bytes ≡ first ++ (piece ++ rest)
    → Takes a b k l first moments text
    → ((start : KeeperState) (came : List ℕ) (given : List ℤ) (answered : List ℕ)
    → HasTaken b start came given l answered
    → EndsWithin (rules_by b) start now (BeginsWith (came ++ piece)) (given ++ later))
    → HasTaken a start came given k answered
    → EndsWithin (rules_by a) start now (BeginsWith (came ++ bytes)) (given ++ (moments ++ later))
stops_later a b start k l now came first piece rest bytes answered given moments later text is takes stops has =
    ends_of (rules_by b) (rules_by a) start now (BeginsWith ((came ++ first) ++ piece)) (BeginsWith (came ++ bytes))
    ((given ++ moments) ++ later) (given ++ (moments ++ later)) takes.rules (append_assoc given moments later)
    (λ all begins. (rest ++ begins.0, begins.1 ∙ rw is (simp append_assoc)))
    (stops start (came ++ first) (given ++ moments) (answered ++ text) (takes.taken start came given answered has))

-- all lines of the bytes that came were served once they had ended
pub all_taken : (old mid new : Connection) (start k now : KeeperState) (came answered text : List ℕ)
    (given moments : List ℤ) → mid.feed ≡ state old.feed.left old.feed.skipping true → SameButFeed old mid
    → ServedAllItems mid new k now moments text → HasTaken (record { connection = old }) start came given k answered
    → AreTaken old.rules start now came (given ++ moments) (answered ++ text) new.report
all_taken old mid new start k now came answered text given moments ended same served has =
    let whole = served.items.served start came given answered
    (HasServed-end old mid start k came answered given ended same has.served) in
    let is_ended : new.feed.ended ≡ true = served.items.ended ∙ ap (λ (f : FeedState). f.ended) ended in
    let all = served_all new start now came (answered ++ text) (given ++ moments) true served.all_taken is_ended whole in
    let rules : new.rules ≡ old.rules = served.items.rules ∙ same.rules in
    subst (λ (r : Rules). AreTaken r start now came (given ++ moments) (answered ++ text) new.report) rules (record {
      asked = all.0;
      keeper = sym (ap (λ (s : Served). s.keeper) all.1);
      answered = sym (ap (λ (s : Served). s.answers) all.1);
      report = sym (ap (λ (s : Served). s.report) all.1);
    })
