-- Items that are handed out and answered one after the other, and what is written of the answers.
use Rattle.std.proofs.Common.{◌≡◌, ℕ, List, [], ◌∷◌, ◌++◌, Option, None, Some, Result, Ok, Err, refl, sym, ap, subst, ◌∙◌, append_assoc}
use Rattle.std.specs.Prelude.{OnErr, OnOk}
use Rattle.std.proofs.lemmas.List.{append-nil}
use Rattle.std.proofs.KnownBytes.{Appends-trans, Appends-kept}
use Rattle.std.specs.Io.KnownBytes.{Appends, Keeps}
use Rattle.rr_io.specs.Stream.{AppendsPrefix}
use Rattle.rr_io.proofs.StreamLemmas.{prefix_after}
use Rattle.rr_feed.specs.Feed.{FeedState, HandsOut}
use Rattle.rr_feed.specs.Items.{Item}
use Rattle.rr_feed.specs.Laws.{IsFed}
use Rattle.rr_feed.proofs.FedLemmas.{IsFed-next_line}
use Rattle.rr_desk.specs.ReaderState.{ReaderState, HasSeenMore}
use Rattle.rr_desk.proofs.PrefixLemmas.{prefix_refl, prefix_trans}
use Rattle.rr_node.specs.Answering.{HasHanded, HasWritten, HasWrittenSome, Next}
use Rattle.rr_node.specs.Fetches.{ReaderAndGate, IsAnswered, AreAnswered}

-- ---- readers that see more

pub seen_same : (r : ReaderState) → HasSeenMore r r
seen_same r = record { desk = refl; schema = refl; list = prefix_refl r.list }

pub seen_more : (r s t : ReaderState) → HasSeenMore r s → HasSeenMore s t → HasSeenMore r t
seen_more r s t p q = record {
  desk = q.desk ∙ p.desk;
  schema = q.schema
      ∙ p.schema;
  list = prefix_trans r.list s.list t.list p.list q.list;
}

pub seen_in_answers : (items : List Item) (old new : ReaderAndGate) (text : List ℕ) → AreAnswered items old new text
    → HasSeenMore old.reader new.reader
seen_in_answers [] old new text none = subst (λ (s : ReaderAndGate). HasSeenMore old.reader s.reader) (sym none.0)
    (seen_same old.reader)
seen_in_answers (item ∷ later) old new text (mid, first, rest, one, others, e) =
    seen_more old.reader mid.reader new.reader one.made.seen (seen_in_answers later mid new rest others)

-- ---- answers, one after the other

-- items are answered, and then others
pub answers_append : (xs ys : List Item) (old mid new : ReaderAndGate) (s t : List ℕ) → AreAnswered xs old mid s
    → AreAnswered ys mid new t → AreAnswered (xs ++ ys) old new (s ++ t)
answers_append [] ys old mid new s t none others =
    subst (λ (u : List ℕ). AreAnswered ys old new (u ++ t)) (sym none.1)
    (subst (λ (a : ReaderAndGate). AreAnswered ys a new t) none.0 others)
answers_append (x ∷ xs) ys old mid new s t (at, first, rest, one, more, e) others = (
  at,
  first,
  rest ++ t,
  one,
  answers_append xs ys at mid new rest t more others,
  ap (λ (u : List ℕ). u ++ t) e
      ∙ append_assoc first rest t,
)

-- one item is answered
pub answers_one : (item : Item) (old new : ReaderAndGate) (text : List ℕ) → IsAnswered item old new text
    → AreAnswered (item ∷ []) old new text
answers_one item old new text one = (new, text, [], one, (refl, refl), sym (append-nil text))

-- ---- items that are handed out

pub handed_append : (f g h : FeedState) (xs ys : List Item) → HasHanded f xs g → HasHanded g ys h
    → HasHanded f (xs ++ ys) h
handed_append f g h xs ys p q = record {
  fed = λ pushed before fed. subst (λ (items : List Item). IsFed pushed items h) (append_assoc before xs ys)
      (q.fed pushed (before ++ xs) (p.fed pushed before fed));
  ended = q.ended ∙ p.ended;
}

pub handed_one : (f g : FeedState) (item : Item) → HandsOut f (Some item) g → HasHanded f (item ∷ []) g
handed_one f g item hands = record {
  fed = λ pushed before fed. IsFed-next_line pushed before (Some item) f g hands fed;
  ended = hands.ended;
}

pub handed_nothing : (f g : FeedState) → HandsOut f None g → HasHanded f [] g
handed_nothing f g hands = record {
  fed = λ pushed before fed. IsFed-next_line pushed before None f g hands fed;
  ended =
      hands.ended;
}

-- ---- the next answer

pub next_some : {X : Type 0} (E : Type 0) (view : X → List ℕ) (item : Option Item) (old new : ReaderAndGate) (text : X)
    → Next {X = X} {E = E} view item old new (Ok (Some text))
    → (x : Item) × (item ≡ Some x) × IsAnswered x old new (view text)
next_some E view None old new text next = absurd next
next_some E view (Some item) old new text next = (item, refl, next)

pub next_none : {X : Type 0} (E : Type 0) (view : X → List ℕ) (item : Option Item) (old new : ReaderAndGate)
    → Next {X = X} {E = E} view item old new (Ok None) → (item ≡ None) × (new ≡ old)
next_none E view None old new next = (refl, next)
next_none E view (Some item) old new next = absurd next

pub next_err : {X E : Type 0} (view : X → List ℕ) (item : Option Item) (old new : ReaderAndGate) (fault : E)
    → Next {X = X} {E = E} view item old new (Err fault)
    → (x : Item) × (item ≡ Some x) × HasSeenMore old.reader new.reader
next_err view None old new fault next = absurd next
next_err view (Some item) old new fault next = (item, refl, next)

-- ---- what is written

-- an answer more
pub written_more : (f g h : FeedState) (a b c : ReaderAndGate) (u v w : Option (List ℕ)) (item : Item) (text : List ℕ)
    → HasWritten f g a b u v → HandsOut g (Some item) h → IsAnswered item b c text → Appends v w text
    → HasWritten f h a c u w
written_more f g h a b c u v w item text has hands one appends = record {
  items = has.items ++ item ∷ [];
  text = has.text ++ text;
  handed = handed_append f g h has.items (item ∷ []) has.handed (handed_one g h item hands);
  answered = answers_append has.items (item ∷ []) a b c has.text text has.answered (answers_one item b c text one);
  written = Appends-trans u v w has.text text has.written appends;
}

-- no item was there
pub written_all : (f g h : FeedState) (a b : ReaderAndGate) (u v w : Option (List ℕ)) → HasWritten f g a b u v
    → HandsOut g None h → Keeps v w → HasWritten f h a b u w
written_all f g h a b u v w has hands keeps = record {
  items = has.items;
  text = has.text;
  handed = subst (λ (items : List Item). HasHanded f items h) (append-nil has.items)
      (handed_append f g h has.items [] has.handed (handed_nothing g h hands));
  answered = has.answered;
  written = Appends-kept u v w has.text has.written keeps;
}

-- all that was written is a prefix of it
pub prefix_written : (f g : FeedState) (a b : ReaderAndGate) (u v : Option (List ℕ)) → HasWritten f g a b u v
    → HasWrittenSome f g a b.reader u v
prefix_written f g a b u v has = record {
  first = has.items;
  later = [];
  last = b;
  seen = seen_same b.reader;
  text = has.text;
  handed = subst (λ (items : List Item). HasHanded f items g) (sym (append-nil has.items)) has.handed;
  answered = has.answered;
  written = (has.text, [], sym (append-nil has.text), has.written);
}

-- no item was there, and the writer failed to pass on what it has
pub prefix_kept : (f g h : FeedState) (a b c : ReaderAndGate) (u v w : Option (List ℕ)) → HasWritten f g a b u v
    → HandsOut g None h → c ≡ b → Keeps v w → HasWrittenSome f h a c.reader u w
prefix_kept f g h a b c u v w has hands same keeps =
    subst (λ (s : ReaderAndGate). HasWrittenSome f h a s.reader u w) (sym same)
    (prefix_written f h a b u w (written_all f g h a b u v w has hands keeps))

-- no item was there
pub all_kept : (f g h : FeedState) (a b c : ReaderAndGate) (u v w : Option (List ℕ)) → HasWritten f g a b u v
    → HandsOut g None h → c ≡ b → Keeps v w → HasWritten f h a c u w
all_kept f g h a b c u v w has hands same keeps =
    subst (λ (s : ReaderAndGate). HasWritten f h a s u w) (sym same) (written_all f g h a b u v w has hands keeps)

-- an answer was not made
pub cut_before : (f g h : FeedState) (a b : ReaderAndGate) (reader : ReaderState) (u v : Option (List ℕ)) (item : Item)
    → HasWritten f g a b u v → HandsOut g (Some item) h → HasSeenMore b.reader reader → HasWrittenSome f h a reader u v
cut_before f g h a b reader u v item has hands seen = record {
  first = has.items;
  later = item ∷ [];
  last = b;
  seen = seen;
  text = has.text;
  handed = handed_append f g h has.items (item ∷ []) has.handed (handed_one g h item hands);
  answered = has.answered;
  written = (has.text, [], sym (append-nil has.text), has.written);
}

-- a prefix of an answer was written
pub cut_within : (f g h : FeedState) (a b c : ReaderAndGate) (u v w : Option (List ℕ)) (item : Item) (text : List ℕ)
    → HasWritten f g a b u v → HandsOut g (Some item) h → IsAnswered item b c text → AppendsPrefix v w text
    → HasWrittenSome f h a c.reader u w
cut_within f g h a b c u v w item text has hands one part = record {
  first = has.items ++ item ∷ [];
  later = [];
  last = c;
  seen = seen_same c.reader;
  text = has.text ++ text;
  handed = subst (λ (items : List Item). HasHanded f items h) (sym (append-nil (has.items ++ item ∷ [])))
      (handed_append f g h has.items (item ∷ []) has.handed (handed_one g h item hands));
  answered = answers_append has.items (item ∷ []) a b c has.text text has.answered (answers_one item b c text one);
  written = prefix_after u v w has.text text has.written part;
}

-- ---- results

pub on_ok_both : {A E : Type 0} (result : Result A E) (P Q S : Type 0) → (P → Q → S) → OnOk result P → OnOk result Q
    → OnOk result S
on_ok_both (Ok x) P Q S so p q = so p q
on_ok_both (Err fault) P Q S so p q = tt

-- what holds after either end
pub on_either : {A E : Type 0} (result : Result A E) (P Q S : Type 0) → (P → S) → (Q → S) → OnOk result P
    → OnErr result Q → S
on_either (Ok x) P Q S fine failed p q = fine p
on_either (Err fault) P Q S fine failed p q = failed q

pub on_err : {A E : Type 0} (result : Result A E) (P : Type 0) → P → OnErr result P
on_err (Ok x) P p = tt
on_err (Err fault) P p = p
