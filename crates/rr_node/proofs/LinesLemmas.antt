-- The lines of a reader's bytes, served to a writer.
use Rattle.std.proofs.Common.{◌≡◌, ℕ, ◌+◌, ◌%◌, ◌==◌, Bool, take, ℤ, true, false, List, [], ◌∷◌, ◌++◌, Option, Some, None, refl, sym, ap, subst, inl, inr}
use Rattle.std.proofs.lemmas.List.{append-nil}
use Rattle.std.specs.Prelude.{IfSome, IfOk, OnErr, Result, Ok, Err, fold, if◌then◌else◌}
use Rattle.std.specs.Io.KnownBytes.{Appends, Consumes, IsAtEnd, Keeps}
use Rattle.std.proofs.KnownBytes.{Consumes-trans, Consumes-whole}
use mathlib.Core.List.{IsPrefix}
use Rattle.rr_feed.specs.Feed.{items_left}
use Rattle.rr_feed.specs.Items.{Item, items}
use Rattle.rr_point.specs.Point.{PointView}
use Rattle.rr_desk.specs.Points.{with_puts, with_put}
use Rattle.rr_desk.specs.KeeperState.{KeeperState, own_replica, with_all_published}
use Rattle.rr_desk.proofs.PrefixLemmas.{prefix_refl, prefix_append, prefix_trans}
use Rattle.rr_cells.specs.declared.op.Op.{Op}
use Rattle.rr_point.specs.Key.{key_text}
use Rattle.rr_node.specs.declared.connection.Connection.{Connection}
use Rattle.rr_node.specs.declared.fault.NodeFault.{NodeFault}
use Rattle.rr_node.specs.declared.report.Report.{Report}
use Rattle.rr_node.specs.declared.rules.Rules.{Rules}
use Rattle.rr_node.specs.declared.rules.TheConstants.{LINES_TO_PUBLISH}
use Rattle.rr_host.specs.Clock.{HasGiven}
use Rattle.rr_node.specs.Connection.{ComesAfter, StoppedAtEnd, ServedAll, HasServed, IsWhole, Stops}
use Rattle.rr_node.specs.Lines.{Run, Served, Verdict, skipped, put, refused, after, served_at_start, first_of, HasServedWhole, HasStopped, IsServed, keeper_with, keeper_with_some, keeper_within, published_after, verdict_of, with_item}
use Rattle.rr_host.proofs.ClockLemmas.{HasGiven-trans}
use Rattle.rr_node.proofs.ConnectionLemmas.{ends_here, served_all}
use Rattle.rr_node.proofs.ServingLemmas.{consumed_same}
use Rattle.rr_node.proofs.StreamLemmas.{answered_in_part, answers_in_part}

-- ---- what readers may see

published_puts : (k : KeeperState) (p : PointView) (time : ℤ) (fields : List (List ℕ × ℤ))
    → (with_puts k p time fields).published ≡ k.published
published_puts k p time [] = refl
published_puts k p time (field ∷ fields) = published_puts (with_put k (key_text p field.0) time field.1) p time fields

published_with : (k : KeeperState) (v : Verdict) → (keeper_with k v).published ≡ k.published
published_with k skipped = refl
published_with k (put p time) = published_puts k p time p.fields
published_with k (refused name) = refl

published_with_some : (k : KeeperState) (v : Verdict) (count : ℕ) → (keeper_with_some k v count).published ≡ k.published
published_with_some k skipped count = refl
published_with_some k (put p time) count = published_puts k p time (take count p.fields)
published_with_some k (refused name) count = refl

published_in_turn : (due : Bool) (k : KeeperState)
    → IsPrefix k.published (if due then with_all_published k else k).published
published_in_turn true k = prefix_append k.published k.pending
published_in_turn false k = prefix_refl k.published

published_lines : (rules : Rules) (s : Served) (lines : List Item)
    → IsPrefix s.keeper.published (fold (with_item rules) s lines).keeper.published
published_lines rules s [] = prefix_refl s.keeper.published
published_lines rules s (item ∷ later) =
    let v = verdict_of rules (first_of s.moments) (own_replica s.keeper) item in
    let k = keeper_with s.keeper v in
    let here : IsPrefix k.published (published_after (s.lines + 1) k).published =
    published_in_turn ((s.lines + 1) % LINES_TO_PUBLISH == 0) k in
    prefix_trans s.keeper.published (published_after (s.lines + 1) k).published _
    (subst (λ (l : List Op). IsPrefix l (published_after (s.lines + 1) k).published) (published_with s.keeper v)
    here) (published_lines rules (with_item rules s item) later)

published_within : (rules : Rules) (s : Served) (last : List Item) (count : ℕ)
    → (keeper_within rules s last count).published ≡ s.keeper.published
published_within rules s [] count = refl
published_within rules s (item ∷ later) count = published_with_some s.keeper
    (verdict_of rules (first_of s.moments) (own_replica s.keeper) item) count

published_all : (rules : Rules) (old new : KeeperState) (moments : List ℤ) (lines : List Item)
    → new ≡ with_all_published (after rules old moments lines).keeper → IsPrefix old.published new.published
published_all rules old new moments lines is =
    let s = after rules old moments lines in
    rw is (prefix_trans old.published s.keeper.published (s.keeper.published ++ s.keeper.pending)
    (published_lines rules (served_at_start old moments) lines) (prefix_append s.keeper.published s.keeper.pending))

published_part : (rules : Rules) (old new : KeeperState) (moments : List ℤ) (lines last : List Item) (count : ℕ)
    → new ≡ keeper_within rules (after rules old moments lines) last count → IsPrefix old.published new.published
published_part rules old new moments lines last count is =
    let s = after rules old moments lines in
    rw is (rw (published_within rules s last count) (published_lines rules (served_at_start old moments) lines))

-- ---- the whole connection

-- what was taken of a reader's bytes is served
pub record IsServing (c : Connection) (run : Run) : Type 0 where
  pub taken : List ℕ
  pub moments : List ℤ
  pub text : List ℕ
  pub consumed : Consumes run.input run.left taken
  pub gave : HasGiven run.given run.given_since moments
  pub served : HasServed c run.old taken moments run.new text
  pub appended : Appends run.written run.written_since text

-- what holds of all that a reader had, since it holds of what was taken whatever is left
of_all_bytes : (had left : Option (List ℕ)) (taken : List ℕ) (P : List ℕ → Type 0) → Consumes had left taken
    → ((more : List ℕ) → P (taken ++ more)) → IfSome had P
of_all_bytes None left taken P consumed each = tt
of_all_bytes (Some all) None taken P consumed each = absurd consumed
of_all_bytes (Some all) (Some more) taken P consumed each = subst P (sym consumed) (each more)

-- a call that stops so has stopped, where these are the inputs that may come
pub has_stopped : (rules : Rules) (run : Run) (Comes : List ℕ → Type 0) (moments : List ℤ)
    → ((P : List ℕ → Type 0) → ((bytes : List ℕ) → Comes bytes → P bytes) → IfSome run.input P)
    → HasGiven run.given run.given_since moments → Stops rules run.old run.new Comes moments run.written
    run.written_since → HasStopped rules run
has_stopped rules run Comes moments each gave stops = record {
  lines = stops.ends.lines;
  last = stops.ends.last;
  count = stops.ends.count;
  moments = moments;
  input = each (λ bytes. IsPrefix (stops.ends.lines ++ stops.ends.last) (items true bytes)) stops.ends.input;
  given = gave;
  asked = stops.ends.asked;
  published = elim (stops.ends.keeper) [
    | inl part ↦ published_part rules run.old run.new moments stops.ends.lines stops.ends.last stops.ends.count part
    | inr all ↦ published_all rules run.old run.new moments stops.ends.lines all.2
  ];
  keeper = elim (stops.ends.keeper) [
    | inl part ↦ inl part
    | inr all ↦
        inr (all.0, each (λ bytes. stops.ends.lines ≡ items true bytes) all.1, all.2)
  ];
  answered = λ later. each _ (λ bytes comes. stops.answered bytes comes later);
  reported = elim (stops.reported) [
    | inl all ↦ inl all
    | inr part ↦
        inr (λ later. each _ (λ bytes comes. part bytes comes later))
  ];
}

-- before the end of the input
pub stopped_before : (c : Connection) (rules : Rules) (run : Run) (taken : List ℕ) (left : Option (List ℕ))
    (moments : List ℤ) → c.feed.ended ≡ false → Consumes run.input left taken
    → HasGiven run.given run.given_since moments → Stops rules run.old run.new (ComesAfter c.feed taken) moments
    run.written run.written_since → HasStopped rules run
stopped_before c rules run taken left moments going consumed gave stops =
    has_stopped rules run (ComesAfter c.feed taken) moments
    (λ P holds. of_all_bytes run.input left taken P consumed
    (λ more. holds (taken ++ more) (more, refl, λ e. absurd cc))) gave stops

-- a read at the end took nothing
at_end : (had mid left : Option (List ℕ)) (taken buffer : List ℕ) (given : ℕ) → Consumes had mid taken
    → Consumes mid left (take given buffer) → given ≡ 0 → Consumes had left taken
at_end had mid left taken buffer given first second zero =
    let nothing : take given buffer ≡ [] = ap (λ (k : ℕ). take k buffer) zero in
    subst (Consumes had left) (append-nil taken) (Consumes-trans had mid left taken [] first
    (subst (Consumes mid left) nothing second))

-- at the end of the input
stopped_at_end : (rules : Rules) (run : Run) (mid left : Option (List ℕ)) (taken buffer : List ℕ) (given : ℕ)
    (moments : List ℤ) → Consumes run.input mid taken → Consumes mid left (take given buffer) → given ≡ 0 → IsAtEnd left
    → HasGiven run.given run.given_since moments → Stops rules run.old run.new (λ bytes. bytes ≡ taken) moments
    run.written run.written_since → HasStopped rules run
stopped_at_end rules run mid left taken buffer given moments first second zero end gave stops =
    has_stopped rules run (λ bytes. bytes ≡ taken) moments
    (λ P holds. Consumes-whole run.input left taken P
    (at_end run.input mid left taken buffer given first second zero) end (holds taken refl)) gave stops

served_at_end : (rules : Rules) (run : Run) (mid left : Option (List ℕ)) (taken buffer : List ℕ) (given : ℕ)
    (moments : List ℤ) (counted : Report) → Consumes run.input mid taken → Consumes mid left (take given buffer)
    → given ≡ 0 → IsAtEnd left
    → HasGiven run.given run.given_since moments → IsWhole rules run.old run.new counted taken moments run.written
    run.written_since → IsServed rules run counted
served_at_end rules run mid left taken buffer given moments counted first second zero end gave whole = record {
  lines = items true taken;
  moments = moments;
  input = Consumes-whole run.input left taken (λ bytes. items true taken ≡ items true bytes)
      (at_end run.input mid left taken buffer given first second zero) end refl;
  given = gave;
  asked = whole.asked;
  keeper = whole.keeper;
  published = published_all rules run.old run.new moments (items true taken) whole.keeper;
  report = whole.report;
  answered = whole.answered;
}

-- where a stream fails between two pieces
pub stopped_between : (c : Connection) (run : Run) → c.feed.ended ≡ false → IsServing c run → HasStopped c.rules run
stopped_between c run going so_far =
    stopped_before c c.rules run so_far.taken run.left so_far.moments going so_far.consumed so_far.gave (record {
      ends = ends_here c run.old run.new so_far.taken so_far.text so_far.moments so_far.served;
      answered = λ bytes comes later. answered_in_part c run.old run.new so_far.taken so_far.text so_far.moments later
          bytes run.written run.written_since so_far.served comes
          (so_far.text, [], sym (append-nil so_far.text), so_far.appended);
      reported = inr (λ bytes comes later. answers_in_part c run.old run.new so_far.taken so_far.text so_far.moments
          later bytes run.written run.written_since so_far.served comes
          (so_far.text, [], sym (append-nil so_far.text), so_far.appended));
    })

-- whatever is left of the input
pub stopped_left : (rules : Rules) (run : Run) (left : Option (List ℕ)) → HasStopped rules run
    → HasStopped rules (record run { left = left })
stopped_left rules run left stopped = record {
  lines = stopped.lines;
  last = stopped.last;
  count = stopped.count;
  moments = stopped.moments;
  input = stopped.input;
  given = stopped.given;
  asked = stopped.asked;
  keeper = stopped.keeper;
  published = stopped.published;
  answered = stopped.answered;
  reported = stopped.reported;
}

-- a read that took nothing
pub serving_still : (c : Connection) (run : Run) (left : Option (List ℕ)) → IsServing c run → Keeps run.left left
    → IsServing c (record run { left = left })
serving_still c run left so_far keeps = record {
  taken = so_far.taken;
  moments = so_far.moments;
  text = so_far.text;
  consumed = consumed_same run.input run.left left so_far.taken so_far.consumed keeps;
  gave = so_far.gave;
  served = so_far.served;
  appended = so_far.appended;
}

-- there all lines that came whole are served
pub served_whole : (c : Connection) (run : Run) → c.feed.ended ≡ false → items_left c.feed ≡ [] → IsServing c run
    → HasServedWhole c.rules run
served_whole c run going nothing so_far =
    let all = served_all c run.old run.new so_far.taken so_far.text so_far.moments false nothing going so_far.served in
    record {
      came = so_far.taken;
      moments = so_far.moments;
      taken = so_far.consumed;
      given = so_far.gave;
      asked = all.0;
      keeper = ap (λ (s : Served). s.keeper) (sym all.1);
      answered = subst (Appends run.written run.written_since) (ap (λ (s : Served). s.answers) (sym all.1))
          so_far.appended;
    }

-- how a connection stands when the read comes that tells the end, and what it then has
pub record IsLast (c : Connection) (run : Run) (now : KeeperState) (since : Option (List ℤ)) (written : Option (List ℕ))
    (mid left : Option (List ℕ)) (buffer : List ℕ) (given : ℕ) : Type 0 where
  pub taken : List ℕ
  pub moments : List ℤ
  pub text : List ℕ
  pub consumed : Consumes run.input mid taken
  pub gave : HasGiven run.given since moments
  pub served : HasServed c run.old taken moments now text
  pub appended : Appends run.written written text
  pub read : Consumes mid left (take given buffer)
  pub none : given ≡ 0
  pub end : IsAtEnd left

pub served_finally : (result : Result Report NodeFault) (c : Connection) (run : Run) (now : KeeperState)
    (since : Option (List ℤ)) (written mid left : Option (List ℕ)) (buffer : List ℕ) (given : ℕ)
    → IsLast c run now since written mid left buffer given
    → IfOk result (λ counted. (more : List ℤ) × HasGiven since run.given_since more
    × ServedAll c now run.new counted more written run.written_since) → IfOk result (IsServed c.rules run)
served_finally (Ok counted) c run now since written mid left buffer given last done =
    served_at_end c.rules run mid left last.taken buffer given (last.moments ++ done.0) counted last.consumed last.read
    last.none last.end
    (HasGiven-trans run.given since run.given_since last.moments done.0 last.gave done.1)
    (done.2 run.old last.taken last.moments last.text run.written last.served last.appended)
served_finally (Err fault) c run now since written mid left buffer given last done = tt

pub stopped_finally : (result : Result Report NodeFault) (c : Connection) (run : Run) (now : KeeperState)
    (since : Option (List ℤ)) (written mid left : Option (List ℕ)) (buffer : List ℕ) (given : ℕ)
    → IsLast c run now since written mid left buffer given
    → OnErr result ((more : List ℤ) × HasGiven since run.given_since more
    × StoppedAtEnd c now run.new more written run.written_since) → OnErr result (HasStopped c.rules run)
stopped_finally (Ok counted) c run now since written mid left buffer given last done = tt
stopped_finally (Err fault) c run now since written mid left buffer given last done =
    stopped_at_end c.rules run mid left last.taken buffer given (last.moments ++ done.0) last.consumed last.read
    last.none last.end
    (HasGiven-trans run.given since run.given_since last.moments done.0 last.gave done.1)
    (done.2 run.old last.taken last.moments last.text run.written last.served last.appended)
