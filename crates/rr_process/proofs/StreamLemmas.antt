-- A report that is written while its stream is read.
use Rattle.std.proofs.Common.{◌≡◌, ℕ, take, true, false, List, [], ◌++◌, Option, Some, None, refl, sym, ap, subst, ◌∙◌}
use Rattle.std.proofs.lemmas.List.{append-nil}
use Rattle.std.specs.Prelude.{IfSome}
use Rattle.std.specs.Io.KnownBytes.{Appends, Consumes, IsAtEnd}
use Rattle.std.proofs.KnownBytes.{Appends-trans, Consumes-trans, Consumes-whole}
use Rattle.rr_io.specs.Stream.{AppendsPrefix}
use Rattle.rr_io.proofs.StreamLemmas.{prefix_after, prefix_before}
use Rattle.rr_feed.specs.Feed.{items_left, MayCome}
use Rattle.rr_process.specs.declared.checker.Checker.{Checker}
use Rattle.rr_process.specs.Report.{report_of}
use Rattle.rr_process.specs.Checker.{HasReported, Reports}
use Rattle.rr_process.proofs.ReportLemmas.{HasReported-all, HasReported-prefix}

-- before the end anything may come
pub may_come : (c : Checker) (more : List ℕ) → c.feed.ended ≡ false → MayCome c.feed more true
may_come c more going = λ e. absurd cc

-- a writer that holds what is reported holds a prefix of the report of the whole stream
pub prefix_of_reported : (c : Checker) (pushed before more : List ℕ) (start written : Option (List ℕ))
    → MayCome c.feed more true → HasReported c pushed before → Appends start written before
    → AppendsPrefix start written (report_of c.precision c.now (pushed ++ more))
prefix_of_reported c pushed before more start written may has appends =
    let prefix = HasReported-prefix c pushed before more may has in
    (before, prefix.0, prefix.1, appends)

-- so it does where a prefix of what is reported next follows
pub prefix_of_more : (old new : Checker) (pushed before text more : List ℕ) (start mid written : Option (List ℕ))
    → Reports old new text → MayCome old.feed more true → HasReported old pushed before → Appends start mid before
    → AppendsPrefix mid written text → AppendsPrefix start written (report_of old.precision old.now (pushed ++ more))
prefix_of_more old new pushed before text more start mid written reports may has appends part =
    let prefix = HasReported-prefix new pushed (before ++ text) more (λ e. may (sym reports.ended ∙ e))
    (reports.reported pushed before has) in
    let same : report_of old.precision old.now (pushed ++ more) ≡ report_of new.precision new.now (pushed ++ more) =
    rw (reports.precision, reports.now) refl in
    subst (AppendsPrefix start written) (sym (same ∙ prefix.1))
    (prefix_before start written (before ++ text) prefix.0 (prefix_after start mid written before text appends part))

-- once all is reported, a writer that holds that holds the report of the stream
pub report_of_all : (old new : Checker) (pushed before text : List ℕ) (start mid written : Option (List ℕ))
    → Reports old new text → items_left new.feed ≡ [] → new.feed.ended ≡ true → HasReported old pushed before
    → Appends start mid before → Appends mid written text
    → Appends start written (report_of old.precision old.now pushed)
report_of_all old new pushed before text start mid written reports nothing ended has first second =
    let all = (HasReported-all new pushed (before ++ text) nothing ended (reports.reported pushed before has)).0 in
    let same : report_of new.precision new.now pushed ≡ report_of old.precision old.now pushed =
    rw (reports.precision, reports.now) refl in
    subst (Appends start written) (all ∙ same) (Appends-trans start mid written before text first second)

-- what holds of all that a reader had, since it holds of what was taken whatever is left
pub of_all_bytes : (a b : Option (List ℕ)) (taken : List ℕ) (P : List ℕ → Type 0) → Consumes a b taken
    → ((more : List ℕ) → P (taken ++ more)) → IfSome a P
of_all_bytes None b taken P consumed each = tt
of_all_bytes (Some x) None taken P consumed each = absurd consumed
of_all_bytes (Some x) (Some y) taken P consumed each = subst P (sym consumed) (each y)

-- what holds of all that a reader had, once it is at its end
pub of_all_taken : (a b c : Option (List ℕ)) (taken buffer : List ℕ) (given : ℕ) (P : List ℕ → Type 0)
    → Consumes a b taken → Consumes b c (take given buffer) → given ≡ 0 → IsAtEnd c → P taken → IfSome a P
of_all_taken a b c taken buffer given P first second zero end holds =
    let nothing : take given buffer ≡ [] = ap (λ (k : ℕ). take k buffer) zero in
    let last = Consumes-trans a b c taken [] first (subst (Consumes b c) nothing second) in
    Consumes-whole a c taken P (subst (Consumes a c) (append-nil taken) last) end holds

-- what was taken of a reader's bytes is reported to a writer
pub record HasWritten (c : Checker) (had left : Option (List ℕ)) (start written : Option (List ℕ)) : Type 0 where
  pub taken : List ℕ
  pub text : List ℕ
  pub consumed : Consumes had left taken
  pub reported : HasReported c taken text
  pub appended : Appends start written text

-- the writer holds a prefix of the report of all the reader's bytes
pub prefix_so_far : (c : Checker) (had left start written : Option (List ℕ)) → c.feed.ended ≡ false
    → HasWritten c had left start written → IfSome had
    (λ bytes. AppendsPrefix start written (report_of c.precision c.now bytes))
prefix_so_far c had left start written going so_far =
    of_all_bytes had left so_far.taken (λ bytes. AppendsPrefix start written (report_of c.precision c.now bytes))
    so_far.consumed
    (λ more. prefix_of_reported c so_far.taken so_far.text more start written (may_come c more going) so_far.reported
    so_far.appended)
