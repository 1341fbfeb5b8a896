use Rattle.std.proofs.Common.{rules, ◌≡◌, [], ◌∷◌, ◌++◌, sym, ap, ◌∙◌, subst}
use Rattle.left_right.specs.Sides.{view}
use Rattle.rr_replica.specs.ReplicaWithRoom.{ReplicaWithRoom, replica_state}
use Rattle.rr_desk.specs.declared.rule.View.{View}
use Rattle.rr_desk.specs.declared.change.Change.TheVariants.{Edition}
use Rattle.rr_desk.specs.Changes.{names_at, names_of, ops_in}
use Rattle.rr_desk.specs.Editions.{BookPrefix, flat}
use Rattle.rr_desk.specs.KeeperState.{IsReady}
use Rattle.rr_desk.specs.Writers.{changes}
use Rattle.rr_desk.proofs.ChangesLemmas.{names_at-more, ops_in-end_edition}
use Rattle.rr_desk.proofs.KeeperStateLemmas.{ended}
use Rattle.rr_desk.proofs.writing.end_edition.Goals as goal

pub returns-clause-pending : goal.returns-clause-pending
returns-clause-pending g c =
    let w = c.args.writer.now in
    let n = c.append.new.self in
    let more : changes n ≡ changes w ++ Edition c.reach_batch.new.book ∷ [] = search rules in
    let names = names_of w.desk.shown.value.replica in
    ap (ops_in names) more ∙ ops_in-end_edition names (changes w) c.reach_batch.new.book

pub returns-clause-ready : goal.returns-clause-ready
returns-clause-ready g c =
    let w = c.args.writer.now in
    let n = c.append.new.self in
    let b = c.reach_batch.new.book in
    let desk = sym c.append.ensures.desk in
    let more : changes n ≡ changes w ++ Edition b ∷ [] = search rules in
    let whole : flat b.editions ≡ (view w.desk.place).seen
    ++ ops_in (names_of w.desk.shown.value.replica) (changes w) = search rules in
    let same : b.desk ≡ c.args.book.now.desk = search rules in
    subst (λ (z : View × ReplicaWithRoom × BookPrefix). IsReady z.0 (replica_state z.1) (names_of z.1) z.2 (changes n))
    (λ i. (view (desk i).place, (desk i).shown.value.replica, (desk i).shown.value.prefix))
    (ended (view w.desk.place) (replica_state w.desk.shown.value.replica) (names_of w.desk.shown.value.replica)
    w.desk.shown.value.prefix b (changes w)
    (changes n) c.requires.writes c.requires.joined c.requires.accepted (same ∙ c.requires.desk) whole more)

pub returns-clause-names : goal.returns-clause-names
returns-clause-names g c =
    let w = c.args.writer.now in
    let n = c.append.new.self in
    let more : changes n ≡ changes w ++ Edition c.reach_batch.new.book ∷ [] = search rules in
    let names = names_of w.desk.shown.value.replica in
    ap (names_at names) more ∙ names_at-more names (changes w) (Edition c.reach_batch.new.book)
