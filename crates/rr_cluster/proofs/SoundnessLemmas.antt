-- States of the sample model that are sound: with a node more, with another in its place, with a page more, and with a
-- snapshot more.
use Rattle.std.proofs.Common.{◌≡◌, ◌≢◌, ℕ, ◌||◌, Bool, true, false, IsTrue, refl, arith, ◌∷◌, List, Some, sym, ap, subst, ◌∙◌, true≢false}
use Rattle.std.specs.Prelude.{◌==◌}
use Rattle.std.specs.List.{list_any}
use Rattle.std.specs.Cmp.Lexicographic.{nat_list_cmp_total}
use Rattle.std.specs.FinMap.{get, insert}
use Rattle.std.proofs.lemmas.Bool.{eq-eqb, eqb-true, or_left, or_right}
use Rattle.rr_schema.specs.Schema.{Layout}
use Rattle.rr_join.proofs.ValuesLemmas.{insert_cases}
use Rattle.rr_cells.specs.Knowledge.{Knowledge}
use Rattle.rr_cells.specs.Samples.{Sample}
use Rattle.rr_cells.specs.World.{World, IsWritten, IsClosed}
use Rattle.rr_schema.specs.Origin.{IsOrigin}
use Rattle.rr_cells.specs.CellBounds.{IsSoundSample}
use Rattle.rr_cluster.specs.Soundness.{IsSound, IsSoundNode, IsSoundSnapshot, IsUsed}
use Rattle.rr_cluster.specs.State.{Node, Snapshot, State}
use Rattle.rr_cluster.proofs.StepLemmas.{names_apart}

put_cases : {P : Type 0} (m : State Knowledge) (name : List ℕ) (n : Node Knowledge) (q : List ℕ) (o : Node Knowledge)
    → get (insert m.nodes name n) q ≡ Some o
    → (q ≡ name → n ≡ o → P) → (q ≢ name → get m.nodes q ≡ Some o → P) → P
put_cases m name n q o = insert_cases nat_list_cmp_total names_apart m.nodes name n q o

-- ---- a node of a new origin

module _ (m : State Knowledge) (sound : IsSound m) (name : List ℕ) (n : Node Knowledge) (shared : n.schema ≡ m.schema)
    (is_sound : IsSoundNode m.world n) (is : IsOrigin n.origin)
    (unused : list_any (λ used. used == n.origin) m.origins ≡ false) where
  abbrev with_node : State Knowledge
  with_node = record m { nodes = insert m.nodes name n; origins = n.origin ∷ m.origins }

  not_used : (origin : ℕ) → IsUsed m origin → origin ≢ n.origin
  not_used origin was same = true≢false (sym was ∙ ap (λ (o : ℕ). list_any (λ used. used == o) m.origins) same ∙ unused)

  still_used : (origin : ℕ) → IsUsed m origin → IsUsed with_node origin
  still_used origin was = or_right (n.origin == origin) (list_any (λ used. used == origin) m.origins) was

  each_is_origin : (origin : ℕ) → IsUsed with_node origin → IsOrigin origin
  each_is_origin origin = by (n.origin == origin) refl
    where
      by : (same : Bool) → (n.origin == origin) ≡ same → IsTrue (same || list_any (λ used. used == origin) m.origins)
          → IsOrigin origin
      by true same was = subst IsOrigin (eqb-true n.origin origin same) is
      by false other was = sound.origins origin was

  pub with_node_is_sound : IsSound with_node
  with_node_is_sound = record {
    layout = sound.layout;
    clock = sound.clock;
    shared = λ q o e. put_cases m name n q o e
        (λ at same. ap (λ (x : Node Knowledge). x.schema) (sym same) ∙ shared)
        (λ other here. sound.shared q o here);
    nodes = λ q o e. put_cases m name n q o e
        (λ at same. subst (IsSoundNode m.world) same is_sound)
        (λ other here. sound.nodes q o here);
    pages = sound.pages;
    snapshots = sound.snapshots;
    apart = λ a b p o e h same. put_cases m name n a p e
        (λ at is. put_cases m name n b o h
        (λ bt it. at ∙ sym bt)
        (λ other here. absurd (not_used o.origin (sound.used b o here)
        (sym same ∙ sym (ap (λ (x : Node Knowledge). x.origin) is)))))
        (λ other here. put_cases m name n b o h
        (λ bt it. absurd (not_used p.origin (sound.used a p here)
        (same ∙ sym (ap (λ (x : Node Knowledge). x.origin) it))))
        (λ also there. sound.apart a b p o here there same));
    used = λ q o e. put_cases m name n q o e
        (λ at same. or_left (n.origin == o.origin) (list_any (λ used. used == o.origin) m.origins)
        (eq-eqb n.origin o.origin (ap (λ (x : Node Knowledge). x.origin) same)))
        (λ other here. still_used o.origin (sound.used q o here));
    origins = each_is_origin;
    written = λ x was. still_used x.origin (sound.written x was);
    samples = sound.samples;
  }

-- a node of an origin under which nothing was written, that knows what has no gaps
pub starting_is_sound : (m : State Knowledge) → IsSound m → (s : Layout) (number : ℕ) (k : Knowledge)
    → IsClosed s m.world k → list_any (λ used. used == number) m.origins ≡ false
    → IsSoundNode m.world (record { schema = s; origin = number; next = 1; contents = k })
starting_is_sound m sound s number k closed unused =
    let none : (x : Sample) → IsWritten m.world x → x.origin ≢ number =
    λ x was same. true≢false (sym (sound.written x was)
    ∙ ap (λ (o : ℕ). list_any (λ used. used == o) m.origins) same ∙ unused) in
    record {
      closed = closed;
      own = λ mark of is. absurd (none mark.sample of.0 is);
      numbered = λ x was is. absurd (none x was is);
      some_number = omega arith;
      few_numbers = omega arith;
    }

-- ---- a node in the place of one of its schema and origin, in a world that may have grown

module _ (m : State Knowledge) (sound : IsSound m) (name : List ℕ) (n o : Node Knowledge)
    (here : get m.nodes name ≡ Some n) (schema : o.schema ≡ n.schema) (origin : o.origin ≡ n.origin) (w : World) where
  abbrev with_node_in_place : State Knowledge
  with_node_in_place = record m { nodes = insert m.nodes name o; world = w }

  -- a node of another name has another origin
  other_origin : (q : List ℕ) (p : Node Knowledge) → q ≢ name → get m.nodes q ≡ Some p → p.origin ≢ n.origin
  other_origin q p other there same = other (sound.apart q name p n there here same)

  abbrev OthersStaySound : Type 0
  OthersStaySound = (p : Node Knowledge) → p.origin ≢ n.origin → IsSoundNode m.world p → IsSoundNode w p

  abbrev AllStayClosed : Type 0
  AllStayClosed = (s : Layout) (k : Knowledge) → IsClosed s m.world k → IsClosed s w k

  pub place_is_sound : IsSoundNode w o → OthersStaySound → AllStayClosed
      → ((x : Sample) → IsWritten w x → IsUsed m x.origin) → ((x : Sample) → IsWritten w x → IsSoundSample x)
      → IsSound with_node_in_place
  place_is_sound itself others closed written samples = record {
    layout = sound.layout;
    clock = sound.clock;
    shared = λ q p e. put_cases m name o q p e
        (λ at same. ap (λ (y : Node Knowledge). y.schema) (sym same) ∙ schema ∙ sound.shared name n here)
        (λ other there. sound.shared q p there);
    nodes = λ q p e. put_cases m name o q p e
        (λ at same. subst (IsSoundNode w) same itself)
        (λ other there. others p (other_origin q p other there) (sound.nodes q p there));
    pages = λ q k e. closed m.schema k (sound.pages q k e);
    snapshots = λ q x e. let before = sound.snapshots q x e in
        record { layout = before.layout; closed = closed x.schema x.contents before.closed };
    apart = λ a b p q e h same. put_cases m name o a p e
        (λ at is. put_cases m name o b q h
        (λ bt it. at ∙ sym bt)
        (λ other there. absurd (other_origin b q other there
        (sym same ∙ sym (ap (λ (y : Node Knowledge). y.origin) is) ∙ origin))))
        (λ other there. put_cases m name o b q h
        (λ bt it. absurd (other_origin a p other there
        (same ∙ sym (ap (λ (y : Node Knowledge). y.origin) it) ∙ origin)))
        (λ also there_too. sound.apart a b p q there there_too same));
    used = λ q p e. put_cases m name o q p e
        (λ at same. subst (IsUsed m) (sym origin ∙ ap (λ (y : Node Knowledge). y.origin) same) (sound.used name n here))
        (λ other there. sound.used q p there);
    origins = sound.origins;
    written = written;
    samples = samples;
  }

-- ---- a page more

pub with_page_is_sound : (m : State Knowledge) → IsSound m → (name : List ℕ) (k : Knowledge)
    → IsClosed m.schema m.world k → IsSound (record m { pages = insert m.pages name k })
with_page_is_sound m sound name k closed = record {
  layout = sound.layout;
  clock = sound.clock;
  shared = sound.shared;
  nodes = sound.nodes;
  pages = λ q l e. insert_cases nat_list_cmp_total names_apart m.pages name k q l e
      (λ at same. subst (IsClosed m.schema m.world) same closed)
      (λ other here. sound.pages q l here);
  snapshots = sound.snapshots;
  apart = sound.apart;
  used = sound.used;
  origins = sound.origins;
  written = sound.written;
  samples = sound.samples;
}

-- ---- a snapshot more

pub with_snapshot_is_sound : (m : State Knowledge) → IsSound m → (name : List ℕ) (x : Snapshot Knowledge)
    → IsSoundSnapshot m.world x → IsSound (record m { snapshots = insert m.snapshots name x })
with_snapshot_is_sound m sound name x is = record {
  layout = sound.layout;
  clock = sound.clock;
  shared = sound.shared;
  nodes = sound.nodes;
  pages = sound.pages;
  snapshots = λ q y e. insert_cases nat_list_cmp_total names_apart m.snapshots name x q y e
      (λ at same. subst (IsSoundSnapshot m.world) same is)
      (λ other here. sound.snapshots q y here);
  apart = sound.apart;
  used = sound.used;
  origins = sound.origins;
  written = sound.written;
  samples = sound.samples;
}
