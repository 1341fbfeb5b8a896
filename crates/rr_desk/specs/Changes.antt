-- What the changes of the log make of a copy, and which operations they are.
use Rattle.std.specs.Prelude.{◌≡◌, ℕ, cond, true, List, [], ◌∷◌, ◌++◌, length, fold, Some, slice_get}
use mathlib.Core.List.{IsPrefix}
use Rattle.rr_cells.specs.declared.cell.Cell.{Cell}
use Rattle.rr_cells.specs.declared.op.Op.{Op}
use Rattle.rr_cells.specs.declared.op.Op.TheVariants as op
use Rattle.rr_cells.specs.Operations.{op_key, step}
use Rattle.rr_replica.specs.Numbered.{knows, with_key, puts_at}
use Rattle.rr_replica.specs.ReplicaWithRoom.{ReplicaWithRoom}
use Rattle.rr_desk.specs.declared.change.Change.{Change}
use Rattle.rr_desk.specs.declared.change.Change.TheVariants.{Put, Join, AddKey, Edition}
use Rattle.rr_desk.specs.declared.shown.CopyState.{CopyState}
use Rattle.rr_desk.specs.Editions.{BookPrefix}

-- what says which operation a change is: the origin of all samples, and the keys of series by their numbers
pub record Names : Type 0 where
  pub origin : ℕ
  pub keys : List (List ℕ)

abbrev pub names_of : ReplicaWithRoom → Names
names_of r = record { origin = r.origin; keys = r.keys }

abbrev pub copy_names : CopyState → Names
copy_names x = record { origin = x.held.origin; keys = x.keys }

-- the join of a cell, if its key is known
abbrev pub joins_in : List (List ℕ) → Cell → List Op
joins_in keys c = cond (knows keys c.key) (op.Join c ∷ []) []

-- the operations of a change: one, or none
abbrev pub ops_of : Names → Change → List Op
ops_of n (Put x) = puts_at n.keys n.origin x.series x.number x.time x.value
ops_of n (Join x) = joins_in n.keys x.cell.value
ops_of n (AddKey key) = []
ops_of n (Edition prefix) = []

-- the names after a change
abbrev pub names_after : Names → Change → Names
names_after n (Put x) = n
names_after n (Join x) = n
names_after n (AddKey key) = record { origin = n.origin; keys = with_key n.keys key }
names_after n (Edition prefix) = n

-- and after all of these
abbrev pub names_at : Names → List Change → Names
names_at n [] = n
names_at n (c ∷ cs) = names_at (names_after n c) cs

-- the operations among these changes
abbrev pub ops_in : Names → List Change → List Op
ops_in n [] = []
ops_in n (c ∷ cs) = ops_of n c ++ ops_in (names_after n c) cs

abbrev pub copy_after : CopyState → Change → CopyState
copy_after x (Put p) = record {
  held = fold step x.held (ops_of (copy_names x) (Put p));
  keys = x.keys;
  started = x.started;
  prefix = x.prefix;
}
copy_after x (Join j) = record {
  held = fold step x.held (ops_of (copy_names x) (Join j));
  keys = x.keys;
  started = x.started;
  prefix = x.prefix;
}
copy_after x (AddKey key) = record {
  held = x.held;
  keys = with_key x.keys key;
  started = x.started;
  prefix = x.prefix;
}
copy_after x (Edition prefix) = record { held = x.held; keys = x.keys; started = true; prefix = prefix }

-- the prefix of the book after a change
abbrev pub prefix_with : BookPrefix → Change → BookPrefix
prefix_with s (Put x) = s
prefix_with s (Join x) = s
prefix_with s (AddKey key) = s
prefix_with s (Edition prefix) = prefix

-- and after these: that of the last edition that ends among them, or else the one before
abbrev pub prefix_after : BookPrefix → List Change → BookPrefix
prefix_after s [] = s
prefix_after s (c ∷ cs) = prefix_after (prefix_with s c) cs

-- a sample is of this origin
abbrev pub IsOwn : ℕ → Op → Type 0
IsOwn origin (op.Put x) = x.origin ≡ origin
IsOwn origin (op.Join c) = Unit {0}

-- a change is this operation, on the series with a number, if that has the operation's key and a put is of the origin;
-- it changes no names
pub record IsChangeOf (series : ℕ) (o : Op) (c : Change) : Type 0 where
  pub ops : (n : Names) → slice_get n.keys series ≡ Some (op_key o) → IsOwn n.origin o → ops_of n c ≡ o ∷ []
  pub names : (n : Names) → names_after n c ≡ n

-- after these changes the copies have this many of the keeper's keys: the first ones, in the same order
pub record AreNamed (n : Names) (own : List (List ℕ)) (cs : List Change) (named : ℕ) : Type 0 where
  pub prefix : IsPrefix (names_at n cs).keys own
  pub many : length (names_at n cs).keys ≡ named
