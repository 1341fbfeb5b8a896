-- How calls change a replica.
use Rattle.std.specs.Prelude.{◌≡◌, ◌<◌, ◌≤◌, ◌↔◌, ℕ, Bool, true, length, slice_get, Some, Result, Err, IfOk, IsOk, OnOk}
use Rattle.std.specs.declared.alloc.AllocError.{AllocError}
use Rattle.rr_text.specs.declared.limits.TheConstants.{MAX_NUMBER}
use Rattle.rr_cells.specs.declared.cell.Cell.{Cell}
use Rattle.rr_cells.specs.declared.op.Op.{Op}
use Rattle.rr_cells.specs.declared.op.Op.TheVariants.{Join}
use Rattle.rr_cells.specs.Operations.{accepts, op_key, step}
use Rattle.rr_cells.specs.ReplicaState.{ReplicaState}
use Rattle.rr_replica.specs.declared.fault.PutFault.{PutFault}
use Rattle.rr_replica.specs.declared.fault.PutFault.TheVariants as why
use Rattle.rr_replica.specs.declared.unkeyed_sample.UnkeyedSample.{UnkeyedSample}
use Rattle.rr_replica.specs.Becomes.{Becomes}
use Rattle.rr_replica.specs.Numbered.{knows}
use Rattle.rr_replica.specs.ReplicaWithRoom.{ReplicaWithRoom, replica_state, IsReadyFor}

-- a replica holds what it held, under the same keys
pub record HoldsTheSame (old new : ReplicaWithRoom) : Type 0 where
  pub unchanged : replica_state new ≡ replica_state old
  pub keys : new.keys ≡ old.keys

-- room was made for an operation, unless memory ran out, and no cell changed
pub record MakesReady {X : Type 0} (op : Op) (old new : ReplicaWithRoom) (result : Result X AllocError) : Type 0 where
  pub unchanged : replica_state new ≡ replica_state old
  pub room : OnOk result (IsReadyFor new op)

-- an operation was taken, if it is one that the replica takes, or memory ran out and nothing changed; if there was
-- room, memory doesn't run out
pub record Takes (op : Op) (old new : ReplicaWithRoom) (result : Result Bool AllocError) : Type 0 where
  pub accepted : IfOk result (λ done. done ≡ accepts (replica_state old) op)
  pub state : Becomes (replica_state old) (step (replica_state old) op) (replica_state new) result
  pub room : IsReadyFor old op → IsOk result

-- so was the operation that joins a cell; if the replica knew the key of the cell, its keys are the same
pub record TakesCell (c : Cell) (old new : ReplicaWithRoom) (result : Result Bool AllocError) : Type 0 where
  pub taken : Takes (Join c) old new result
  pub keys : knows old.keys c.key ≡ true → new.keys ≡ old.keys

-- a sample, without its key, of the replica's origin and under the next number or a later one
pub record IsNextUnkeyed (r : ReplicaWithRoom) (x : UnkeyedSample) : Type 0 where
  pub origin : x.origin ≡ r.origin
  pub number : r.next ≤ x.number

-- such a sample, and there is a series with this number
pub record IsNextUnkeyedOf (r : ReplicaWithRoom) (series : ℕ) (x : UnkeyedSample) : Type 0 where
  pub next : IsNextUnkeyed r x
  pub there : series < length r.keys

-- an operation that the replica takes, on the series with this number
pub record IsNumberedOp (r : ReplicaWithRoom) (series : ℕ) (op : Op) : Type 0 where
  pub accepted : accepts (replica_state r) op ≡ true
  pub key : slice_get r.keys series ≡ Some (op_key op)

-- the state of a replica became this one, or memory ran out and it didn't change; the keys are the same; if there was
-- this room, memory doesn't run out
pub record BecomesInRoom (HadRoom : Type 0) (after : ReplicaState) (old new : ReplicaWithRoom)
    (result : Result (Unit {0}) AllocError) : Type 0 where
  pub state : Becomes (replica_state old) after (replica_state new) result
  pub keys : new.keys ≡ old.keys
  pub room : HadRoom → IsOk result

-- a sample was put under the next number, which is the answer; or it was refused, as `NumbersSpent` exactly if no
-- number is left
pub record PutsNext {S : Type 0} (next : ℕ) (old after new : S) (result : Result ℕ PutFault) : Type 0 where
  pub number : IfOk result (λ given. given ≡ next)
  pub state : Becomes old after new result
  pub spent : (result ≡ Err why.NumbersSpent) ↔ (MAX_NUMBER < next)
