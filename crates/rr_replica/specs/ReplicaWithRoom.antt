-- What a replica holds, and where it has room.
use Rattle.std.specs.Prelude.{◌≡◌, ℕ, zero, suc, ◌<◌, ℤ, pos, negsuc, Bool, true, List, [], ◌∷◌, ◌++◌, map, length, get_or, unwrap_or, IsTrue, refl}
use Rattle.std.specs.Global.{Vec}
use Rattle.std.specs.List.{filter, list_any}
use Rattle.std.specs.Map.{lookup}
use Rattle.std.specs.BTreeMap.{is_at}
use Rattle.std.specs.Ordering.{eq_by_cmp}
use Rattle.std.specs.Coded.{Coded, code_by, coded×, coded_ℕ, coded_list}
use Rattle.std.specs.FinMap as fin
use Rattle.rr_text.specs.Bytes.{bytes_cmp}
use Rattle.rr_schema.specs.Schema.{Layout, slot_of}
use Rattle.rr_text.specs.declared.limits.TheConstants.{MAX_ORIGIN, MAX_SECOND}
use Rattle.rr_archive.specs.CellSlots.{CellSlot, cell_slot, cell_slot_cmp}
use Rattle.rr_archive.specs.Cells.{ArchiveCells}
use Rattle.rr_archive.specs.Codes.{coded_cell_slot, coded_contribution}
use Rattle.rr_cells.specs.declared.op.Op.{Op}
use Rattle.rr_cells.specs.declared.op.Op.TheVariants.{Put, Join}
use Rattle.rr_cells.specs.Cells.{Cells}
use Rattle.rr_replica.specs.Series.{cells_of}
use Rattle.rr_replica.specs.InMemory.{held_series}
use Rattle.rr_cells.specs.ReplicaState.{ReplicaState, coded_layout, coded_name}
use Rattle.rr_cells.specs.Operations.{accepts}

-- ---- room

-- for each key, and each of its archives, the cell slots that it has room for
abbrev pub Room : Type 0
Room = List (List ℕ × List (List CellSlot))

-- those of an archive of a key
abbrev pub room_at : Room → List ℕ → ℕ → List CellSlot
room_at room key i = get_or (unwrap_or (lookup (is_at (bytes_cmp key)) room) []) i []

-- whether a cell slot is one of these
abbrev pub is_one_of : List CellSlot → CellSlot → Bool
is_one_of ps p = list_any (eq_by_cmp cell_slot_cmp p) ps

-- the cell slots of a slot, for this many origins from 1 on
unfoldable pub cell_slots_of : ℤ → ℕ → List CellSlot
cell_slots_of slot zero = []
cell_slots_of slot (suc n) = cell_slot slot (suc n) ∷ cell_slots_of slot n

-- those of the slots at most this far from 0
unfoldable pub cell_slots_within : ℕ → ℕ → List CellSlot
cell_slots_within zero origins = cell_slots_of (pos 0) origins
cell_slots_within (suc n) origins =
    cell_slots_of (pos (suc n)) origins ++ (cell_slots_of (negsuc n) origins ++ cell_slots_within n origins)

-- those of all slots of times, for all origins
unfoldable pub all_cell_slots : List CellSlot
all_cell_slots = cell_slots_within MAX_SECOND MAX_ORIGIN

-- ---- replicas with their room

-- the state of a replica, its keys in the order in which they came, and where it has room
pub record ReplicaWithRoom : Type 0 where
  pub schema : Layout
  pub origin : ℕ
  pub next : ℕ
  pub cells : Cells
  pub keys : List (List ℕ)
  pub room : Room

-- its state, without the order of the keys and the room
abbrev pub replica_state : ReplicaWithRoom → ReplicaState
replica_state r = record { schema = r.schema; origin = r.origin; next = r.next; cells = r.cells }

-- room for a cell in an archive of a key
abbrev pub HasRoomAt : ReplicaWithRoom → List ℕ → ℕ → CellSlot → Type 0
HasRoomAt r key i p = IsTrue (is_one_of (room_at r.room key i) p)

-- room for an operation: for a sample in each archive, for a cell in its own
abbrev pub HasRoomFor : ReplicaWithRoom → Op → Type 0
HasRoomFor r (Put x) = (i : ℕ) → i < length r.schema.archives
    → HasRoomAt r x.key i (cell_slot (slot_of r.schema i x.time) x.origin)
HasRoomFor r (Join c) = HasRoomAt r c.key c.archive (cell_slot c.slot c.origin)

-- room for an operation, if it is one that the replica takes
abbrev pub IsReadyFor : ReplicaWithRoom → Op → Type 0
IsReadyFor r op = accepts (replica_state r) op ≡ true → HasRoomFor r op

-- ---- by what a replica has in memory

module _ {X : Type 0} where
  abbrev pub room_in : (X → CellSlot → Bool) → List (List ℕ × Vec X) → Room
  room_in is_ready entries = map (λ e. (e.0, map (λ a. filter (is_ready a) all_cell_slots) e.1.items)) entries

  abbrev pub replica_with_room : (X → ArchiveCells) → (X → CellSlot → Bool) → Layout → ℕ → ℕ → List (List ℕ)
      → List (List ℕ × Vec X) → ReplicaWithRoom
  replica_with_room cells is_ready schema origin next keys entries = record {
    schema = schema;
    origin = origin;
    next = next;
    cells = cells_of (held_series cells entries);
    keys = keys;
    room = room_in is_ready entries;
  }

-- ---- a code, which shows that replicas with their room are a set

abbrev pub coded_room : Coded Room
coded_room = coded_list (coded× (coded_list coded_ℕ) (coded_list (coded_list coded_cell_slot)))

abbrev pub coded_replica_with_room : Coded ReplicaWithRoom
coded_replica_with_room = code_by (Layout × (ℕ × (ℕ × (Cells × (List (List ℕ) × Room)))))
    (coded× coded_layout (coded× coded_ℕ (coded× coded_ℕ (coded× (fin.code coded_name coded_contribution)
    (coded× (coded_list (coded_list coded_ℕ)) coded_room)))))
    (λ r. (r.schema, (r.origin, (r.next, (r.cells, (r.keys, r.room))))))
    (λ p. record {
      schema = p.0;
      origin = p.1.0;
      next = p.1.1.0;
      cells = p.1.1.1.0;
      keys = p.1.1.1.1.0;
      room = p.1.1.1.1.1;
    }) (λ _. refl)
