-- What a snapshot is loaded as, by what was read of it, part by part.
use Rattle.std.proofs.Common.{◌≡◌, ◌⊎◌, ℕ, Bool, true, false, List, Option, None, Some, IfSome, Result, Ok, Err, sym, ap, ◌∙◌, inl, inr}
use Rattle.sha2.specs.Sha256.{sha256}
use Rattle.rr_text.specs.Results.{◌>>=◌, unless}
use Rattle.rr_schema.specs.Schema.{Layout}
use Rattle.rr_cells.specs.CellBounds.{NamedCell}
use Rattle.rr_cells.specs.ReplicaState.{ReplicaState}
use Rattle.rr_replica.specs.ReplicaWithRoom.{ReplicaWithRoom, replica_state}
use Rattle.rr_snapshot.specs.declared.fault.LoadFault.{LoadFault}
use Rattle.rr_snapshot.specs.declared.fault.LoadFault.TheVariants.{ReadFailed, OriginUsed, Memory}
use Rattle.rr_snapshot.specs.declared.heading.Head.{Head}
use Rattle.rr_snapshot.specs.SnapshotReading.{head_at, digest_at, end_at, bytes_before, cells_after, snapshot_at}
use Rattle.rr_snapshot.proofs.BodyLemmas.{after_cells, after_head, of_rest, HeadRead, digest_of_taken, IsBodyRead}
use Rattle.rr_snapshot.proofs.ChainLemmas.{Gave}
use Rattle.rr_snapshot.specs.Loading.{is_used, replica_of, loaded_at, GivesIfRead}

-- ---- where all bytes are known

abbrev judged : Layout → ℕ → Head × List NamedCell → Result ReplicaState LoadFault
judged s o x = unless OriginUsed (is_used o x.0.origin x.1) (Ok (replica_of s x.0.addition o x.1))

module _ (s : Layout) (o : ℕ) (all : List ℕ) where
  head_refused : (fault : LoadFault) → head_at s all ≡ Err fault → loaded_at s o all ≡ Err fault
  unfolding loaded_at snapshot_at
  head_refused fault is = ap (λ (r : Result (Head × List ℕ) LoadFault). (r >>= after_head s all) >>= judged s o) is

  module _ (h : Head) (after : List ℕ) (head : head_at s all ≡ Ok (h, after)) where
    with_head : loaded_at s o all ≡ ((cells_after s h after >>= after_cells all h) >>= judged s o)
    unfolding loaded_at snapshot_at
    with_head = ap (λ (r : Result (Head × List ℕ) LoadFault). (r >>= after_head s all) >>= judged s o) head

    cells_refused : (fault : LoadFault) → cells_after s h after ≡ Err fault → loaded_at s o all ≡ Err fault
    cells_refused fault is = with_head ∙ ap (λ (r : Result (List NamedCell × List ℕ) LoadFault).
        (r >>= after_cells all h) >>= judged s o) is

    module _ (es : List NamedCell) (left : List ℕ) (cells : cells_after s h after ≡ Ok (es, left)) (digest : List ℕ)
        (made : digest ≡ sha256 (bytes_before left all)) where
      with_cells : loaded_at s o all ≡ ((digest_at digest left >>= λ d. end_at d.1 >>= λ end. Ok (h, es)) >>= judged s
          o)
      with_cells =
          with_head
          ∙ ap (λ (r : Result (List NamedCell × List ℕ) LoadFault). (r >>= after_cells all h) >>= judged s o) cells
          ∙ ap (λ (d : List ℕ). (digest_at d left >>= λ x. end_at x.1 >>= λ end. Ok (h, es)) >>= judged s o) (sym made)

      digest_refused : (fault : LoadFault) → digest_at digest left ≡ Err fault → loaded_at s o all ≡ Err fault
      digest_refused fault is = with_cells ∙ ap (λ (r : Result (Unit {0} × List ℕ) LoadFault).
          (r >>= λ x. end_at x.1 >>= λ end. Ok (h, es)) >>= judged s o) is

      module _ (none : List ℕ) (same : digest_at digest left ≡ Ok (tt, none)) where
        with_digest : loaded_at s o all ≡ ((end_at none >>= λ end. Ok (h, es)) >>= judged s o)
        with_digest = with_cells ∙ ap (λ (r : Result (Unit {0} × List ℕ) LoadFault).
            (r >>= λ x. end_at x.1 >>= λ end. Ok (h, es)) >>= judged s o) same

-- ---- where they may be

pub head_failed : (s : Layout) (o : ℕ) (fault : LoadFault) (old : Option (List ℕ))
    → (fault ≡ ReadFailed) ⊎ (fault ≡ Memory) ⊎ IfSome old (λ all. head_at s all ≡ Err fault)
    → IfSome old (λ all. GivesIfRead replica_state (Err fault) (loaded_at s o all))
head_failed s o fault None e = tt
head_failed s o fault (Some all) (inl e) = inl e
head_failed s o fault (Some all) (inr (inl e)) = inr (inl e)
head_failed s o fault (Some all) (inr (inr e)) = inr (inr (head_refused s o all fault e))

module _ (s : Layout) (o : ℕ) (h : Head) where
  pub cells_failed : (fault : LoadFault) (old now : Option (List ℕ)) → HeadRead s h old now
      → (fault ≡ ReadFailed) ⊎ (fault ≡ Memory) ⊎ IfSome now (λ all. cells_after s h all ≡ Err fault)
      → IfSome old (λ all. GivesIfRead replica_state (Err fault) (loaded_at s o all))
  cells_failed fault None now head e = tt
  cells_failed fault (Some all) now head (inl e) = inl e
  cells_failed fault (Some all) now head (inr (inl e)) = inr (inl e)
  cells_failed fault (Some all) now head (inr (inr e)) =
      inr (inr (cells_refused s o all h head.0 head.2 fault
      (of_rest (λ rest. cells_after s h rest ≡ Err fault) now head.0 head.1 e)))

  module _ (es : List NamedCell) (digest : List ℕ) where
    -- the cells, and the digest that must follow them, where all bytes are known
    after_body : (all : List ℕ) (now mid : Option (List ℕ)) → IsBodyRead s h es digest (Some all) now mid
        → (left : List ℕ) × (mid ≡ Some left) × ((fault : LoadFault) → digest_at digest left ≡ Err fault
        → loaded_at s o all ≡ Err fault)
        × ((none : List ℕ) → digest_at digest left ≡ Ok (tt, none)
        → loaded_at s o all ≡ ((end_at none >>= λ end. Ok (h, es)) >>= judged s o))
    after_body all now mid body =
        let read = of_rest (λ rest. (left : List ℕ) × (mid ≡ Some left) × (cells_after s h rest ≡ Ok (es, left))) now
        body.head.0 body.head.1 body.cells in
        let is = digest_of_taken all read.0 mid body.taken digest read.1 body.took body.made in (
          read.0,
          read.1,
          digest_refused s o all h body.head.0 body.head.2 es read.0 read.2 digest is,
          with_digest s o all h body.head.0 body.head.2 es read.0 read.2 digest is,
        )

    pub digest_failed : (fault : LoadFault) (old now mid : Option (List ℕ)) → IsBodyRead s h es digest old now mid
        → (fault ≡ ReadFailed) ⊎ (fault ≡ Memory) ⊎ IfSome mid (λ all. digest_at digest all ≡ Err fault)
        → IfSome old (λ all. GivesIfRead replica_state (Err fault) (loaded_at s o all))
    digest_failed fault None now mid body e = tt
    digest_failed fault (Some all) now mid body (inl e) = inl e
    digest_failed fault (Some all) now mid body (inr (inl e)) = inr (inl e)
    digest_failed fault (Some all) now mid body (inr (inr e)) =
        let after = after_body all now mid body in
        inr (inr (after.2 fault (of_rest (λ rest. digest_at digest rest ≡ Err fault) mid after.0 after.1 e)))

    -- what follows the digest decides
    with_digest_read : (all : List ℕ) (now mid new : Option (List ℕ)) → IsBodyRead s h es digest (Some all) now mid
        → Gave {A = Unit {0}} tt mid new (digest_at digest)
        → (none : List ℕ) × (new ≡ Some none) × (loaded_at s o all
        ≡ ((end_at none >>= λ end. Ok (h, es)) >>= judged s o))
    with_digest_read all now mid new body same =
        let after = after_body all now mid body in
        let last = of_rest (λ rest. (none : List ℕ) × (new ≡ Some none) × (digest_at digest rest ≡ Ok (tt, none))) mid
        after.0 after.1 same in
        (last.0, last.1, after.3 last.0 last.2)

    pub end_failed : (fault : LoadFault) (old now mid new : Option (List ℕ)) → IsBodyRead s h es digest old now mid
        → Gave {A = Unit {0}} tt mid new (digest_at digest)
        → (fault ≡ ReadFailed) ⊎ (fault ≡ Memory) ⊎ IfSome new (λ all. end_at all ≡ Err fault)
        → IfSome old (λ all. GivesIfRead replica_state (Err fault) (loaded_at s o all))
    end_failed fault None now mid new body same e = tt
    end_failed fault (Some all) now mid new body same (inl e) = inl e
    end_failed fault (Some all) now mid new body same (inr (inl e)) = inr (inl e)
    end_failed fault (Some all) now mid new body same (inr (inr e)) =
        let last = with_digest_read all now mid new body same in
        let is = of_rest (λ rest. end_at rest ≡ Err fault) new last.0 last.1 e in
        inr (inr (last.2 ∙ ap (λ (r : Result (Unit {0} × List ℕ) LoadFault). (r >>= λ end. Ok (h, es)) >>= judged s o)
        is))

    -- all of it was read
    pub all_read : (old now mid new end : Option (List ℕ)) → IsBodyRead s h es digest old now mid
        → Gave {A = Unit {0}} tt mid new (digest_at digest) → Gave {A = Unit {0}} tt new end end_at
        → IfSome old (λ all. loaded_at s o all ≡ judged s o (h, es))
    all_read None now mid new end body same none = tt
    all_read (Some all) now mid new end body same none =
        let last = with_digest_read all now mid new body same in
        let over = of_rest (λ rest. (left : List ℕ) × (end ≡ Some left) × (end_at rest ≡ Ok (tt, left))) new last.0
        last.1 none in
        last.2 ∙ ap (λ (r : Result (Unit {0} × List ℕ) LoadFault). (r >>= λ end. Ok (h, es)) >>= judged s o) over.2

pub used_origin : (s : Layout) (o : ℕ) (h : Head) (es : List NamedCell) (old : Option (List ℕ))
    → is_used o h.origin es ≡ true → IfSome old (λ all. loaded_at s o all ≡ judged s o (h, es))
    → IfSome old (λ all. GivesIfRead replica_state (Err OriginUsed) (loaded_at s o all))
used_origin s o h es None used read = tt
used_origin s o h es (Some all) used read = inr (inr
    (read ∙ ap (λ (b : Bool). unless OriginUsed b (Ok (replica_of s h.addition o es))) used))

pub new_origin : (s : Layout) (o : ℕ) (h : Head) (es : List NamedCell) (x : ReplicaWithRoom) (old : Option (List ℕ))
    → is_used o h.origin es ≡ false → replica_state x ≡ replica_of s h.addition o es
    → IfSome old (λ all. loaded_at s o all ≡ judged s o (h, es))
    → IfSome old (λ all. GivesIfRead replica_state (Ok x) (loaded_at s o all))
new_origin s o h es x None free is read = tt
new_origin s o h es x (Some all) free is read = read
    ∙ ap (λ (b : Bool). unless OriginUsed b (Ok (replica_of s h.addition o es))) free
    ∙ ap (λ (y : ReplicaState). Ok y) (sym is)
