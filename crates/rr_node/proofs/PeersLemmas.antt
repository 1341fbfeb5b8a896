-- The pulls of peers, one after the other.
use Rattle.std.proofs.Common.{◌≡◌, ℕ, ◌+◌, ◌<◌, nat_lt, Bool, true, false, List, [], ◌∷◌, ◌++◌, length, get_or, drop, map, ◌≢◌, Option, IfSome, Some, refl, sym, ap, ◌∙◌, inl, inr, append_assoc}
use Rattle.std.proofs.lemmas.List.{append-nil, at_drop_more}
use Rattle.rr_desk.specs.KeeperState.{KeeperState}
use Rattle.rr_node.specs.declared.fault.NodeFault.{NodeFault}
use Rattle.rr_node.specs.declared.fault.NodeFault.TheVariants.{Memory}
use Rattle.rr_host.specs.Calls.{DialCall}
use Rattle.rr_node.specs.Shelf.{ShelfCall}
use Rattle.rr_node.specs.Peers.{EndsPull, EndsPulls, IsPast, reported_of_peer}

pub next_left : {X : Type 0} (text : X → List ℕ) (xs : List X) (place : ℕ) (x : X) (address : List ℕ)
    → place < length xs → x ≡ get_or xs place x → address ≡ text x
    → map text (drop place xs) ≡ address ∷ map text (drop (place + 1) xs)
next_left text xs place x address within is same =
    at_drop_more (map text) xs place x within ∙ ap (λ y. text y ∷ map text (drop (place + 1) xs)) (sym is)
    ∙ ap (λ a. a ∷ map text (drop (place + 1) xs)) (sym same)

-- whatever comes of the peers that are left, of which the first has this number, comes of all after these calls
abbrev pub GoesOn : List (List ℕ) → KeeperState → ℕ → List (List ℕ) → KeeperState → List DialCall → List ShelfCall
    → Type 0
GoesOn all old number left now dialed reported =
    (whole : Bool) (new : KeeperState) (d : List DialCall) (t : List ShelfCall)
    → EndsPulls whole number left now new d t → EndsPulls whole 1 all old new (dialed ++ d) (reported ++ t)

pub one_past : (all : List (List ℕ)) (old : KeeperState) (number : ℕ) (address : List ℕ) (left : List (List ℕ))
    (now mid : KeeperState) (dialed first : List DialCall) (reported : List ShelfCall) (fault : Option NodeFault)
    → GoesOn all old number (address ∷ left) now dialed reported → IfSome fault (λ why. why ≢ Memory)
    → EndsPull address now mid first fault → GoesOn all old (number + 1) left mid (dialed ++ first)
    (reported ++ reported_of_peer number (nat_lt now.next mid.next) fault)
one_past all old number address left now mid dialed first reported fault h other ended = λ whole new d t rest.
    let parsed = reported_of_peer number (nat_lt now.next mid.next) fault in
    let past : IsPast number address now mid first parsed =
    record { fault = fault; skipped = other; pulled = ended; reported_so = refl } in
    rw (append_assoc dialed first d, append_assoc reported parsed t)
    (h whole new (first ++ d) (parsed ++ t) (inr (mid, first, d, parsed, t, past, rest, refl, refl)))

pub all_past : (all : List (List ℕ)) (old : KeeperState) (number : ℕ) (now : KeeperState) (dialed : List DialCall)
    (reported : List ShelfCall) → GoesOn all old number [] now dialed reported
    → EndsPulls true 1 all old now dialed reported
all_past all old number now dialed reported h =
    let whole = h true now [] [] (refl, refl, refl, refl) in rw (append-nil dialed, append-nil reported) at whole

pub stops_here : (all : List (List ℕ)) (old : KeeperState) (number : ℕ) (address : List ℕ) (left : List (List ℕ))
    (now new : KeeperState) (dialed last : List DialCall) (reported : List ShelfCall)
    → GoesOn all old number (address ∷ left) now dialed reported → EndsPull address now new last (Some Memory)
    → EndsPulls false 1 all old new (dialed ++ last) reported
stops_here all old number address left now new dialed last reported h ended =
    let whole = h false new last [] (inl (refl, ended, refl)) in rw (append-nil reported) at whole
