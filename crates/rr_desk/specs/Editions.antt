-- The book of a desk: for each edition, the operations that it adds. Only the number of editions exists outside proofs.
use Rattle.std.specs.Prelude.{ℕ, ◌≡◌, ◌==◌, true, List, [], ◌∷◌, ◌++◌, length, drop, MatchBool, Result, OnErr, OnOk}
use Rattle.logbook.specs.Pages.{Cell, Step, View, Book, Named}
use Rattle.rr_cells.specs.declared.op.Op.{Op}

-- the editions of a desk's book, as far as they were seen
pub record BookPrefix : Type 0 where
  pub desk : Book
  pub editions : List (List Op)

-- the operations of these editions, in order
abbrev pub flat : List (List Op) → List Op
flat [] = []
flat (e ∷ es) = e ++ flat es

-- a book has two words: the first is the number of editions, and the second stays 0
abbrev pub IsCounted : List Cell → List (List Op) → Type 0
IsCounted words editions = words ≡ (length editions, true) ∷ (0, true) ∷ []

-- the word that counts the editions of this book
abbrev pub head_of : Book → Named
head_of b = record { tracked = true; key = 0; book = b }

-- an edition of this batch was added to all that had been seen, if the number found is the one expected
abbrev pub Adds : List Op → Step (List Op) → View (List Op) ℕ → ℕ → View (List Op) ℕ → Type 0
Adds batch s v found w = MatchBool (found == s.old) (w.0 ≡ v.0 ++ batch ∷ []) (Unit {0})

-- a book was given an edition and has these operations with it, or it was refused one and is as before
pub record Reaches {E : Type 0} (ops : List Op) (old new : BookPrefix) (result : Result (Unit {0}) E) : Type 0 where
  pub reached : OnOk result (flat new.editions ≡ ops)
  pub desk : new.desk ≡ old.desk
  pub unchanged : OnErr result (new ≡ old)

-- what follows in a list after a beginning as long as this one
abbrev pub after : List Op → List Op → List Op
after xs ys = drop (length xs) ys

-- the list ys begins with xs
abbrev pub Begins : List Op → List Op → Type 0
Begins xs ys = xs ++ after xs ys ≡ ys
