-- The pieces of bytes, and their items.
use Rattle.std.proofs.Common.{◌≡◌, ℕ, ◌<◌, Bool, true, false, not, ◌&&◌, eqb, leb, ltb, List, [], ◌∷◌, ◌++◌, length, refl, ap, ◌∙◌, inl, inr}
use Rattle.std.specs.List.{All, onto_first}
use Rattle.std.proofs.lemmas.Bool.{cases_Bool, or_parts, lt-ltb, lt-leb, leb-true}
use Rattle.std.proofs.lemmas.List.Elements.{All-nil, All-cons}
use Rattle.std.proofs.lemmas.List.Splits.{slice_split_at, slice_split_none, slice_split-cons_yes, slice_split-cons_no}
use Rattle.rr_text.specs.declared.limits.TheConstants.{MAX_LINE}
use Rattle.rr_text.specs.declared.bytes.TheConstants.{LINE_FEED}
use Rattle.rr_text.specs.Bytes.{HasNoLineFeed}
use Rattle.rr_feed.specs.Items.{Line, TooLong, pieces, item_of, last_items, items_of, IsLine}

none_is_line_feed : (text : List ℕ) → HasNoLineFeed text → All (λ byte. eqb byte LINE_FEED ≡ false) text
none_is_line_feed [] none = All-nil (λ (byte : ℕ). eqb byte LINE_FEED ≡ false)
none_is_line_feed (byte ∷ text) none =
    let parts = or_parts _ _ none in
    All-cons (λ (byte : ℕ). eqb byte LINE_FEED ≡ false) byte text parts.0 (none_is_line_feed text parts.1)

-- there is a first piece always
pub some_pieces : (bytes : List ℕ) → (first : List ℕ) × (rest : List (List ℕ)) × (pieces bytes ≡ first ∷ rest)
some_pieces [] = ([], [], refl)
some_pieces (byte ∷ bytes) =
    let later = some_pieces bytes in
    elim (cases_Bool (eqb byte LINE_FEED)) [
      | inl here ↦ ([], pieces bytes, slice_split-cons_yes (λ b. eqb b LINE_FEED) byte bytes here)
      | inr other ↦ (
        byte ∷ later.0,
        later.1,
        slice_split-cons_no (λ b. eqb b LINE_FEED) byte bytes other
            ∙ ap (onto_first byte) later.2,
      )
    ]

-- bytes up to the first line feed are the first piece
pub pieces_line : (line rest : List ℕ) → HasNoLineFeed line → pieces (line ++ LINE_FEED ∷ rest) ≡ line ∷ pieces rest
pieces_line line rest none = slice_split_at (λ b. eqb b LINE_FEED) line LINE_FEED rest (none_is_line_feed line none)
    refl

-- bytes with no line feed are one piece
pub pieces_last : (last : List ℕ) → HasNoLineFeed last → pieces last ≡ last ∷ []
pieces_last last none = slice_split_none (λ b. eqb b LINE_FEED) last (none_is_line_feed last none)

-- bytes with no line feed go in front of the first piece of what comes after them
pub pieces_prefix : (prefix bytes first : List ℕ) (rest : List (List ℕ)) → HasNoLineFeed prefix
    → pieces bytes ≡ first ∷ rest → pieces (prefix ++ bytes) ≡ (prefix ++ first) ∷ rest
pieces_prefix [] bytes first rest none e = e
pieces_prefix (byte ∷ prefix) bytes first rest none e =
    let parts = or_parts _ _ none in
    slice_split-cons_no (λ b. eqb b LINE_FEED) byte (prefix ++ bytes) parts.0
    ∙ ap (onto_first byte) (pieces_prefix prefix bytes first rest parts.1 e)

-- the items of a piece and of pieces after it
pub items_of_line : (ended : Bool) (piece bytes : List ℕ)
    → items_of ended (piece ∷ pieces bytes) ≡ item_of piece ∷ items_of ended (pieces bytes)
items_of_line ended piece bytes = let some = some_pieces bytes in rw some.2 refl

-- a first piece that is too long, ended or not
pub items_of_long : (ended : Bool) (first : List ℕ) (rest : List (List ℕ)) → MAX_LINE < length first
    → items_of ended (first ∷ rest) ≡ TooLong ∷ items_of ended rest
items_of_long ended first [] long =
    let is : ltb MAX_LINE (length first) ≡ true = lt-ltb _ _ long in
    rw is refl
items_of_long ended first (next ∷ rest) long =
    let is : leb (length first) MAX_LINE ≡ false = lt-leb _ _ long in
    rw is refl

-- a last piece that is a line
pub last_items_line : (ended : Bool) (last : List ℕ) → ltb MAX_LINE (length last) ≡ false
    → (ended && not (eqb (length last) 0)) ≡ true → last_items ended last ≡ Line last ∷ []
last_items_line ended last short decided = rw (short, decided) refl

-- a last piece that isn't one yet
pub last_items_none : (ended : Bool) (last : List ℕ) → ltb MAX_LINE (length last) ≡ false
    → (ended && not (eqb (length last) 0)) ≡ false → last_items ended last ≡ []
last_items_none ended last short undecided = rw (short, undecided) refl

-- what a line feed ends, if it isn't too long, is a line
pub IsLine-item_of : (piece : List ℕ) → HasNoLineFeed piece → IsLine (item_of piece)
IsLine-item_of piece none =
    elim (cases_Bool (leb (length piece) MAX_LINE)) [
      | inl short ↦ rw short (none, leb-true _ _ short)
      | inr long ↦ rw long tt
    ]
