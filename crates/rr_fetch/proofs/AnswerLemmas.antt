-- The answer to a request grows row by row.
use Rattle.std.proofs.Common.{◌≡◌, ℕ, ◌+◌, ◌*ℤ◌, ◌+ℤ◌, ℤ, pos, List, [], ◌∷◌, ◌++◌, map, Option, refl, ap, ◌∙◌, arith}
use Rattle.std.specs.List.{flat_map, range_with_len}
use Rattle.std.proofs.lemmas.Grind.{flat_map-append}
use Rattle.std.proofs.lemmas.List.{map-append, append-nil}
use Rattle.std.proofs.lemmas.List.FromFn.{map-range_with_len_more}
use Rattle.rr_schema.specs.Schema.{Layout, span}
use Rattle.rr_cells.specs.FetchText.{Request, record_text, answer_text}

module _ (s : Layout) (value_at : ℤ → Option ℤ) (q : Request) where
  row_of : ℤ → ℤ × Option ℤ
  row_of slot = (slot *ℤ pos (span s q.archive), value_at slot)

  -- one row more
  pub answer_more : (rows : ℕ) → answer_text s value_at (record q { rows = rows + 1 })
      ≡ answer_text s value_at (record q { rows = rows })
      ++ record_text q.key ((q.first +ℤ pos rows) *ℤ pos (span s q.archive), value_at (q.first +ℤ pos rows))
  unfolding answer_text row_of
  answer_more rows =
      let slot : ℕ → ℤ = λ i. q.first +ℤ pos i in
      let at : 0 + rows ≡ rows = omega arith in
      ap (λ (slots : List ℤ). flat_map (record_text q.key) (map row_of slots))
      (map-range_with_len_more slot 0 rows rows at)
      ∙ ap (flat_map (record_text q.key)) (map-append row_of (map slot (range_with_len 0 rows)) (slot rows ∷ []))
      ∙ flat_map-append (record_text q.key) (map row_of (map slot (range_with_len 0 rows))) (row_of (slot rows) ∷ [])
      ∙ ap (λ (text : List ℕ). flat_map (record_text q.key) (map row_of (map slot (range_with_len 0 rows))) ++ text)
      (append-nil (record_text q.key (row_of (slot rows))))

  -- no row
  pub answer_none : answer_text s value_at (record q { rows = 0 }) ≡ []
  unfolding answer_text
  answer_none = refl
