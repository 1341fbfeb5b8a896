-- A block as it is packed.
use Rattle.std.proofs.Common.{◌≡◌, ℕ, ◌<◌, ◌≤◌, ◌^◌, pos, ◌+ℤ◌, List, [], Ok, sym, ap, ◌∙◌, ⊎_elim, arith}
use Rattle.std.specs.Int.{bit_at}
use Rattle.std.proofs.lemmas.Bool.{cases_lt}
use Rattle.std.proofs.lemmas.Nat.Bits.{bit_at_above}
use Rattle.std.proofs.lemmas.Int.{ints}
use Rattle.rr_archive.specs.declared.entry.Entry.{Entry}
use Rattle.rr_codec.specs.Fields.{SlotEntry}
use Rattle.rr_codec.specs.Reading.{packed_at}
use Rattle.rr_packed.specs.PackedRows.{ArePackedRows, cells_of_rows, cells_packed, cells_read, entries_at, is_whole, items_packed}
use Rattle.rr_packed.proofs.RowCellLemmas.{at_behind, at_row}

-- bytes hold rows, which are those of a function
pub record ArePackedAs (rows : ℕ → List Entry) (cells : List SlotEntry) (bytes : List ℕ) : Type 0 where
  pub cells_are : cells_packed bytes ≡ cells
  pub rows_are : items_packed bytes ≡ rows
  pub packed : ArePackedRows bytes

module _ (rows : ℕ → List Entry) (mask : ℕ) (fits : mask < 2 ^ 64) (unset : (n : ℕ) → bit_at mask n ≡ 0 → rows n ≡ [])
  where
    row_is : (n : ℕ) → entries_at (cells_of_rows rows (pos 0) 64) (pos n) ≡ rows n
    row_is n = ⊎_elim
        (λ (low : n < 64). ap (entries_at (cells_of_rows rows (pos 0) 64)) (on n) ∙ at_row rows (pos 0) 64 n low)
        (λ (high : 64 ≤ n). at_behind rows (pos 0) 64 (pos n) (omega (arith, ints))
        ∙ sym (unset n (bit_at_above mask 64 n fits high)))
        (cases_lt n 64)
      where
        on : (n : ℕ) → pos n ≡ pos 0 +ℤ pos n
        on n = omega (arith, ints)

    pub packed_as : (cells : List SlotEntry) (bytes : List ℕ) → packed_at bytes ≡ Ok (cells, [])
        → cells ≡ cells_of_rows rows (pos 0) 64 → ArePackedAs rows cells bytes
    unfolding cells_packed items_packed
    packed_as cells bytes read are =
        let there : cells_packed bytes ≡ cells = ap cells_read read in
        let same : items_packed bytes ≡ rows = λ i n. (ap (λ cs. entries_at cs (pos n)) (there ∙ are) ∙ row_is n) i in
        record {
          cells_are = there;
          rows_are = same;
          packed = record {
            whole = ap is_whole read;
            ordered = there ∙ are ∙ ap (λ f. cells_of_rows f (pos 0) 64) (sym same);
          };
        }
