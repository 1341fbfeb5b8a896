-- Codes of cell slots and of what an archive holds, which show that these are sets.
use Rattle.std.specs.Prelude.{ℕ, ℤ, refl}
use Rattle.std.specs.FinMap as fin
use Rattle.std.specs.Coded.{Coded, code_by, coded×, coded_ℕ, coded_ℤ}
use Rattle.rr_contrib.specs.declared.contribution.Contribution.{Contribution}
use Rattle.rr_archive.specs.CellSlots.{CellSlot, cell_slot}
use Rattle.rr_archive.specs.Cells.{ArchiveCells}

abbrev pub coded_cell_slot : Coded CellSlot
coded_cell_slot = code_by (ℤ × ℕ) (coded× coded_ℤ coded_ℕ) (λ p. (p.slot, p.origin)) (λ p. cell_slot p.0 p.1)
    (λ _. refl)

abbrev pub coded_contribution : Coded Contribution
coded_contribution =
    code_by (ℕ × (ℕ × (ℤ × (ℤ × (ℤ × (ℤ × (ℤ × ℕ)))))))
    (coded× coded_ℕ (coded× coded_ℕ (coded× coded_ℤ
    (coded× coded_ℤ (coded× coded_ℤ (coded× coded_ℤ (coded× coded_ℤ coded_ℕ)))))))
    (λ c. (c.version, (c.count, (c.sum, (c.min, (c.max, (c.last_time, (c.last_value, c.mask))))))))
    (λ p. record {
      version = p.0;
      count = p.1.0;
      sum = p.1.1.0;
      min = p.1.1.1.0;
      max = p.1.1.1.1.0;
      last_time =
          p.1.1.1.1.1.0;
      last_value = p.1.1.1.1.1.1.0;
      mask = p.1.1.1.1.1.1.1;
    })
    (λ _. refl)

abbrev pub coded_rows : Coded ArchiveCells
coded_rows = fin.code coded_cell_slot coded_contribution
