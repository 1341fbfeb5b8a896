use Rattle.std.proofs.Common.{rules, ◌≡◌, false, ◌≤◌, ◌<◌, [], ◌∷◌, ◌++◌, insert, length, sym, ap, ◌∙◌, subst, to_z, of_z, w64}
use Rattle.std.specs.Int.{int_min}
use Rattle.std.specs.Map.{keys_of}
use Rattle.std.specs.Option.{option_to_list}
use Rattle.std.proofs.lemmas.List.{append-nil}
use Rattle.std.proofs.lemmas.Result.{on_ok_weaker, on_err_weaker}
use Rattle.rr_packed.specs.Slots.{begins_before}
use Rattle.rr_packed.specs.Blocks.{all_blocks, IsBlockSet, IsGapFor, IsPlaceOf}
use Rattle.rr_packed.proofs.NumberLemmas.{Ascend, begins_later, min_left, min_right, older_added, newest_added}
use Rattle.rr_packed.proofs.BlocksLemmas.{either}
use Rattle.rr_packed.proofs.blocks.Blocks.insert.Goals as goal

-- ---- before the newest

pub invariant_of-self : goal.invariant_of-self
invariant_of-self c =
    let p = c.make_place.new.self in
    let same : all_blocks p ≡ all_blocks c.args.self.now =
    λ i. c.make_place.ensures.older i ++ option_to_list (c.make_place.ensures.newest i) in
    let number : to_z w64 (of_z w64 c.args.number) ≡ c.args.number = search rules in
    let gap = subst (λ bs. IsGapFor c.args.number bs c.args.at) (sym same) c.requires in
    let before : c.args.at < length (all_blocks c.args.self.now) = search rules in
    let within = subst (λ bs. c.args.at < length bs) (sym same) before in
    let added = older_added p.older.items p.newest c.args.number c.args.at c.args.block p.ordered gap within in
    record {
      ordered = either c.insert.result
          (on_ok_weaker c.insert.result (λ items. subst (λ l. Ascend (l ++ option_to_list p.newest))
          (sym (items ∙ ap (λ n. insert p.older.items c.args.at (n, c.args.block)) number)) added.ascend)
          c.insert.ensures.items)
          (on_err_weaker c.insert.result (λ kept. subst (λ l. Ascend (l ++ option_to_list p.newest)) (sym kept.0)
          p.ordered) c.insert.ensures.unchanged);
      none_before =
          let least = int_min p.dropped c.args.number in
          let kept = begins_later p.dropped least (keys_of (all_blocks p)) p.none_before (min_left p.dropped
          c.args.number) in
          let is : to_z w64 (of_z w64 c.min-self.result) ≡ least = search rules in
          subst (λ d. begins_before d (keys_of (c.insert.new.self.items ++ option_to_list p.newest)) ≡ false) (sym is)
          (either c.insert.result
          (on_ok_weaker c.insert.result
          (λ items. subst (λ l. begins_before least (keys_of (l ++ option_to_list p.newest))
          ≡ false) (sym (items ∙ ap (λ n. insert p.older.items c.args.at (n, c.args.block)) number))
          (added.none_before least kept (min_right p.dropped c.args.number))) c.insert.ensures.items)
          (on_err_weaker c.insert.result
          (λ same. subst (λ l. begins_before least (keys_of (l ++ option_to_list p.newest))
          ≡ false) (sym same.0) kept) c.insert.ensures.unchanged));
    }

pub returns-in_ok-insert-clause-added : goal.returns-in_ok-insert-clause-added
returns-in_ok-insert-clause-added c =
    let p = c.make_place.new.self in
    let same : all_blocks p ≡ all_blocks c.args.self.now =
    λ i. c.make_place.ensures.older i ++ option_to_list (c.make_place.ensures.newest i) in
    let n = c.args.number in
    let gap = subst (λ bs. IsGapFor n bs c.args.at) (sym same) c.requires in
    let before : c.args.at < length (all_blocks c.args.self.now) = search rules in
    let within = subst (λ bs. c.args.at < length bs) (sym same) before in
    let added = older_added p.older.items p.newest n c.args.at c.args.block p.ordered gap within in
    let items : c.insert.new.self.items ≡ insert p.older.items c.args.at (n, c.args.block) = search rules in
    subst (λ old. IsBlockSet n c.args.block old (c.insert.new.self.items ++ option_to_list p.newest))
    same (subst (λ l. IsBlockSet n c.args.block (all_blocks p) (l ++ option_to_list p.newest))
    (sym items) added.sets)

pub returns-in_ok-insert-clause-place : goal.returns-in_ok-insert-clause-place
returns-in_ok-insert-clause-place c =
    let p = c.make_place.new.self in
    let same : all_blocks p ≡ all_blocks c.args.self.now =
    λ i. c.make_place.ensures.older i ++ option_to_list (c.make_place.ensures.newest i) in
    let n = c.args.number in
    let gap = subst (λ bs. IsGapFor n bs c.args.at) (sym same) c.requires in
    let before : c.args.at < length (all_blocks c.args.self.now) = search rules in
    let within = subst (λ bs. c.args.at < length bs) (sym same) before in
    let added = older_added p.older.items p.newest n c.args.at c.args.block p.ordered gap within in
    let items : c.insert.new.self.items ≡ insert p.older.items c.args.at (n, c.args.block) = search rules in
    subst (λ l. IsPlaceOf n (l ++ option_to_list p.newest) c.args.at) (sym items) added.place

-- ---- as the newest

pub invariant_of-self-else-is_some : goal.invariant_of-self-else-is_some
invariant_of-self-else-is_some c =
    let r = c.retire.new.self in
    let bs = all_blocks c.args.self.now in
    let number : to_z w64 (of_z w64 c.args.number) ≡ c.args.number = search rules in
    let past : length bs ≤ c.args.at = search rules in
    let older : bs ≡ r.older.items = sym c.retire.ensures.same
    ∙ ap (λ o. r.older.items ++ option_to_list o) c.in_ok-retire.ensures.none ∙ append-nil r.older.items in
    record {
      ordered = subst (λ l. Ascend (l ++ (to_z w64 (of_z w64 c.args.number), c.args.block) ∷ [])) older
          (subst (λ n. Ascend (bs ++ (n, c.args.block) ∷ [])) (sym number)
          (newest_added bs c.args.number c.args.at c.args.block c.args.self.now.ordered c.requires past).ascend);
      none_before =
          let least = int_min r.dropped c.args.number in
          let is : to_z w64 (of_z w64 c.min-self-else-is_some.result) ≡ least = search rules in
          let kept = begins_later r.dropped least (keys_of (all_blocks r)) r.none_before (min_left r.dropped
          c.args.number) in
          subst (λ d. begins_before d
          (keys_of (r.older.items ++ (to_z w64 (of_z w64 c.args.number), c.args.block) ∷ []))
          ≡ false) (sym is)
          (subst (λ l. begins_before least (keys_of (l ++ (to_z w64 (of_z w64 c.args.number), c.args.block) ∷ []))
          ≡ false) older
          (subst (λ n. begins_before least (keys_of (bs ++ (n, c.args.block) ∷ [])) ≡ false) (sym number)
          ((newest_added bs c.args.number c.args.at c.args.block c.args.self.now.ordered c.requires past).none_before
          least (subst (λ l. begins_before least (keys_of l) ≡ false) c.retire.ensures.same kept)
          (min_right r.dropped c.args.number))));
    }

pub returns-in_ok-retire-clause-added : goal.returns-in_ok-retire-clause-added
returns-in_ok-retire-clause-added c =
    let r = c.retire.new.self in
    let bs = all_blocks c.args.self.now in
    let number : to_z w64 (of_z w64 c.args.number) ≡ c.args.number = search rules in
    let past : length bs ≤ c.args.at = search rules in
    let older : bs ≡ r.older.items = sym c.retire.ensures.same
    ∙ ap (λ o. r.older.items ++ option_to_list o) c.in_ok-retire.ensures.none ∙ append-nil r.older.items in
    subst (λ l. IsBlockSet c.args.number c.args.block bs
    (l ++ (to_z w64 (of_z w64 c.args.number), c.args.block) ∷ [])) older
    (subst (λ n. IsBlockSet c.args.number c.args.block bs (bs ++ (n, c.args.block) ∷ [])) (sym number)
    (newest_added bs c.args.number c.args.at c.args.block c.args.self.now.ordered c.requires past).sets)

pub returns-in_ok-retire-clause-place : goal.returns-in_ok-retire-clause-place
returns-in_ok-retire-clause-place c =
    let r = c.retire.new.self in
    let bs = all_blocks c.args.self.now in
    let number : to_z w64 (of_z w64 c.args.number) ≡ c.args.number = search rules in
    let past : length bs ≤ c.args.at = search rules in
    let older : bs ≡ r.older.items = sym c.retire.ensures.same
    ∙ ap (λ o. r.older.items ++ option_to_list o) c.in_ok-retire.ensures.none ∙ append-nil r.older.items in
    subst (λ l. IsPlaceOf c.args.number (l ++ (to_z w64 (of_z w64 c.args.number), c.args.block) ∷ []) c.args.at) older
    (subst (λ n. IsPlaceOf c.args.number (bs ++ (n, c.args.block) ∷ []) c.args.at) (sym number)
    (newest_added bs c.args.number c.args.at c.args.block c.args.self.now.ordered c.requires past).place)
