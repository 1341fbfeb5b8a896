use Rattle.std.proofs.Common.{◌≡◌, false, [], ◌++◌, drop, sym, ap, ◌∙◌, subst}
use Rattle.std.specs.Map.{keys_of}
use Rattle.std.specs.Option.{option_to_list}
use Rattle.std.proofs.lemmas.List.{append-nil}
use Rattle.rr_packed.specs.Blocks.{all_blocks}
use Rattle.rr_packed.specs.Slots.{begins_before}
use Rattle.rr_packed.proofs.NumberLemmas.{Ascend, ascend_prefix, ascend_rest, begins_prefix, begins_rest}
use Rattle.rr_packed.proofs.blocks.Blocks.drop_first.Goals as goal

pub invariant_of-self : goal.invariant_of-self
invariant_of-self c =
    let a = c.args.self.now in
    record {
      ordered = subst Ascend (ap (λ l. drop 1 (l ++ option_to_list a.newest)) c.in-Some.ensures.items)
          (ascend_rest (all_blocks a) a.ordered);
      none_before = subst (λ l. begins_before a.dropped (keys_of l) ≡ false)
          (ap (λ l. drop 1 (l ++ option_to_list a.newest)) c.in-Some.ensures.items)
          (begins_rest a.dropped (all_blocks a) a.ordered a.none_before);
    }

pub invariant_of-self-in-None : goal.invariant_of-self-in-None
invariant_of-self-in-None c =
    let a = c.args.self.now in
    record {
      ordered = subst Ascend (sym (append-nil a.older.items) ∙ ap (λ l. l ++ []) c.in-None.ensures.items)
          (ascend_prefix a.older.items (option_to_list a.newest) a.ordered);
      none_before = subst (λ l. begins_before a.dropped (keys_of l) ≡ false)
          (sym (append-nil a.older.items) ∙ ap (λ l. l ++ []) c.in-None.ensures.items)
          (begins_prefix a.dropped a.older.items (option_to_list a.newest) a.none_before);
    }
