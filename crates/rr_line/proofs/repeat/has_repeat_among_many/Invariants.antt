use Rattle.std.proofs.Common.{◌≡◌, length, map, take}
use Rattle.rr_text.specs.declared.limits.TheConstants.{MAX_FIELDS}
use Rattle.rr_line.proofs.repeat.has_repeat_among_many.Given as goal

-- the keys so far are in prefix
abbrev pub invariant-loop-entry : goal.invariant-loop-entry
invariant-loop-entry g l = record {
  long : length l.keys ≡ MAX_FIELDS;
  counted : l.count ≡ l.entry-index;
  prefix : map (λ key. key.now) (take l.count l.keys) ≡ map g.T.Keyed.key_of (take l.entry-index l.entries);
}
