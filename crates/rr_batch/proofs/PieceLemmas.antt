-- What is answered to the pieces of a connection.
use Rattle.std.proofs.Common.{◌≡◌, ℕ, List, [], ◌++◌, take, ap, ◌∙◌}
use Rattle.rr_node.proofs.LineStreamLemmas.{take_again}

-- the first answers, which none stood before
pub kept_first : (limit : ℕ) (none answers text : List ℕ) → none ≡ [] → answers ≡ take limit (none ++ text)
    → answers ≡ take limit text
kept_first limit none answers text empty is = is ∙ ap (λ (l : List ℕ). take limit (l ++ text)) empty

-- and more behind them
pub kept_both : (limit : ℕ) (none answers last text more : List ℕ) → none ≡ [] → answers ≡ take limit (none ++ text)
    → last ≡ take limit (answers ++ more) → last ≡ take limit (text ++ more)
kept_both limit none answers last text more empty first both =
    both ∙ ap (λ (l : List ℕ). take limit (l ++ more)) (kept_first limit none answers text empty first)
    ∙ take_again limit text more
