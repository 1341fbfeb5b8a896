-- Parts added one after the other are added together.
use Rattle.std.proofs.Common.{◌≡◌, ℕ, List, ◌++◌, append_assoc}

pub three_added : (o a b c : List ℕ) → ((o ++ a) ++ b) ++ c ≡ o ++ (a ++ b ++ c)
three_added o a b c = simp append_assoc

pub five_added : (o a b c d e : List ℕ) → ((((o ++ a) ++ b) ++ c) ++ d) ++ e ≡ o ++ (a ++ b ++ c ++ d ++ e)
five_added o a b c d e = simp append_assoc
