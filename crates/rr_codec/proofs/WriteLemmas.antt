-- Parts added one after the other are added together.
use Rattle.std.proofs.Common.{◌≡◌, ℕ, List, [], ◌++◌, append_assoc}
use Rattle.std.proofs.lemmas.List.{append-nil}

pub twelve_added : (o a b d e f g h i j k l m : List ℕ)
    → ((((((((((((o ++ a) ++ b) ++ d) ++ e) ++ f) ++ g) ++ h) ++ i) ++ j) ++ k) ++ l) ++ m)
    ≡ o ++ (a ++ (b ++ (d ++ (e ++ (f ++ (g ++ (h ++ (i ++ (j ++ (k ++ (l ++ m)))))))))))
twelve_added o a b d e f g h i j k l m = simp append_assoc

pub seven_added : (a b c d e f g h : List ℕ)
    → (((((((a ++ b) ++ c) ++ d) ++ e) ++ f) ++ g) ++ h)
    ≡ a ++ (b ++ (c ++ (d ++ (e ++ (f ++ (g ++ (h ++ [])))))))
seven_added a b c d e f g h = simp (append_assoc, append-nil)
