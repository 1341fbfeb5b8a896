-- What a list of changes makes of a copy.
use Rattle.std.proofs.Common.{◌≡◌, ℕ, true, List, [], ◌∷◌, ◌++◌, fold, refl, ap, sym, ◌∙◌, append_assoc, append-nil}
use Rattle.std.proofs.lemmas.List.Sums.{fold-append}
use Rattle.rr_cells.specs.declared.op.Op.{Op}
use Rattle.rr_cells.specs.ReplicaState.{ReplicaState}
use Rattle.rr_cells.specs.Operations.{step}
use Rattle.rr_cells.proofs.OperationsLemmas.{step-origin}
use Rattle.rr_desk.specs.declared.change.Change.{Change}
use Rattle.rr_desk.specs.declared.change.Change.TheVariants.{Put, Join, AddKey, Edition}
use Rattle.rr_desk.specs.declared.shown.CopyState.{CopyState}
use Rattle.rr_desk.specs.Changes.{Names, copy_after, copy_names, prefix_after, prefix_with, names_after, names_at, ops_in, ops_of}
use Rattle.rr_desk.specs.Editions.{BookPrefix}

pub steps-origin : (ops : List Op) (h : ReplicaState) → (fold step h ops).origin ≡ h.origin
steps-origin [] h = refl
steps-origin (op ∷ ops) h = steps-origin ops (step h op) ∙ step-origin h op

-- ---- one change

held-one : (x : CopyState) (c : Change) → (copy_after x c).held ≡ fold step x.held (ops_of (copy_names x) c)
held-one x (Put p) = refl
held-one x (Join j) = refl
held-one x (AddKey key) = refl
held-one x (Edition m) = refl

names-one : (x : CopyState) (c : Change) → copy_names (copy_after x c) ≡ names_after (copy_names x) c
names-one x (Put p) = λ i. record { origin = steps-origin (ops_of (copy_names x) (Put p)) x.held i; keys = x.keys }
names-one x (Join j) = λ i. record { origin = steps-origin (ops_of (copy_names x) (Join j)) x.held i; keys = x.keys }
names-one x (AddKey key) = refl
names-one x (Edition m) = refl

started-one : (x : CopyState) (c : Change) → x.started ≡ true → (copy_after x c).started ≡ true
started-one x (Put p) h = h
started-one x (Join j) h = h
started-one x (AddKey key) h = h
started-one x (Edition m) h = refl

prefix-one : (x : CopyState) (c : Change) → (copy_after x c).prefix ≡ prefix_with x.prefix c
prefix-one x (Put p) = refl
prefix-one x (Join j) = refl
prefix-one x (AddKey key) = refl
prefix-one x (Edition m) = refl

-- ---- all changes

pub changes-held : (cs : List Change) (x : CopyState)
    → (fold copy_after x cs).held ≡ fold step x.held (ops_in (copy_names x) cs)
changes-held [] x = refl
changes-held (c ∷ cs) x =
    changes-held cs (copy_after x c)
    ∙ (λ i. fold step (held-one x c i) (ops_in (names-one x c i) cs))
    ∙ sym (fold-append step x.held (ops_of (copy_names x) c) (ops_in (names_after (copy_names x) c) cs))

pub changes-names : (cs : List Change) (x : CopyState)
    → copy_names (fold copy_after x cs) ≡ names_at (copy_names x) cs
changes-names [] x = refl
changes-names (c ∷ cs) x = changes-names cs (copy_after x c) ∙ ap (λ (n : Names). names_at n cs) (names-one x c)

pub changes-started : (cs : List Change) (x : CopyState) → x.started ≡ true → (fold copy_after x cs).started ≡ true
changes-started [] x h = h
changes-started (c ∷ cs) x h = changes-started cs (copy_after x c) (started-one x c h)

pub changes-prefix : (cs : List Change) (x : CopyState) → (fold copy_after x cs).prefix ≡ prefix_after x.prefix cs
changes-prefix [] x = refl
changes-prefix (c ∷ cs) x = changes-prefix cs (copy_after x c)
    ∙ ap (λ (s : BookPrefix). prefix_after s cs) (prefix-one x c)

-- ---- one change more

pub ops_in-more : (n : Names) (cs : List Change) (c : Change)
    → ops_in n (cs ++ c ∷ []) ≡ ops_in n cs ++ ops_of (names_at n cs) c
ops_in-more n [] c = append-nil (ops_of n c)
ops_in-more n (d ∷ cs) c =
    ap (λ (l : List Op). ops_of n d ++ l) (ops_in-more (names_after n d) cs c)
    ∙ sym (append_assoc (ops_of n d) (ops_in (names_after n d) cs) (ops_of (names_at (names_after n d) cs) c))

pub names_at-more : (n : Names) (cs : List Change) (c : Change)
    → names_at n (cs ++ c ∷ []) ≡ names_after (names_at n cs) c
names_at-more n [] c = refl
names_at-more n (d ∷ cs) c = names_at-more (names_after n d) cs c

pub prefix_after-more : (s : BookPrefix) (cs : List Change) (c : Change)
    → prefix_after s (cs ++ c ∷ []) ≡ prefix_with (prefix_after s cs) c
prefix_after-more s [] c = refl
prefix_after-more s (d ∷ cs) c = prefix_after-more (prefix_with s d) cs c

-- the end of an edition isn't an operation
pub ops_in-end_edition : (n : Names) (cs : List Change) (m : BookPrefix)
    → ops_in n (cs ++ Edition m ∷ []) ≡ ops_in n cs
ops_in-end_edition n cs m = ops_in-more n cs (Edition m) ∙ append-nil (ops_in n cs)

-- nor is a key that is added
pub ops_in-add_key : (n : Names) (cs : List Change) (key : List ℕ) → ops_in n (cs ++ AddKey key ∷ []) ≡ ops_in n cs
ops_in-add_key n cs key = ops_in-more n cs (AddKey key) ∙ append-nil (ops_in n cs)

-- whose origin all names have
origin-one : (n : Names) (c : Change) → (names_after n c).origin ≡ n.origin
origin-one n (Put p) = refl
origin-one n (Join j) = refl
origin-one n (AddKey key) = refl
origin-one n (Edition m) = refl

pub names_at-origin : (n : Names) (cs : List Change) → (names_at n cs).origin ≡ n.origin
names_at-origin n [] = refl
names_at-origin n (c ∷ cs) = names_at-origin (names_after n c) cs ∙ origin-one n c
