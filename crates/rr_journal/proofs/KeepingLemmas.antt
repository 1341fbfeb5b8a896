-- Records that are appended to a journal.
use Rattle.std.proofs.Common.{◌≡◌, ℕ, List, [], ◌∷◌, ◌++◌, Option, None, Some, refl, sym, ap, ◌∙◌, append_assoc, append-nil, Result, Ok, Err, OnOk}
use Rattle.std.specs.Io.KnownBytes.{append_known}
use Rattle.rr_journal.specs.Digest.{undigested_text, link}
use Rattle.rr_journal.specs.Text.{Raw, after, record_text, records_text, chain}

pub append_none : (k : Option (List ℕ)) → append_known k [] ≡ k
append_none None = refl
append_none (Some x) = ap (λ (l : List ℕ). Some l) (append-nil x)

pub append_twice : (k : Option (List ℕ)) (a b : List ℕ)
    → append_known (append_known k a) b ≡ append_known k (a ++ b)
append_twice None a b = refl
append_twice (Some x) a b = ap (λ (l : List ℕ). Some l) (append_assoc x a b)

-- a record in three pieces
pub three : (k one two all : Option (List ℕ)) (before head body own : List ℕ) (kind : ℕ)
    → head ++ body ≡ undigested_text kind body → own ≡ link before kind body
    → one ≡ append_known k head → two ≡ append_known one body → all ≡ append_known two own
    → all ≡ append_known k (record_text before (record { kind = kind; body = body }))
unfolding record_text
three k one two all before head body own kind head_is own_is p q r =
    r ∙ ap (λ (o : Option (List ℕ)). append_known o own) (q ∙ ap (λ (o : Option (List ℕ)). append_known o body) p
    ∙ append_twice k head body)
    ∙ append_twice k (head ++ body) own
    ∙ (λ i. append_known k (head_is i ++ own_is i))

-- the records that are left go on after those that were written, to the text of all of them and to its digest
pub record GoesOn (now : Option (List ℕ)) (digest : List ℕ) (left : List Raw) (text : Option (List ℕ)) (end : List ℕ)
    : Type 0 where
  pub text_is : append_known now (records_text digest left) ≡ text
  pub end_is : chain digest left ≡ end

pub one_more : (now new : Option (List ℕ)) (digest next : List ℕ) (r : Raw) (left : List Raw)
    (text : Option (List ℕ)) (end : List ℕ) → GoesOn now digest (r ∷ left) text end
    → new ≡ append_known now (record_text digest r) → next ≡ after digest r → GoesOn new next left text end
unfolding records_text
one_more now new digest next r left text end g added is = record {
  text_is = (λ i. append_known (added i) (records_text (is i) left))
      ∙ append_twice now (record_text digest r) (records_text (after digest r) left)
      ∙ g.text_is;
  end_is = ap (λ (d : List ℕ). chain d left) is ∙ g.end_is;
}

pub none_left : (now : Option (List ℕ)) (digest : List ℕ) (text : Option (List ℕ)) (end : List ℕ)
    → GoesOn now digest [] text end → now ≡ text
unfolding records_text
none_left now digest text end g = sym (append_none now) ∙ g.text_is

pub map_ok : {A E X Y : Type 0} (r : Result A E) → OnOk r X → (X → Y) → OnOk r Y
map_ok (Ok x) h f = f h
map_ok (Err e) h f = tt

-- ---- the records between two syncs

-- a witness, and then the records
module _ (k one all : Option (List ℕ)) (digest next : List ℕ) (witness : Raw) (rs : List Raw)
    (moved : next ≡ after digest witness) where
  pub batch_text : one ≡ append_known k (record_text digest witness) → all ≡ append_known one (records_text next rs)
      → all ≡ append_known k (records_text digest (witness ∷ rs))
  unfolding records_text
  batch_text p q =
      q ∙ (λ i. append_known (p i) (records_text (moved i) rs))
      ∙ append_twice k (record_text digest witness) (records_text (after digest witness) rs)
