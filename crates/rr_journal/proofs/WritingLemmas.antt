-- A record that is written in three pieces.
use Rattle.std.proofs.Common.{◌≡◌, ℕ, List, [], ◌++◌, Option, sym, subst, append-nil}
use Rattle.std.specs.Io.KnownBytes.{Appends}
use Rattle.std.proofs.KnownBytes.{Appends-trans}
use Rattle.rr_io.specs.Stream.{AppendsPrefix}
use Rattle.rr_io.proofs.StreamLemmas.{prefix_after, prefix_before}
use Rattle.rr_journal.specs.Digest.{undigested_text, link}
use Rattle.rr_journal.specs.Text.{record_text}

module _ (first second third : List ℕ) (a b c d : Option (List ℕ)) where
  pub three_whole : Appends a b first → Appends b c second → Appends c d third → Appends a d ((first ++ second) ++ third)
  three_whole p q r = Appends-trans a c d (first ++ second) third (Appends-trans a b c first second p q) r

  pub three_first : AppendsPrefix a b first → AppendsPrefix a b ((first ++ second) ++ third)
  three_first p = prefix_before a b (first ++ second) third (prefix_before a b first second p)

  pub three_second : Appends a b first → AppendsPrefix b c second → AppendsPrefix a c ((first ++ second) ++ third)
  three_second p q = prefix_before a c (first ++ second) third (prefix_after a b c first second p q)

  pub three_third : Appends a b first → Appends b c second → AppendsPrefix c d third
      → AppendsPrefix a d ((first ++ second) ++ third)
  three_third p q r = prefix_after a c d (first ++ second) third (Appends-trans a b c first second p q) r

module _ (before head body own : List ℕ) (kind : ℕ) (head_is : head ++ body ≡ undigested_text kind body)
    (own_is : own ≡ link before kind body) (a b c d : Option (List ℕ)) where
  abbrev text : List ℕ
  text = record_text before (record { kind = kind; body = body })

  text_is : (head ++ body) ++ own ≡ text
  unfolding record_text
  text_is = λ i. head_is i ++ own_is i

  pub record_first : AppendsPrefix a b head → AppendsPrefix a b text
  record_first p = subst (AppendsPrefix a b) text_is (three_first head body own a b c d p)

  pub record_second : Appends a b head → AppendsPrefix b c body → AppendsPrefix a c text
  record_second p q = subst (AppendsPrefix a c) text_is (three_second head body own a b c d p q)

  pub record_third : Appends a b head → Appends b c body → AppendsPrefix c d own → AppendsPrefix a d text
  record_third p q r = subst (AppendsPrefix a d) text_is (three_third head body own a b c d p q r)

  pub record_whole : Appends a b head → Appends b c body → Appends c d own → Appends a d text
  record_whole p q r = subst (Appends a d) text_is (three_whole head body own a b c d p q r)

  pub record_prefix : Appends a b head → Appends b c body → Appends c d own → AppendsPrefix a d text
  record_prefix p q r = (text, [], sym (append-nil text), record_whole p q r)
