-- A frame is read exactly where its text is.
use Rattle.std.proofs.Common.{◌≡◌, ℕ, ◌≤◌, Bool, true, false, cond, List, [], ◌∷◌, length, Option, None, Some, Ok, refl, ap, ◌∙◌}
use Rattle.std.specs.Prelude.{nat_lt, ◌==◌, unwrap_or}
use Rattle.std.proofs.lemmas.Bool.{eqb-true, ltb-false, le-ltb}
use Rattle.rr_text.specs.Results.{unless}
use Rattle.rr_gossip.specs.declared.fault.GossipFault.TheVariants.{FrameTooLong}
use Rattle.rr_gossip.specs.declared.frame.Kind.{Kind}
use Rattle.rr_gossip.specs.declared.frame.Kind.TheVariants.{Hello, Summary, SummaryEnd, Page, PageEnd}
use Rattle.rr_gossip.specs.declared.frame.TheConstants.{MAX_FRAME_LEN}
use Rattle.rr_gossip.specs.Frame.{kind_byte, kind_at, content_text, known_kind, kind_of, content_at}
use Rattle.rr_gossip.specs.Laws.{FramesAreTheirText}

some_is : (a b : Kind) → ◌≡◌ {A = Option Kind} (Some a) (Some b) → a ≡ b
some_is a b e = ap (λ o. unwrap_or o a) e

-- a byte is that of its kind
byte_of : (byte : ℕ) (kind : Kind) → kind_at byte ≡ Some kind → byte ≡ kind_byte kind
byte_of byte kind e =
    elim (byte == 1) as (λ b. (byte == 1) ≡ b → cond b (Some Hello)
    (cond (byte == 2) (Some Summary) (cond (byte == 3) (Some SummaryEnd)
    (cond (byte == 4) (Some Page) (cond (byte == 5) (Some PageEnd) None)))) ≡ Some kind → byte ≡ kind_byte kind) [
      | true ↦ λ t f. eqb-true byte 1 t ∙ ap kind_byte (some_is Hello kind f)
      | false ↦ λ _. elim (byte == 2) as (λ b. (byte == 2) ≡ b
          → cond b (Some Summary) (cond (byte == 3) (Some SummaryEnd)
          (cond (byte == 4) (Some Page) (cond (byte == 5) (Some PageEnd) None))) ≡ Some kind → byte ≡ kind_byte kind) [
            | true ↦ λ t f. eqb-true byte 2 t ∙ ap kind_byte (some_is Summary kind f)
            | false ↦ λ _. elim (byte == 3) as (λ b. (byte == 3) ≡ b
                → cond b (Some SummaryEnd) (cond (byte == 4) (Some Page) (cond (byte == 5) (Some PageEnd) None))
                ≡ Some kind
                → byte ≡ kind_byte kind) [
                  | true ↦ λ t f. eqb-true byte 3 t ∙ ap kind_byte (some_is SummaryEnd kind f)
                  | false ↦ λ _. elim (byte == 4) as (λ b. (byte == 4) ≡ b
                      → cond b (Some Page) (cond (byte == 5) (Some PageEnd) None) ≡ Some kind → byte ≡ kind_byte kind) [
                        | true ↦ λ t f. eqb-true byte 4 t ∙ ap kind_byte (some_is Page kind f)
                        | false ↦ λ _. elim (byte == 5) as (λ b. (byte == 5) ≡ b
                            → cond b (Some PageEnd) None ≡ Some kind
                            → byte ≡ kind_byte kind) [
                              | true ↦ λ t f. eqb-true byte 5 t ∙ ap kind_byte (some_is PageEnd kind f)
                              | false ↦ λ _ f. absurd (none_some kind f)
                            ] refl
                      ] refl
                ] refl
          ] refl
    ] refl e
  where
    none_some : (k : Kind) → ◌≡◌ {A = Option Kind} None (Some k) → ⊥
    none_some k f = absurd cc

kind_again : (kind : Kind) → kind_at (kind_byte kind) ≡ Some kind
kind_again Hello = refl
kind_again Summary = refl
kind_again SummaryEnd = refl
kind_again Page = refl
kind_again PageEnd = refl

known_is : (o : Option Kind) (rest : List ℕ) (kind : Kind) (body : List ℕ) → known_kind o rest ≡ Ok (kind, body)
    → (o ≡ Some kind) × (rest ≡ body)
known_is None rest kind body e = absurd cc
known_is (Some k) rest kind body e =
    let same : (k, rest) ≡ (kind, body) = cc in
    (ap (λ (p : Kind × List ℕ). Some p.0) same, ap (λ (p : Kind × List ℕ). p.1) same)

content_is : (content : List ℕ) (kind : Kind) (body : List ℕ) → kind_of content ≡ Ok (kind, body)
    → content ≡ content_text kind body
content_is [] kind body e = absurd cc
content_is (byte ∷ rest) kind body e =
    let k = known_is (kind_at byte) rest kind body e in
    λ i. byte_of byte kind k.0 i ∷ k.1 i

pub frames_are_their_text : FramesAreTheirText
unfolding content_at
frames_are_their_text content kind body = (
  λ e. by_len (nat_lt MAX_FRAME_LEN (length content)) refl e,
  λ p. ap (λ b. unless FrameTooLong b (kind_of content)) (le-ltb MAX_FRAME_LEN (length content) p.1) ∙ ap kind_of p.0
      ∙ ap (λ o. known_kind o body) (kind_again kind),
)
  where
    by_len : (b : Bool) → nat_lt MAX_FRAME_LEN (length content) ≡ b
        → unless FrameTooLong b (kind_of content) ≡ Ok (kind, body)
        → (content ≡ content_text kind body) × (length content ≤ MAX_FRAME_LEN)
    by_len true t e = absurd cc
    by_len false t e = (content_is content kind body e, ltb-false MAX_FRAME_LEN (length content) t)
