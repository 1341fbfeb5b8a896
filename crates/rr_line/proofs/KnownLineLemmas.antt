-- A field more is a sample more.
use Rattle.std.proofs.Common.{◌≡◌, ℕ, ℤ, Option, None, ◌<◌, true, false, ltb, List, [], ◌∷◌, ◌++◌, length, Some, Ok, refl, sym, ap, ap₂, subst, ◌∙◌, arith}
use Rattle.std.proofs.lemmas.Bool.{le-ltb}
use Rattle.std.proofs.lemmas.Cmp.{nat_list_cmp_total}
use Rattle.std.proofs.lemmas.List.{append-nil, append_assoc, length-map, map-append}
use Rattle.std.proofs.lemmas.List.Folds.{list_any-append}
use Rattle.std.specs.Prelude.{IfSome, OnSome}
use Rattle.rr_line.specs.Reading.{ending_at}
use Rattle.rr_line.specs.Part.{skip_spaces}
use Rattle.rr_line.specs.declared.precision.Precision.{Precision}
use Rattle.std.specs.Ordering.{is_lt}
use Rattle.rr_text.specs.Bytes.{bytes_cmp, begins}
use Rattle.rr_text.specs.declared.bytes.TheConstants.{COMMA, EQUALS}
use Rattle.rr_text.specs.declared.limits.TheConstants.{MAX_KEY_TEXT, MAX_FIELDS}
use Rattle.rr_key.specs.declared.class.Class.TheVariants.{Other}
use Rattle.rr_key.specs.Series.{IsKeyText}
use Rattle.rr_key.specs.Unit.{escape}
use Rattle.rr_point.specs.Key.{key_text}
use Rattle.rr_line.specs.Field.{Field, LeadTo, IsField, MayComeAfter}
use Rattle.rr_line.specs.Beginning.{IsCut, HasFirst, BeginsWith}
use Rattle.rr_line.specs.Known.{SaysSamples, Sample}
use Rattle.rr_line.specs.Value.{IsValue}
use Rattle.rr_line.proofs.KnownLemmas.{key_of_field, begins_with_first, says_samples}
use Rattle.rr_line.proofs.ReadPointLemmas.{point_of}
use Rattle.rr_line.proofs.WrittenLemmas.{is_written, name_written, IsWritten, prefix_of, key_split, less, less_differs, has_key-more}

-- one field more leads to what follows its comma
lead_push : (before : List Field) (text : List ℕ) (fields : List Field) (last : Field) (last_text next : List ℕ)
    → LeadTo before text fields last_text
    → IsField last_text last (COMMA ∷ next) → MayComeAfter (before ++ fields) last
    → LeadTo before text (fields ++ last ∷ []) next
lead_push before text [] last last_text next same is may =
    let here = subst (λ (t : List ℕ). IsField t last (COMMA ∷ next)) (sym same) is in
    let may_here = subst (λ (fs : List Field). MayComeAfter fs last) (append-nil before) may in
    (next, here, may_here, refl)
lead_push before text (field ∷ fields) last last_text next (after, first, may_first, later) is may =
    let regrouped : before ++ field ∷ fields ≡ (before ++ field ∷ []) ++ fields = simp append_assoc in
    let may_later = subst (λ (fs : List Field). MayComeAfter fs last) regrouped may in
    (after, first, may_first, lead_push (before ++ field ∷ []) after fields last last_text next later is may_later)

-- what is read of a further field: its key is above the last one
pub record IsNext (field rest key : List ℕ) (k : IsWritten key) (value : ℤ) (left : List ℕ) : Type 0 where
  pub value_text : List ℕ
  pub whole : rest ≡ COMMA ∷ (escape Other k.field ++ EQUALS ∷ value_text)
  pub is_value : IsValue value_text value left
  pub above : is_lt (bytes_cmp field (escape Other k.field)) ≡ true

pub begins_with_next : (line : List ℕ) (samples : List Sample) (prefix field rest key : List ℕ) (k : IsWritten key)
    (value : ℤ) (left : List ℕ)
    → BeginsWith line samples prefix field rest → prefix ≡ prefix_of key k → length samples < MAX_FIELDS
    → IsNext field rest key k value left
    → BeginsWith line (samples ++ (key, value) ∷ []) (prefix_of key k) (escape Other k.field) left
begins_with_next line samples prefix field rest key k value left h same few next =
    let name = escape Other k.field in
    let text = name ++ EQUALS ∷ next.value_text in
    let p = point_of h.p.measurement h.p.tags (h.p.fields ++ (name, value) ∷ []) h.p.time in
    let prefix_is : prefix_of key k ≡ prefix = sym same in
    let kept : key_text p name ≡ key =
    key_of_field p (prefix_of key k) k.field key (sym (prefix_is ∙ h.prefix_is)) (key_split key k) in
    let short : ltb MAX_KEY_TEXT (length (key_text p name)) ≡ false =
    le-ltb _ _ (omega (arith, ap length kept, k.short)) in
    let len = length-map {B = Sample} h.p.fields (λ (f : Field). (key_text h.p f.0, f.1)) in
    let ends = subst (λ (r : List ℕ). IsField h.last_text h.last r) next.whole h.ends in
    record {
      p = p;
      fields_text = h.fields_text;
      before = h.p.fields;
      last = (name, value);
      last_text = text;
      leads = h.leads;
      leading = subst (λ (fs : List Field). LeadTo [] h.fields_text fs text) (sym h.all)
          (lead_push [] h.fields_text h.before h.last h.last_text text h.leading ends h.new);
      ends = record {
        value_text = next.value_text;
        key = name_written Other k.field (EQUALS ∷ next.value_text) k.field_named refl;
        value = next.is_value;
      };
      new = record { few = omega (arith, few, ap length h.are, len); other = h.rising name next.above };
      all = refl;
      short = list_any-append (λ (f : Field). ltb MAX_KEY_TEXT (length (key_text p f.0))) h.p.fields
          ((name, value) ∷ []) ∙ rw (h.short, short) refl;
      are = map-append (λ (f : Field). (key_text p f.0, f.1)) h.p.fields ((name, value) ∷ [])
          ∙ ap₂ (λ (ss : List Sample) (t : List ℕ). ss ++ (t, value) ∷ []) h.are kept;
      prefix_is = prefix_is ∙ h.prefix_is;
      field_is = refl;
      rising = λ other lt.
          let far : is_lt (bytes_cmp field other) ≡ true =
          ap is_lt (nat_list_cmp_total.trans field name other (less _ next.above) (less _ lt)) in
          has_key-more h.p.fields (name, value) other (h.rising other far) (less_differs _ lt);
    }

-- what is read of the first field
pub first_read : (line key : List ℕ) (value : ℤ) (prefix field rest : List ℕ) → IsKeyText key → IsCut key prefix field
    → HasFirst line key value rest
    → BeginsWith line ((key, value) ∷ []) prefix field rest
first_read line key value prefix field rest is cut first =
    let k = is_written key is in
    let parts = cut (prefix_of key k) k.field (key_split key k) in
    rw (parts.0, parts.1) (begins_with_first line key value rest k first)

-- what is read of a further one
pub next_read : (line : List ℕ) (samples : List Sample) (prefix field rest key : List ℕ) (value : ℤ)
    (after last value_text left : List ℕ)
    → IsKeyText key → IsCut key after last → BeginsWith line samples prefix field rest → after ≡ prefix
    → length samples < MAX_FIELDS
    → is_lt (bytes_cmp field last) ≡ true → rest ≡ COMMA ∷ (last ++ EQUALS ∷ value_text) → IsValue value_text value left
    → BeginsWith line (samples ++ (key, value) ∷ []) after last left
next_read line samples prefix field rest key value after last value_text left is cut read same few above whole is_value
    =
    let k = is_written key is in
    let parts = cut (prefix_of key k) k.field (key_split key k) in
    let next : IsNext field rest key k value left = record {
      value_text = value_text;
      whole = whole ∙ ap (λ (t : List ℕ). COMMA ∷ (t ++ EQUALS ∷ value_text)) parts.1;
      is_value = is_value;
      above = ap (λ (t : List ℕ). is_lt (bytes_cmp field t)) (sym parts.1) ∙ above;
    } in
    rw (parts.0, parts.1)
    (begins_with_next line samples prefix field rest key k value left read (sym same ∙ parts.0) few next)

-- the time after the last one
pub says_at_end : (precision : Precision) (line : List ℕ) (samples : List Sample) (prefix field rest : List ℕ)
    (found : Option (Option ℤ)) → BeginsWith line samples prefix field rest
    → OnSome found (begins COMMA rest ≡ false) → IfSome found (λ time. ending_at precision (skip_spaces rest) ≡ Ok time)
    → IfSome found (λ time. SaysSamples precision line samples time)
says_at_end precision line samples prefix field rest None read ended at = tt
says_at_end precision line samples prefix field rest (Some time) read ended at =
    says_samples precision line samples prefix field rest time read ended at
