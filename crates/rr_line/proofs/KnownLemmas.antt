-- What was read by key texts is what the line says.
use Rattle.std.proofs.Common.{◌≡◌, ℕ, ℤ, true, false, ltb, List, [], ◌∷◌, ◌++◌, length, Option, None, Ok, refl, sym, ap, ap₂, subst, ◌∙◌, arith}
use Rattle.std.proofs.lemmas.Bool.{le-ltb}
use Rattle.std.specs.Ordering.{is_lt}
use Rattle.std.proofs.lemmas.List.{append_assoc}
use Rattle.rr_text.specs.Bytes.{begins, bytes_cmp}
use Rattle.rr_text.specs.declared.bytes.TheConstants.{COMMA, EQUALS, SPACE}
use Rattle.rr_text.specs.declared.limits.TheConstants.{MAX_KEY_TEXT}
use Rattle.rr_key.specs.declared.class.Class.TheVariants.{Measurement, Other}
use Rattle.rr_key.specs.Series.{IsKeyText}
use Rattle.rr_key.specs.Unit.{escape, unescape}
use Rattle.rr_key.proofs.EscapeLemmas.{unescape-escape}
use Rattle.rr_point.specs.Prefix.{prefix_text}
use Rattle.rr_point.specs.Key.{key_text}
use Rattle.rr_point.specs.Point.{PointView}
use Rattle.rr_line.specs.declared.precision.Precision.{Precision}
use Rattle.rr_line.specs.Beginning.{HasFirst, BeginsWith}
use Rattle.rr_line.specs.Known.{Sample, SaysSamples}
use Rattle.rr_line.specs.Line.{point}
use Rattle.rr_line.specs.Part.{skip_spaces, content}
use Rattle.rr_line.specs.Reading.{ending_at}
use Rattle.rr_line.specs.Tag.{has_key}
use Rattle.rr_line.specs.Time.{IsEnding}
use Rattle.rr_line.proofs.AgreeLemmas.{Holds}
use Rattle.rr_line.proofs.LineLemmas.{line_only}
use Rattle.rr_line.proofs.ReadPointLemmas.{point_of}
use Rattle.rr_line.proofs.TimeLemmas.{ending_agrees}
use Rattle.rr_line.proofs.WrittenLemmas.{IsWritten, written, name_written, is_written, prefix_of, key_split, less_differs, prefix_kept, leads_to_field}

-- a line whose fields end there says these samples
pub says_samples : (precision : Precision) (line : List ℕ) (samples : List Sample) (prefix field rest : List ℕ)
    (time : Option ℤ) → BeginsWith line samples prefix field rest
    → begins COMMA rest ≡ false → ending_at precision (skip_spaces rest) ≡ Ok time
    → SaysSamples precision line samples time
says_samples precision line samples prefix field rest time h ended at =
    let p = point_of h.p.measurement h.p.tags h.p.fields time in
    let agrees = ending_agrees precision rest in
    let is_ending : IsEnding precision rest time = subst (Holds (IsEnding precision rest) _) at agrees.holds in
    record {
      p = p;
      read = line_only precision line (Ok (point p)) (record {
        parts = record {
          fields_text = h.fields_text;
          ending = rest;
          prefix = h.leads;
          are_fields = record {
            prefix = h.before;
            last = h.last;
            last_text = h.last_text;
            leading = h.leading;
            ends = h.ends;
            new = h.new;
            ended = ended;
            all = h.all;
          };
          is_ending = is_ending;
        };
        short = h.short;
      });
      are = h.are;
      when = refl;
    }

-- the key text of a field, by the prefix that the key texts of a point have
pub key_of_field : (p : PointView) (prefix field key : List ℕ) → prefix_text p.measurement p.tags ≡ prefix
    → key ≡ prefix ++ SPACE ∷ escape Other field
    → key_text p (escape Other field) ≡ key
key_of_field p prefix field key same whole =
    let name = unescape Other (escape Other field) in
    let regrouped : key_text p (escape Other field) ≡ prefix_text p.measurement p.tags ++ SPACE ∷ escape Other name =
    simp append_assoc in
    regrouped ∙ ap₂ (λ (t name : List ℕ). t ++ SPACE ∷ escape Other name) same (unescape-escape Other field) ∙ sym whole

-- the key of one field, and one above it
above_one : (field : List ℕ) (value : ℤ) (key : List ℕ) → is_lt (bytes_cmp field key) ≡ true
    → has_key ((field, value) ∷ []) key ≡ false
above_one field value key lt = rw (less_differs (bytes_cmp field key) lt) refl

-- a line that begins with a key text and an equals begins with a sample of the series
pub begins_with_first : (line key : List ℕ) (value : ℤ) (rest : List ℕ) (k : IsWritten key)
    → HasFirst line key value rest
    → BeginsWith line ((key, value) ∷ []) (prefix_of key k) (escape Other k.field) rest
begins_with_first line key value rest k h =
    let field = escape Other k.field in
    let p = point_of (escape Measurement k.measurement) (written k.tags) ((field, value) ∷ []) None in
    let kept : key_text p field ≡ key =
    key_of_field p (prefix_of key k) k.field key (prefix_kept key k) (key_split key k) in
    let short : ltb MAX_KEY_TEXT (length (key_text p field)) ≡ false =
    le-ltb _ _ (omega (arith, ap length kept, k.short)) in
    record {
      p = p;
      fields_text = field ++ EQUALS ∷ h.value_text;
      before = [];
      last = (field, value);
      last_text = field ++ EQUALS ∷ h.value_text;
      leads = leads_to_field key (content line) h.value_text k h.present h.whole;
      leading = refl;
      ends = record {
        value_text = h.value_text;
        key = name_written Other k.field (EQUALS ∷ h.value_text) k.field_named refl;
        value = h.is_value;
      };
      new = record { few = omega arith; other = refl };
      all = refl;
      short = rw short refl;
      are = ap (λ (t : List ℕ). (t, value) ∷ []) kept;
      prefix_is = sym (prefix_kept key k);
      field_is = refl;
      rising = above_one field value;
    }

-- a line that says the one sample of its first field
pub says_first : (precision : Precision) (line key : List ℕ) (value : ℤ) (rest : List ℕ) (time : Option ℤ)
    → IsKeyText key → HasFirst line key value rest
    → begins COMMA rest ≡ false → ending_at precision (skip_spaces rest) ≡ Ok time
    → SaysSamples precision line ((key, value) ∷ []) time
says_first precision line key value rest time is h ended at =
    let k = is_written key is in
    says_samples precision line ((key, value) ∷ []) (prefix_of key k) (escape Other k.field) rest time
    (begins_with_first line key value rest k h) ended at
