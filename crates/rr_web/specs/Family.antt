-- Families of numbers, in the text form of Prometheus: https://prometheus.io/docs/instrumenting/exposition_formats/
use Rattle.std.specs.Prelude.{ℕ, ◌/◌, ◌%◌, ◌==◌, List, [], ◌∷◌, ◌++◌, codes, decimal, map, if◌then◌else◌}
use Rattle.std.specs.Char.{digit_char}
use Rattle.std.specs.List.{flat_map}
use Rattle.rr_text.specs.declared.bytes.TheConstants.{BACKSLASH, COMMA, LINE_FEED, SPACE}
use Rattle.rr_web.specs.declared.family.Amount.{Amount}
use Rattle.rr_web.specs.declared.family.Amount.TheVariants.{Whole, Thousandths}
use Rattle.rr_web.specs.declared.family.Family.{Family}
use Rattle.rr_web.specs.declared.family.FamilyKind.{FamilyKind}
use Rattle.rr_web.specs.declared.family.FamilyKind.TheVariants.{Counter, Gauge}
use Rattle.rr_web.specs.declared.family.Label.{Label}
use Rattle.rr_web.specs.declared.family.Sample.{Sample}

-- a label by its name and its value
abbrev pub label_view : Label → List ℕ × List ℕ
label_view l = (l.name.now, l.value.items)

-- a sample by its bytes
pub record SampleView : Type 0 where
  pub labels : List (List ℕ × List ℕ)
  pub amount : Amount

abbrev pub sample_view : Sample → SampleView
sample_view s = record { labels = map label_view s.labels.items; amount = s.amount }

-- a family by its bytes
pub record FamilyView : Type 0 where
  pub name : List ℕ
  pub help : List ℕ
  pub kind : FamilyKind
  pub samples : List SampleView

abbrev pub family_view : Family → FamilyView
family_view f = record {
  name = f.name.now;
  help = f.help.now;
  kind = f.kind;
  samples = map sample_view f.samples.items;
}

abbrev pub kind_name : FamilyKind → List ℕ
kind_name Counter = codes "counter"
kind_name Gauge = codes "gauge"

-- a byte of a help: a backslash and a line feed are escaped
abbrev pub help_byte : ℕ → List ℕ
help_byte byte =
    if byte == BACKSLASH then codes "\\\\" else (if byte == LINE_FEED then codes "\\n" else byte ∷ [])

-- a byte of the value of a label: a quote is escaped too
abbrev pub label_byte : ℕ → List ℕ
label_byte byte = if byte == 34 then codes "\\\"" else help_byte byte

abbrev pub label_text : List ℕ × List ℕ → List ℕ
label_text label = label.0 ++ codes "=\"" ++ flat_map label_byte label.1 ++ codes "\""

-- a label that follows another
abbrev pub next_label_text : List ℕ × List ℕ → List ℕ
next_label_text label = COMMA ∷ label_text label

abbrev pub labels_text : List (List ℕ × List ℕ) → List ℕ
labels_text [] = []
labels_text (label ∷ labels) = codes "{" ++ label_text label ++ flat_map next_label_text labels ++ codes "}"

-- thousandths, with three digits after the point
abbrev pub thousandths_text : ℕ → List ℕ
thousandths_text n =
    decimal (n / 1000) ++ codes "." ++ digit_char (n / 100 % 10) ∷ digit_char (n / 10 % 10) ∷ digit_char (n % 10) ∷ []

abbrev pub amount_text : Amount → List ℕ
amount_text (Whole n) = decimal n
amount_text (Thousandths n) = thousandths_text n

-- the line of a sample of a family
abbrev pub sample_text : List ℕ → SampleView → List ℕ
sample_text name s = name ++ labels_text s.labels ++ SPACE ∷ amount_text s.amount ++ LINE_FEED ∷ []

-- the lines that say what a family is
abbrev pub head_text : FamilyView → List ℕ
head_text f =
    codes "# HELP " ++ f.name ++ SPACE ∷ flat_map help_byte f.help
    ++ codes "\n# TYPE " ++ f.name ++ SPACE ∷ kind_name f.kind ++ LINE_FEED ∷ []

-- a family: what it is, then a line for each sample
abbrev pub family_text : FamilyView → List ℕ
family_text f = head_text f ++ flat_map (sample_text f.name) f.samples
