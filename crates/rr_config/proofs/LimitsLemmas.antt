-- What holds of a configuration, read key by key.
use Rattle.std.proofs.Common.{◌≡◌, [], Bool, true, false, not, ◌&&◌, ℕ, ◌≤◌, List, length, Option, Some, None, Result, Ok, Err, refl, subst}
use Rattle.std.specs.Prelude.{IfSome, nat_le, codes}
use Rattle.std.proofs.lemmas.Bool.{leb-true}
use Rattle.toml.specs.Data.{Data, Members, get_member}
use Rattle.rr_text.specs.Results.{◌>>=◌, unless}
use Rattle.rr_text.specs.declared.limits.TheConstants.{MAX_IDLE, MAX_READERS}
use Rattle.rr_document.specs.Document.{layout_in}
use Rattle.rr_config.specs.declared.fault.ConfigFault.{ConfigFault}
use Rattle.rr_config.specs.declared.fault.ConfigFault.TheVariants.{BadCount}
use Rattle.rr_config.specs.Addresses.{AddressesView, addresses_in}
use Rattle.rr_config.specs.Config.{ConfigView, config_in}
use Rattle.rr_config.specs.Document.{of_schema}
use Rattle.rr_config.specs.Habits.{HabitsView, habits_in}
use Rattle.rr_config.specs.Intake.{intake_in}
use Rattle.rr_config.specs.Laws.{IsWait, IsWithinLimits}
use Rattle.rr_config.specs.Values.{count_of, flag_of, if_there, needed, readers_of, seconds_of, some_seconds_of, some_text_of, text_of, texts_of}

-- P holds of the answer, unless it is a refusal
unfoldable pub OfAnswer : {A : Type 0} → (A → Type 0) → Result A ConfigFault → Type 0
OfAnswer P (Ok x) = P x
OfAnswer P (Err fault) = Unit {0}

pub last : {A : Type 0} (P : A → Type 0) (x : A) → P x → OfAnswer P (Ok x)
unfolding OfAnswer
last P x h = h

-- what holds of each answer of the second step holds of the answer of both
pub then : {A B : Type 0} (P : B → Type 0) (r : Result A ConfigFault) (next : A → Result B ConfigFault)
    → ((x : A) → r ≡ Ok x → OfAnswer P (next x)) → OfAnswer P (r >>= next)
unfolding OfAnswer
then P (Ok x) next h = h x refl
then P (Err fault) next h = tt

pub kept : {A : Type 0} (P : A → Type 0) (fault : ConfigFault) (refused : Bool) (r : Result A ConfigFault)
    → (refused ≡ false → OfAnswer P r) → OfAnswer P (unless fault refused r)
unfolding OfAnswer
kept P fault true r h = tt
kept P fault false r h = h refl

pub holds : {A : Type 0} (P : A → Type 0) (r : Result A ConfigFault) (x : A) → OfAnswer P r → r ≡ Ok x → P x
unfolding OfAnswer
holds P r x h e = subst (λ (q : Result _ ConfigFault). OfAnswer P q) e h

pub of_missing : {A : Type 0} (P : A → Type 0) (default : A) (read : Data → Result A ConfigFault) (value : Option Data)
    → P default → ((v : Data) → OfAnswer P (read v)) → OfAnswer P (if_there default read value)
unfolding OfAnswer
of_missing P default read None missing there = missing
of_missing P default read (Some v) missing there = there v

pub of_needed : {A : Type 0} (P : A → Type 0) (read : Data → Result A ConfigFault) (value : Option Data)
    → ((v : Data) → OfAnswer P (read v)) → OfAnswer P (needed read value)
unfolding OfAnswer
of_needed P read None there = tt
of_needed P read (Some v) there = there v

-- ---- numbers

pub between : (least most n : ℕ) → not (nat_le least n && nat_le n most) ≡ false → (least ≤ n) × (n ≤ most)
between least most n e = by (nat_le least n) (nat_le n most) refl refl e
  where
    by : (above below : Bool) → nat_le least n ≡ above → nat_le n most ≡ below → not (above && below) ≡ false
        → (least ≤ n) × (n ≤ most)
    by true true low high e = (leb-true least n low, leb-true n most high)
    by true false low high e = absurd cc
    by false below low high e = absurd cc

-- ---- key by key

pub waits : (value : Data) → OfAnswer IsWait (seconds_of value)
waits value = then IsWait (count_of value) _ (λ n is. kept IsWait BadCount _ (Ok n)
    (λ e. last IsWait n (between 1 MAX_IDLE n e)))

abbrev MayWait : Option ℕ → Type 0
MayWait seconds = IfSome seconds IsWait

some_waits : (value : Data) → OfAnswer MayWait (some_seconds_of value)
some_waits value = then MayWait (seconds_of value) _ (λ n is. last MayWait (Some n) (holds IsWait _ n (waits value) is))

abbrev ByHabit : HabitsView → Type 0
ByHabit h = MayWait h.idle × MayWait h.every

habits_hold : (table : Members) → OfAnswer ByHabit (habits_in table)
unfolding habits_in
habits_hold table =
    let at_key = λ (key : List ℕ). of_missing MayWait None some_seconds_of (get_member key table) tt some_waits in
    then ByHabit (if_there None some_seconds_of (get_member (codes "idle") table)) _ (λ idle i.
    then ByHabit (if_there None some_seconds_of (get_member (codes "every") table)) _ (λ every e.
    then ByHabit (if_there false flag_of (get_member (codes "quiet") table)) _ (λ quiet q.
    then ByHabit (if_there None some_text_of (get_member (codes "status") table)) _ (λ status s.
    last ByHabit (record { idle = idle; every = every; quiet = quiet; status = status })
    (holds MayWait _ idle (at_key (codes "idle")) i, holds MayWait _ every (at_key (codes "every")) e)))))

abbrev HasReaders : List (List ℕ) → Type 0
HasReaders texts = (1 ≤ length texts) × (length texts ≤ MAX_READERS)

readers_hold : (value : Data) → OfAnswer HasReaders (readers_of value)
readers_hold value = then HasReaders (texts_of value) _ (λ texts is. kept HasReaders BadCount _ (Ok texts)
    (λ e. last HasReaders texts (between 1 MAX_READERS (length texts) e)))

abbrev HasFetches : AddressesView → Type 0
HasFetches a = HasReaders a.fetch

addresses_hold : (table : Members) → OfAnswer HasFetches (addresses_in table)
unfolding addresses_in
addresses_hold table =
    let fetch = of_needed HasReaders readers_of (get_member (codes "fetch") table) readers_hold in
    then HasFetches (needed text_of (get_member (codes "lines") table)) _ (λ lines l.
    then HasFetches (needed readers_of (get_member (codes "fetch") table)) _ (λ texts f.
    then HasFetches (if_there [] texts_of (get_member (codes "peers") table)) _ (λ peers p.
    last HasFetches (record { lines = lines; fetch = texts; peers = peers }) (holds HasReaders _ texts fetch f))))

-- ---- all keys

limits_hold : (table : Members) → OfAnswer IsWithinLimits (config_in table)
unfolding config_in
limits_hold table =
    let P = IsWithinLimits in
    then P (of_schema (layout_in table)) _ (λ schema l. then P (addresses_in table) _ (λ addresses a.
    then P (intake_in table) _ (λ intake i. then P (habits_in table) _ (λ habits h.
    let fetch = holds HasFetches _ addresses (addresses_hold table) a in
    let habit = holds ByHabit _ habits (habits_hold table) h in
    last P _ (record {
      some_fetch = fetch.0;
      few_fetch = fetch.1;
      idle = habit.0;
      every = habit.1;
    })))))

pub configs_are_within_limits : (table : Members) (c : ConfigView) → config_in table ≡ Ok c → IsWithinLimits c
configs_are_within_limits table c e = holds IsWithinLimits (config_in table) c (limits_hold table) e
