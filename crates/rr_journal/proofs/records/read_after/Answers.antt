use Rattle.std.proofs.Common.{rules, ◌≡◌, ◌≤◌, ◌<◌, ◌+◌, length, arith, sym, subst, ap, ◌∙◌, List, ℕ}
use Rattle.std.specs.Io.KnownBytes.{IsAtEnd}
use Rattle.rr_io.specs.Counted.{inner_of}
use Rattle.rr_journal.specs.declared.fault.JournalFault.TheVariants.{BadDigest}
use Rattle.rr_journal.specs.declared.raw.TheConstants.{MAX_BODY_LEN}
use Rattle.rr_journal.specs.Reading.{stated_len, tail_len}
use Rattle.rr_journal.specs.Stream.{OwnDigest, StopsAfter}
use Rattle.rr_journal.specs.Text.{after}
use Rattle.rr_journal.proofs.StepLemmas.{none_own, some_own, head_short, head_long, tail_short, tail_other, tail_whole, read_then}
use Rattle.rr_journal.proofs.records.read_after.Goals as goal

pub returns-then-filled-lt-HEAD_LEN-clause-read : goal.returns-then-filled-lt-HEAD_LEN-clause-read
returns-then-filled-lt-HEAD_LEN-clause-read g c =
    let five : length c.fill.new.buf ≡ 5 = search rules in
    head_short c.args.digest.now (g.R.Read.remaining (inner_of c.args.input.now))
    (g.R.Read.remaining (inner_of c.fill.new.input)) c.fill.new.buf c.in_ok-filled.filled five
    c.in_ok-filled.ensures.bytes c.in_ok-filled.ensures.bound c.in_ok-filled.ensures.end
    (g.R.Read.remaining (inner_of c.stopped.new.input)) c.stopped.result c.if-filled-lt-HEAD_LEN.true
    c.stopped.ensures.stop

pub returns-then-len-gt-MAX_BODY_LEN-clause-read : goal.returns-then-len-gt-MAX_BODY_LEN-clause-read
returns-then-len-gt-MAX_BODY_LEN-clause-read g c =
    let five : length c.fill.new.buf ≡ 5 = search rules in
    head_long c.args.digest.now (g.R.Read.remaining (inner_of c.args.input.now))
    (g.R.Read.remaining (inner_of c.fill.new.input)) c.fill.new.buf c.in_ok-filled.filled five
    c.in_ok-filled.ensures.bytes c.in_ok-filled.ensures.bound c.in_ok-filled.ensures.end
    c.if-filled-lt-HEAD_LEN.false
    (g.R.Read.remaining (inner_of c.stopped-then-len-gt-MAX_BODY_LEN.new.input)) c.stopped-then-len-gt-MAX_BODY_LEN.result c.stated_len-len.result
    c.stated_len-len.ensures.value c.if-len-gt-MAX_BODY_LEN.true c.stopped-then-len-gt-MAX_BODY_LEN.ensures.stop

pub returns-then-len-gt-MAX_BODY_LEN-clause-prefix : goal.returns-then-len-gt-MAX_BODY_LEN-clause-prefix
returns-then-len-gt-MAX_BODY_LEN-clause-prefix g c =
    read_then (g.R.Read.remaining (inner_of c.args.input.now)) (g.R.Read.remaining (inner_of c.fill.new.input))
    (g.R.Read.remaining (inner_of c.stopped-then-len-gt-MAX_BODY_LEN.new.input)) c.fill.ensures.stream.prefix c.stopped-then-len-gt-MAX_BODY_LEN.ensures.prefix

pub returns-in_err-tail-clause-prefix : goal.returns-in_err-tail-clause-prefix
returns-in_err-tail-clause-prefix g c =
    read_then (g.R.Read.remaining (inner_of c.args.input.now)) (g.R.Read.remaining (inner_of c.fill.new.input))
    (g.R.Read.remaining (inner_of c.bytes_from.new.input)) c.fill.ensures.stream.prefix c.bytes_from.ensures.prefix

pub returns-then-got-len-clause-read : goal.returns-then-got-len-clause-read
returns-then-got-len-clause-read g c =
    let old = g.R.Read.remaining (inner_of c.args.input.now) in
    let mid = g.R.Read.remaining (inner_of c.fill.new.input) in
    let left = g.R.Read.remaining (inner_of c.bytes_from.new.input) in
    let buf = c.fill.new.buf in
    let tail = c.in_ok-tail.tail.items in
    let five : length buf ≡ 5 = search rules in
    let len = c.stated_len-len.result in
    let whole : tail_len buf ≡ len + 8 = ap (λ (n : ℕ). n + 8) (sym c.stated_len-len.ensures.value) in
    let got : c.len-got.result ≡ length tail = search rules in
    let most : length tail ≤ tail_len buf = omega (arith, whole, c.in_ok-tail.ensures.bound) in
    let ends : length tail < tail_len buf → IsAtEnd left =
    λ lt. c.in_ok-tail.ensures.end (omega (arith, whole, lt)) in
    let fits : stated_len buf ≤ MAX_BODY_LEN = omega (arith, c.stated_len-len.ensures.value, c.if-len-gt-MAX_BODY_LEN.false) in
    tail_short c.args.digest.now old mid buf c.in_ok-filled.filled five
    c.in_ok-filled.ensures.bytes c.in_ok-filled.ensures.bound c.in_ok-filled.ensures.end c.if-filled-lt-HEAD_LEN.false
    left tail c.in_ok-tail.ensures.bytes most ends fits (g.R.Read.remaining (inner_of c.stopped-then-got-len.new.input))
    c.stopped-then-got-len.result (omega (arith, whole, got, c.if-got-len.true))
    (subst (λ (n : ℕ). StopsAfter BadDigest (5 + n) left c.stopped-then-got-len.result) got c.stopped-then-got-len.ensures.stop)

pub returns-in_default-clause-read : goal.returns-in_default-clause-read
returns-in_default-clause-read g c =
    let old = g.R.Read.remaining (inner_of c.args.input.now) in
    let mid = g.R.Read.remaining (inner_of c.fill.new.input) in
    let left = g.R.Read.remaining (inner_of c.bytes_from.new.input) in
    let buf = c.fill.new.buf in
    let tail = c.in_ok-tail.tail.items in
    let five : length buf ≡ 5 = search rules in
    let len = c.stated_len-len.result in
    let whole : tail_len buf ≡ len + 8 = ap (λ (n : ℕ). n + 8) (sym c.stated_len-len.ensures.value) in
    let got : c.len-got.result ≡ length tail = search rules in
    let most : length tail ≤ tail_len buf = omega (arith, whole, c.in_ok-tail.ensures.bound) in
    let ends : length tail < tail_len buf → IsAtEnd left =
    λ lt. c.in_ok-tail.ensures.end (omega (arith, whole, lt)) in
    let fits : stated_len buf ≤ MAX_BODY_LEN = omega (arith, c.stated_len-len.ensures.value, c.if-len-gt-MAX_BODY_LEN.false) in
    let slice : c.as_slice.result.now ≡ tail = c.as_slice.ensures.value in
    let told : OwnDigest c.args.digest.now buf tail c.own_digest.result =
    subst (λ (t : List ℕ). OwnDigest c.args.digest.now buf t c.own_digest.result) slice c.own_digest.ensures in
    tail_other c.args.digest.now old mid buf c.in_ok-filled.filled five
    c.in_ok-filled.ensures.bytes c.in_ok-filled.ensures.bound c.in_ok-filled.ensures.end c.if-filled-lt-HEAD_LEN.false
    left tail c.in_ok-tail.ensures.bytes most ends fits (g.R.Read.remaining (inner_of c.stopped-in_default.new.input))
    c.stopped-in_default.result (none_own c.args.digest.now buf tail c.own_digest.result told c.in_default.not-Some)
    (subst (λ (n : ℕ). StopsAfter BadDigest (5 + n) left c.stopped-in_default.result) got c.stopped-in_default.ensures.stop)

pub returns-clause-read : goal.returns-clause-read
returns-clause-read g c =
    let old = g.R.Read.remaining (inner_of c.args.input.now) in
    let mid = g.R.Read.remaining (inner_of c.fill.new.input) in
    let left = g.R.Read.remaining (inner_of c.bytes_from.new.input) in
    let buf = c.fill.new.buf in
    let tail = c.in_ok-tail.tail.items in
    let five : length buf ≡ 5 = search rules in
    let len = c.stated_len-len.result in
    let whole : tail_len buf ≡ len + 8 = ap (λ (n : ℕ). n + 8) (sym c.stated_len-len.ensures.value) in
    let got : c.len-got.result ≡ length tail = search rules in
    let most : length tail ≤ tail_len buf = omega (arith, whole, c.in_ok-tail.ensures.bound) in
    let ends : length tail < tail_len buf → IsAtEnd left =
    λ lt. c.in_ok-tail.ensures.end (omega (arith, whole, lt)) in
    let fits : stated_len buf ≤ MAX_BODY_LEN = omega (arith, c.stated_len-len.ensures.value, c.if-len-gt-MAX_BODY_LEN.false) in
    let slice : c.as_slice.result.now ≡ tail = c.as_slice.ensures.value in
    let told : OwnDigest c.args.digest.now buf tail c.own_digest.result =
    subst (λ (t : List ℕ). OwnDigest c.args.digest.now buf t c.own_digest.result) slice c.own_digest.ensures in
    let own = some_own c.args.digest.now buf tail c.own_digest.result c.in-Some.own told c.in-Some.is in
    tail_whole c.args.digest.now old mid buf c.in_ok-filled.filled five
    c.in_ok-filled.ensures.bytes c.in_ok-filled.ensures.bound c.in_ok-filled.ensures.end c.if-filled-lt-HEAD_LEN.false
    left tail c.in_ok-tail.ensures.bytes most ends fits c.record_of.result own.0
    c.record_of.ensures

pub returns-clause-links : goal.returns-clause-links
returns-clause-links g c =
    let buf = c.fill.new.buf in
    let tail = c.in_ok-tail.tail.items in
    let slice : c.as_slice.result.now ≡ tail = c.as_slice.ensures.value in
    let told : OwnDigest c.args.digest.now buf tail c.own_digest.result =
    subst (λ (t : List ℕ). OwnDigest c.args.digest.now buf t c.own_digest.result) slice c.own_digest.ensures in
    let own = some_own c.args.digest.now buf tail c.own_digest.result c.in-Some.own told c.in-Some.is in
    own.1 ∙ ap (after c.args.digest.now) (sym c.record_of.ensures)

pub returns-then-got-len-clause-prefix : goal.returns-then-got-len-clause-prefix
returns-then-got-len-clause-prefix g c =
    let old = g.R.Read.remaining (inner_of c.args.input.now) in
    let mid = g.R.Read.remaining (inner_of c.fill.new.input) in
    let left = g.R.Read.remaining (inner_of c.bytes_from.new.input) in
    let new = g.R.Read.remaining (inner_of c.stopped-then-got-len.new.input) in
    read_then old left new (read_then old mid left c.fill.ensures.stream.prefix c.bytes_from.ensures.prefix)
    c.stopped-then-got-len.ensures.prefix

pub returns-in_default-clause-prefix : goal.returns-in_default-clause-prefix
returns-in_default-clause-prefix g c =
    let old = g.R.Read.remaining (inner_of c.args.input.now) in
    let mid = g.R.Read.remaining (inner_of c.fill.new.input) in
    let left = g.R.Read.remaining (inner_of c.bytes_from.new.input) in
    let new = g.R.Read.remaining (inner_of c.stopped-in_default.new.input) in
    read_then old left new (read_then old mid left c.fill.ensures.stream.prefix c.bytes_from.ensures.prefix)
    c.stopped-in_default.ensures.prefix

pub returns-clause-prefix : goal.returns-clause-prefix
returns-clause-prefix g c =
    let old = g.R.Read.remaining (inner_of c.args.input.now) in
    let mid = g.R.Read.remaining (inner_of c.fill.new.input) in
    let left = g.R.Read.remaining (inner_of c.bytes_from.new.input) in
    read_then old mid left c.fill.ensures.stream.prefix c.bytes_from.ensures.prefix

pub returns-then-filled-lt-HEAD_LEN-clause-links : goal.returns-then-filled-lt-HEAD_LEN-clause-links
returns-then-filled-lt-HEAD_LEN-clause-links g c = c.stopped.ensures.none c.args.digest.now

pub returns-then-len-gt-MAX_BODY_LEN-clause-links : goal.returns-then-len-gt-MAX_BODY_LEN-clause-links
returns-then-len-gt-MAX_BODY_LEN-clause-links g c =
    c.stopped-then-len-gt-MAX_BODY_LEN.ensures.none c.args.digest.now

pub returns-then-got-len-clause-links : goal.returns-then-got-len-clause-links
returns-then-got-len-clause-links g c = c.stopped-then-got-len.ensures.none c.args.digest.now

pub returns-in_default-clause-links : goal.returns-in_default-clause-links
returns-in_default-clause-links g c = c.stopped-in_default.ensures.none c.args.digest.now
