-- The streams of connections, as shown by the calls that give them and take them back.
use Rattle.std.specs.Prelude.{ℕ, List, [], Option, Some}
use Rattle.rr_io.specs.declared.counted.Counted.{Counted}
use Rattle.rr_io.specs.Counted.{inner_of, ends_of, failures_of, reads_of}

-- an input: what is left to read, if that is known, how often it was read, how many of its reads met the end, and how
-- many of its calls failed
pub record Input : Type 0 where
  pub left : Option (List ℕ)
  pub reads : ℕ
  pub ends : ℕ
  pub failures : ℕ

-- an output: what is written, if that is known, and how many of its calls failed
pub record Output : Type 0 where
  pub written : Option (List ℕ)
  pub failures : ℕ

pub record Stream : Type 0 where
  pub input : Input
  pub output : Output

abbrev pub input_of : {R : Type 0} → (R → Option (List ℕ)) → Counted R → Input
input_of left c = record {
  left = left (inner_of c);
  reads = reads_of c;
  ends = ends_of c;
  failures = failures_of c;
}

abbrev pub output_of : {W : Type 0} → (W → Option (List ℕ)) → Counted W → Output
output_of written c = record { written = written (inner_of c); failures = failures_of c }

abbrev pub stream_of : {R W : Type 0} → (R → Option (List ℕ)) → (W → Option (List ℕ)) → Counted R → Counted W → Stream
stream_of left written input output = record { input = input_of left input; output = output_of written output }

-- over memory, before its first call
abbrev pub new_stream : List ℕ → Stream
new_stream bytes = record {
  input = record { left = Some bytes; reads = 0; ends = 0; failures = 0 };
  output = record { written = Some []; failures = 0 };
}
