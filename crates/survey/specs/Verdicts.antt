-- What came of a table, in plain numbers.
use Rattle.std.specs.Prelude.{ℕ, slice_index}
use Rattle.std.specs.Int.NonZero.{non_zero_u16_get}
use Rattle.format.specs.declared.refusal.ReadError.{ReadError}
use Rattle.format.specs.declared.refusal.ReadError.TheVariants.{Source, Magic, Byte}
use Rattle.format.specs.declared.refusal.Kind.{Kind}
use Rattle.format.specs.declared.refusal.Kind.TheVariants.{Integer, NextItem, MapKey, KeyList, TemplateKey}
use Rattle.format.specs.declared.refusal.Cause.{Cause}
use Rattle.format.specs.declared.refusal.Cause.TheVariants.{Read, Length}
use Rattle.format.specs.declared.refusal.Layer.{Layer}
use Rattle.format.specs.declared.refusal.Layer.TheVariants as layer
use Rattle.format.specs.declared.refusal.Refusal.{Refusal}
use Rattle.format.specs.Numbers.{number_of, layer_of}
use Rattle.survey.specs.declared.verdict.Verdict.{Verdict}

abbrev pub kind_number : Kind → ℕ
kind_number Integer = 1
kind_number NextItem = 2
kind_number MapKey = 3
kind_number KeyList = 4
kind_number TemplateKey = 5

abbrev pub layer_number : Layer → ℕ
layer_number layer.Source = 1
layer_number layer.Reader = 2
layer_number layer.Decoder = 3

-- the numbers that a cause keeps
abbrev pub kept_by_read : ReadError → ℕ × ℕ
kept_by_read (Source fault) = (non_zero_u16_get fault.0, 0)
kept_by_read (Magic bytes) = (slice_index bytes 0, slice_index bytes 1)
kept_by_read (Byte kind b) = (kind_number kind, b)
kept_by_read e = (0, 0)

abbrev pub kept_numbers : Cause → ℕ × ℕ
kept_numbers (Read e) = kept_by_read e
kept_numbers (Length expected count) = (expected, count)
kept_numbers c = (0, 0)

abbrev pub acceptance : ℕ → ℕ → Verdict
acceptance events taken = record { number = 0; layer = 0; place = 0; first = 0; second = 0; events = events; taken = taken }

abbrev pub refusal_verdict : Refusal → ℕ → ℕ → Verdict
refusal_verdict f events taken = record {
  number = number_of f.cause;
  layer = layer_number (layer_of f.cause);
  place = f.place;
  first = (kept_numbers f.cause).0;
  second = (kept_numbers f.cause).1;
  events = events;
  taken = taken;
}
