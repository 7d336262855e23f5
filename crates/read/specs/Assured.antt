-- What a caller may count on of every reader.
use Rattle.std.specs.Prelude.{◌≡◌, ℕ, ◌+◌, ◌<◌, Bool, true, cond, List, Some, None, Ok, Option}
use Rattle.std.specs.Int.NonZero.{non_zero_u16_get}
use Rattle.source.specs.Bytes.{Octets}
use Rattle.source.specs.declared.fault.SourceFault.{SourceFault}
use Rattle.read.specs.declared.Fault.TheVariants.{Stop, Source}
use Rattle.read.specs.Reader.{View, Sound, past, refusal, Next, kept_at, lent_part}

pub record Assured (lends : Bool) (v : View) : Type 0 where
  -- a byte is one: the next, one that was kept, and each of a part that was kept
  pub next : (b : ℕ) (w : View) → Next lends v (Ok b) w → b < 256
  pub kept : (p b : ℕ) → kept_at v p ≡ Some b → b < 256
  pub part : (p n : ℕ) (bytes : List ℕ) → lent_part lends v p n ≡ Some bytes → Octets bytes
  -- a peeked byte is there: nothing but the stop keeps it back
  pub peeked : v.peeked ≡ true → refusal v None 1 ≡ cond (past v.stop (v.count + 1)) (Some Stop) None
  -- the code that a source's fault is told with is a number of 16 bits
  pub code : (room : Option ℕ) (n : ℕ) (f : SourceFault) → refusal v room n ≡ Some (Source f) → non_zero_u16_get f.0 < 65536

abbrev pub EveryReader : Type 0
EveryReader = (lends : Bool) (v : View) → Sound lends v → Assured lends v
