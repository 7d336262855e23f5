-- What a source means, and what a read of it does.
use Rattle.std.specs.Prelude.{◌≡◌, ℕ, ◌<◌, ◌≤◌, min, Bool, true, false, cond, List, [], ◌++◌, length, take, drop, Some, None, Ok, Err, Option, Result, ◌==◌, nat_le}
use Rattle.std.specs.Int.NonZero.{non_zero_u16_get}
use Rattle.std.specs.Option.{ForSome}
use Rattle.source.specs.Bytes.{Octets}
use Rattle.source.specs.declared.fault.SourceFault.{SourceFault}
use Rattle.source.specs.declared.fault.FillError.{FillError}
use Rattle.source.specs.declared.fault.FillError.TheVariants.{End, Fault}

-- the bytes still to come, and how they end: with the source's fault, or cleanly
pub record Feed : Type 0 where
  pub bytes : List ℕ
  pub ending : Option SourceFault

-- a fault's code is a number of 16 bits; that it is not 0 stands in its type
abbrev pub Coded : Option SourceFault → Type 0
Coded e = ForSome e (λ f. non_zero_u16_get f.0 < 65536)

-- what holds of every feed
pub record Sound (f : Feed) : Type 0 where
  pub octets : Octets f.bytes
  pub coded : Coded f.ending

-- these bytes and then this ending
abbrev pub giving : List ℕ → Option SourceFault → Feed
giving xs e = record { bytes = xs; ending = e }

-- n bytes have come
abbrev pub after : ℕ → Feed → Feed
after n f = record f { bytes = drop n f.bytes }

-- a list of bytes is put to the front of a buffer
abbrev pub fronted : List ℕ → List ℕ → List ℕ
fronted front buf = front ++ drop (length front) buf

-- how an ending is told by a read
abbrev pub told : Option SourceFault → Result ℕ SourceFault
told None = Ok 0
told (Some f) = Err f

-- Some bytes come. How many is left open, from 1 to what fits and is there.
pub record Portion (f : Feed) (buf : List ℕ) (r : Result ℕ SourceFault) (g : Feed) (buf' : List ℕ) : Type 0 where
  pub size : ℕ
  pub gives : r ≡ Ok size
  pub some : 1 ≤ size
  pub room : size ≤ length buf
  pub there : size ≤ length f.bytes
  pub left : g ≡ after size f
  pub put : buf' ≡ fronted (take size f.bytes) buf

abbrev pub ReadBy : Bool → Bool → Feed → List ℕ → Result ℕ SourceFault → Feed → List ℕ → Type 0
ReadBy true over f buf r g buf' = (r ≡ Ok 0) × (g ≡ f) × (buf' ≡ buf)
ReadBy false true f buf r g buf' = (r ≡ told f.ending) × (g ≡ f) × (buf' ≡ buf)
ReadBy false false f buf r g buf' = Portion f buf r g buf'

-- A read: nothing into an empty buffer, the ending where none are to come, else a portion.
abbrev pub Read : Feed → List ℕ → Result ℕ SourceFault → Feed → List ℕ → Type 0
Read f buf r g buf' = ReadBy (length buf == 0) (length f.bytes == 0) f buf r g buf'

-- The number that is left open, where at most so many bytes are given in one read.
abbrev pub portioned : ℕ → Feed → ℕ → Result ℕ SourceFault
portioned most f room = cond (room == 0) (Ok 0) (cond (length f.bytes == 0) (told f.ending) (Ok (min most (min room (length f.bytes)))))

-- so many bytes are passed over where they are at hand, and else none
abbrev pub Passed : ℕ → Feed → ℕ → Bool → Feed → Type 0
Passed reach f n r g = (r ≡ nat_le n (length (take reach f.bytes))) × (g ≡ cond r (after n f) f)

-- how an ending is told that comes before a buffer is full
abbrev pub unfilled : Option SourceFault → FillError
unfilled None = End
unfilled (Some f) = Fault f

-- A whole buffer is filled, or the source ends first: then all that came stands at the front.
abbrev pub FillBy : Bool → Feed → List ℕ → Result Unit FillError → Feed → List ℕ → Type 0
FillBy true f buf r g buf' = (r ≡ Ok tt) × (g ≡ after (length buf) f) × (buf' ≡ take (length buf) f.bytes)
FillBy false f buf r g buf' = (r ≡ Err (unfilled f.ending)) × (g ≡ after (length f.bytes) f) × (buf' ≡ fronted f.bytes buf)

abbrev pub Fill : Feed → List ℕ → Result Unit FillError → Feed → List ℕ → Type 0
Fill f buf r g buf' = FillBy (nat_le (length buf) (length f.bytes)) f buf r g buf'

-- what comes behind an ending: the second feed where it is clean, and nothing more at a fault
abbrev pub behind : Option SourceFault → Feed → Feed
behind None g = g
behind (Some e) g = record { bytes = []; ending = Some e }

-- A clean end of the first leads on to the second; a fault of the first ends the chain.
abbrev pub chained : Feed → Feed → Feed
chained f g = record { bytes = f.bytes ++ (behind f.ending g).bytes; ending = (behind f.ending g).ending }
