-- What a reader means, and what each of its calls does to that meaning.
use Rattle.std.specs.Prelude.{◌≡◌, ℕ, ◌+◌, ◌≤◌, min, Bool, true, false, cond, List, [], ◌∷◌, ◌++◌, length, take, drop, replicate, Some, None, Ok, Err, Option, Result, ◌==◌, nat_lt, nat_le, slice_index}
use Rattle.source.specs.Bytes.{Octets}
use Rattle.source.specs.declared.fault.SourceFault.{SourceFault}
use Rattle.source.specs.declared.fault.FillError.{FillError}
use Rattle.source.specs.declared.fault.FillError.TheVariants as fill
use Rattle.source.specs.Feed.{Coded, fronted, unfilled}
use Rattle.read.specs.declared.Fault.{Fault}
use Rattle.read.specs.declared.Fault.TheVariants.{Stop, Room, Short, Source}
use Rattle.read.specs.declared.Taken.{Taken}
use Rattle.read.specs.declared.Taken.TheVariants.{Lent, Copied}

-- A reader by its meaning. A peeked byte is still to come and not counted.
pub record View : Type 0 where
  pub coming : List ℕ
  -- the source's fault, or a clean end
  pub ending : Option SourceFault
  -- how many bytes were taken
  pub count : ℕ
  -- the count that no read may pass
  pub stop : Option ℕ
  pub peeked : Bool
  pub kept : List ℕ

-- What holds of every reader. One that lends keeps all that it took, one that copies keeps nothing.
pub record Sound (lends : Bool) (v : View) : Type 0 where
  pub octets : Octets v.coming
  pub kept_octets : Octets v.kept
  pub kept_all : length v.kept ≡ cond lends v.count 0
  pub held_there : v.peeked ≡ true → 1 ≤ length v.coming
  pub coded : Coded v.ending
  -- no memory holds more, and no source gives more
  pub counted : v.count ≤ 9223372036854775807

-- ---- refusals

-- this count is past the stop
abbrev pub past : Option ℕ → ℕ → Bool
past None n = false
past (Some s) n = nat_lt s n

-- what a read is told that may pass a stop
abbrev pub allowed : {E : Type 0} → Bool → E → Result Unit E
allowed true e = Err e
allowed false e = Ok tt

-- the room that bytes are written to: a reader that lends writes none
abbrev pub room : Bool → List ℕ → Option ℕ
room true buf = None
room false buf = Some (length buf)

-- there is a buffer and it is shorter than n
abbrev pub cramped : Option ℕ → ℕ → Bool
cramped None n = false
cramped (Some r) n = nat_lt r n

-- how a buffer that was not filled is told
abbrev pub fault_of : FillError → Fault
fault_of fill.End = Short
fault_of (fill.Fault f) = Source f

-- too few bytes come before this ending
abbrev pub shortfall : Option SourceFault → Fault
shortfall e = fault_of (unfilled e)

-- How a request for n bytes is refused: the stop is asked first, then the room, then the bytes.
abbrev pub refusal : View → Option ℕ → ℕ → Option Fault
refusal v r n = cond (past v.stop (v.count + n)) (Some Stop) (cond (cramped r n) (Some Room) (cond (nat_lt (length v.coming) n) (Some (shortfall v.ending)) None))

-- the bytes to come where some behind a peeked byte are lost
abbrev pub thinned : ℕ → Bool → List ℕ → List ℕ
thinned lost false xs = drop lost xs
thinned lost true [] = []
thinned lost true (x ∷ xs) = x ∷ drop lost xs

-- What is left where too few bytes came. How many of the bytes to come are lost is left open: the
-- peeked byte is not among them, and none is new.
pub record Spent (v w : View) : Type 0 where
  pub lost : ℕ
  pub coming : w.coming ≡ thinned lost v.peeked v.coming
  pub ending : w.ending ≡ v.ending
  pub count : w.count ≡ v.count
  pub stop : w.stop ≡ v.stop
  pub peeked : w.peeked ≡ v.peeked
  pub kept : w.kept ≡ v.kept

-- what a refusal leaves of the reader
abbrev pub Leaves : Fault → View → View → Type 0
Leaves Stop v w = w ≡ v
Leaves Room v w = w ≡ v
Leaves Short v w = Spent v w
Leaves (Source c) v w = Spent v w

-- ---- what is taken

-- the first byte to come is held
abbrev pub held : View → View
held v = record v { peeked = true }

-- the bytes kept once these are taken
abbrev pub keeping : Bool → List ℕ → List ℕ → List ℕ
keeping true kept more = kept ++ more
keeping false kept more = kept

-- n bytes are taken, a peeked one among them unless n is 0
abbrev pub advanced : Bool → ℕ → View → View
advanced lends n v = record v { coming = drop n v.coming; count = v.count + n; peeked = cond (n == 0) v.peeked false; kept = keeping lends v.kept (take n v.coming) }

-- ---- the calls

abbrev pub ByteBy : Option Fault → View → View → Result ℕ Fault → View → Type 0
ByteBy (Some f) v t r w = (r ≡ Err f) × Leaves f v w
ByteBy None v t r w = (r ≡ Ok (slice_index v.coming 0)) × (w ≡ t)

abbrev pub Peek : View → Result ℕ Fault → View → Type 0
Peek v r w = ByteBy (refusal v None 1) v (held v) r w

abbrev pub Next : Bool → View → Result ℕ Fault → View → Type 0
Next lends v r w = ByteBy (refusal v None 1) v (advanced lends 1 v) r w

abbrev pub discarded : Bool → View → View
discarded lends v = cond v.peeked (advanced lends 1 v) v

-- where n bytes that were taken lie
abbrev pub lies : Bool → View → Taken
lies true v = Lent v.count
lies false v = Copied

-- a reader that copies has put these to the front of the buffer
abbrev pub put : Bool → List ℕ → List ℕ → List ℕ
put true front buf = buf
put false front buf = fronted front buf

-- what a refusal of n bytes leaves in the buffer
abbrev pub wiped : Bool → Fault → ℕ → List ℕ → List ℕ
wiped lends Stop n buf = buf
wiped lends Room n buf = buf
wiped lends Short n buf = put lends (replicate n 0) buf
wiped lends (Source c) n buf = put lends (replicate n 0) buf

abbrev pub BytesBy : Option Fault → Bool → View → ℕ → List ℕ → Result Taken Fault → View → List ℕ → Type 0
BytesBy (Some f) lends v n buf r w buf' = (r ≡ Err f) × Leaves f v w × (buf' ≡ wiped lends f n buf)
BytesBy None lends v n buf r w buf' = (r ≡ Ok (lies lends v)) × (w ≡ advanced lends n v) × (buf' ≡ put lends (take n v.coming) buf)

abbrev pub NextBytes : Bool → View → ℕ → List ℕ → Result Taken Fault → View → List ℕ → Type 0
NextBytes lends v n buf r w buf' = BytesBy (refusal v (room lends buf) n) lends v n buf r w buf'

-- n bytes are passed over where they are at hand and before the stop, and else none
abbrev pub passable : ℕ → View → ℕ → Bool
passable reach v n = cond (past v.stop (v.count + n)) false (nat_le n (length (take reach v.coming)))

abbrev pub PassedOver : ℕ → Bool → View → ℕ → Bool → View → Type 0
PassedOver reach lends v n r w = (r ≡ passable reach v n) × (w ≡ cond r (advanced lends n v) v)

-- the kept byte at a place
abbrev pub kept_at : View → ℕ → Option ℕ
kept_at v p = cond (nat_lt p (length v.kept)) (Some (slice_index v.kept p)) None

-- so many of these bytes from a place on, if they are there
abbrev pub part_of : List ℕ → ℕ → ℕ → Option (List ℕ)
part_of xs p n = cond (nat_lt (length xs) (p + n)) None (Some (take n (drop p xs)))

-- so many kept bytes from a place on, of a reader that lends
abbrev pub lent_part : Bool → View → ℕ → ℕ → Option (List ℕ)
lent_part true v p n = part_of v.kept p n
lent_part false v p n = None

-- ---- the fence

abbrev pub nearer : ℕ → Option ℕ → Option ℕ
nearer n None = Some n
nearer n (Some m) = Some (min n m)

-- a reader with a stop of its own: the smaller of two stops, all else as below
abbrev pub fenced : ℕ → View → View
fenced n v = record v { stop = nearer n v.stop }
