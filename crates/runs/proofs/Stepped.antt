-- What one step of a body does: what it takes where it gives an event, what it leaves where it is refused, and when it gives.
use Rattle.std.proofs.Common.{◌≡◌, ℕ, ◌+◌, ◌≤◌, Bool, true, false, cond, ◌⊎◌, List, [], ◌++◌, length, Some, None, Option}
use Rattle.source.specs.Bytes.{Octets}
use Rattle.source.specs.Feed.{fronted}
use Rattle.read.specs.Reader.{View, past, cramped, keeping}
use Rattle.format.specs.Numbers.{latching}
use Rattle.format.specs.declared.refusal.Refusal.{Refusal}
use Rattle.format.specs.declared.refusal.Cause.TheVariants as cause
use Rattle.format.specs.declared.refusal.ReadError.TheVariants as error
use Rattle.values.specs.Values as value
use Rattle.de.specs.declared.event.Event.{Event}
use Rattle.de.specs.Shown.{shown}
use Rattle.de.specs.Steps.{Body, gives, stops, counted, text_space, step}
use Rattle.runs.specs.Law.{HandedOut, limits, hands_out}
use Rattle.room.specs.Open.{bytes_held}
use Rattle.values.specs.Limits.{RoomForKeyBytes}
use Rattle.runs.proofs.Taking.{levels, Fit, Takes, Front, Waits, names_long}

-- these bytes were taken of a reader
pub record Took (lends : Bool) (v w : View) (bs : List ℕ) : Type 0 where
  pub coming : v.coming ≡ bs ++ w.coming
  pub count : w.count ≡ v.count + length bs
  pub ending : w.ending ≡ v.ending
  pub stop : w.stop ≡ v.stop
  pub kept : w.kept ≡ keeping lends v.kept bs

-- the bytes of a sound reader; of one that lends, this is the whole input
pub record Solid (lends : Bool) (input : List ℕ) (v : View) : Type 0 where
  pub octets : Octets v.coming
  pub kept_all : length v.kept ≡ cond lends v.count 0
  pub whole : lends ≡ true → input ≡ v.kept ++ v.coming

-- a body between two events
pub record Ready (lends : Bool) (input : List ℕ) (b : Body) : Type 0 where
  pub solid : Solid lends input b.reader
  pub fit : Fit lends b.opens
  pub waits : Waits b.unread (levels input b.opens)
  -- the key bytes of the open templates were admitted
  pub held : RoomForKeyBytes (limits lends) (bytes_held names_long (levels input b.opens))

-- an event has passed
pub record Stepped (lends : Bool) (input : List ℕ) (b : Body) (e : Event) (c : Body) (x : List ℕ) : Type 0 where
  pub bytes : List ℕ
  pub says : value.Event
  pub took : Took lends b.reader c.reader bytes
  pub end : c.end ≡ b.end
  pub inside : past b.end b.reader.count ≡ false → past b.end c.reader.count ≡ false
  pub calm : c.unread ≡ None
  pub events : c.events ≡ counted b.events
  pub takes : (front : List ℕ) → Front b.unread front → Takes (limits lends) (levels input b.opens) (front ++ bytes) says (levels input c.opens)
  pub ready : Ready lends input c
  pub origin : HandedOut lends e
  pub shows : (buf : List ℕ) → shown input (fronted x buf) e ≡ says

-- the buffer is too short: the tag and the length of a text are taken, and the text is awaited
pub record Waiting (lends : Bool) (input : List ℕ) (b c : Body) : Type 0 where
  pub bytes : List ℕ
  pub took : Took lends b.reader c.reader bytes
  pub front : (front : List ℕ) → Front b.unread front → Front c.unread (front ++ bytes)
  pub ready : Ready lends input c

-- the refusal is for good; or it is for want of room in the buffer of a copying reader, and a text is awaited
abbrev pub ForGoodOrWaits : Bool → List ℕ → Option ℕ → Refusal → Body → Body → Type 0
ForGoodOrWaits lends input space f b c = (latching f.cause ≡ true) ⊎ ((f.cause ≡ cause.Read error.Room) × (text_space lends space ≡ None → ⊥) × Waiting lends input b c)

-- a refusal
pub record Stopped (lends : Bool) (input : List ℕ) (space : Option ℕ) (b : Body) (f : Refusal) (c : Body) : Type 0 where
  pub after : b.reader.count ≤ f.place
  pub end : c.end ≡ b.end
  pub opens : c.opens ≡ b.opens
  pub events : c.events ≡ b.events
  pub inside : past b.end b.reader.count ≡ false → past b.end c.reader.count ≡ false
  -- the value has not ended
  pub more : b.opens ≡ [] → ⊥
  pub kind : ForGoodOrWaits lends input space f b c

-- so many bytes stay before the declared end and the reader's stop
pub record Clear (b : Body) (n : ℕ) : Type 0 where
  pub before_end : past b.end (b.reader.count + n) ≡ false
  pub before_stop : past b.reader.stop (b.reader.count + n) ≡ false

-- the bytes that the event hands out do not fit into so much room of a copying reader's buffer
pub record Tight (lends : Bool) (space : Option ℕ) (t : value.Event) : Type 0 where
  pub copies : lends ≡ false
  pub text : List ℕ
  pub handed : hands_out t ≡ Some text
  pub long : cramped space (length text) ≡ true

-- a step gives, or says that there is no room where there is none
pub data Can (lends : Bool) (space : Option ℕ) (b : Body) (t : value.Event) : Type 0 where
  can_give : (e : Event) (c : Body) (x : List ℕ) → step lends space b ≡ gives (Some e) c x → (Tight lends space t → ⊥) → Can lends space b t
  must_wait : (f : Refusal) (c : Body) (x : List ℕ) → step lends space b ≡ stops f c x → f.cause ≡ cause.Read error.Room → Tight lends space t → Can lends space b t
