-- What each of the four calls answers, and what the decoder holds then.
use Rattle.std.specs.Prelude.{◌≡◌, ℕ, ◌+◌, ◌-◌, ◌<◌, ◌≤◌, min, Bool, true, false, cond, ◌&&◌, List, [], ◌∷◌, Some, None, Ok, Err, Option, Result, ◌==◌}
use Rattle.read.specs.Reader.{View}
use Rattle.format.specs.Numbers.{latching, number_of}
use Rattle.format.specs.declared.refusal.ReadError.{ReadError}
use Rattle.format.specs.declared.refusal.Cause.{Cause}
use Rattle.format.specs.declared.refusal.Cause.TheVariants as cause
use Rattle.format.specs.declared.refusal.Refusal.{Refusal}
use Rattle.bunser.specs.declared.Header.{Header}
use Rattle.bunser.specs.Outcome.{Outcome, got, bad}
use Rattle.bunser.specs.Reads.{header_read}
use Rattle.bunser.specs.Passing.{drawn_over}
use Rattle.room.specs.Open.{Column, Open, start, nesting}
use Rattle.de.specs.declared.event.Event.{Event}
use Rattle.bunser.specs.declared.text.Unread.{Unread}
use Rattle.de.specs.declared.event.Refused.{Refused}
use Rattle.de.specs.declared.pdu.Extent.{Extent}
use Rattle.de.specs.declared.pdu.PduInfo.{PduInfo}
use Rattle.de.specs.declared.pdu.Closed.{Closed}
use Rattle.de.specs.Steps.{Body, Out, gives, stops, moved, refuse, counted, step, Apart, puts}

pub record State : Type 0 where
  pub body : Body
  -- the open PDU
  pub pdu : Option Extent
  -- the PDU opened last, 0 and 0 before any
  pub last : Extent
  pub latched : Option Refusal
  -- the refusal that was told last
  pub refused : Option Refusal

-- a decoder over this reader, of which nothing was asked
abbrev pub fresh : View → State
fresh v = record {
  body = record { reader = v; end = None; opens = []; unread = None; events = 0 };
  pdu = None;
  last = record { start = 0; length = 0 };
  latched = None;
  refused = None;
}

-- a result; a refusal that reads nothing; a refusal of a read
pub data Answered (A : Type 0) : Type 0 where
  gave : A → State → Answered A
  told : Refusal → State → Answered A
  cut : Refusal → State → Answered A

abbrev pub in_body : State → Body → State
in_body s b = record { body = b; pdu = s.pdu; last = s.last; latched = s.latched; refused = s.refused }

abbrev pub latch_by : Refusal → Option Refusal → Option Refusal
latch_by f o = cond (latching f.cause) (Some f) o

abbrev pub latch : Refusal → State → State
latch f s = record { body = s.body; pdu = s.pdu; last = s.last; latched = latch_by f s.latched; refused = s.refused }

-- a refusal by the call itself is placed at the count
abbrev pub here : Cause → State → Refusal
here c s = refuse c s.body.reader.count

abbrev pub refused_of : Refusal → Refused
refused_of f = record { number = number_of f.cause }

-- a latched refusal comes again before any question
abbrev pub unless_latched : {A : Type 0} → Option Refusal → State → Answered A → Answered A
unless_latched (Some f) s m = told f s
unless_latched None s m = m

-- ---- open

abbrev pub opened : State → Header → View → State
opened s h v = record {
  body = record { reader = v; end = Some (h.start + h.length); opens = start ∷ []; unread = None; events = 0 };
  pdu = Some (record { start = h.start; length = h.length });
  last = record { start = h.start; length = h.length };
  latched = None;
  refused = s.refused;
}

-- a refused header leaves no end
abbrev pub unopened : State → View → State
unopened s v = in_body s (record { reader = v; end = None; opens = s.body.opens; unread = s.body.unread; events = s.body.events })

abbrev pub open_by : Outcome Refusal Header → State → Answered PduInfo
open_by (got h v) s = gave (record { header = h }) (opened s h v)
open_by (bad f v) s = cut f (latch f (unopened s v))

abbrev pub open_turn : Option Extent → Bool → State → Answered PduInfo
open_turn (Some e) lends s = told (here cause.OutOfTurn s) s
open_turn None lends s = open_by (header_read lends s.body.reader) s

abbrev pub open_call : Bool → State → Answered PduInfo
open_call lends s = unless_latched s.latched s (open_turn s.pdu lends s)

-- ---- next

abbrev pub next_by : Out → State → Answered (Option Event)
next_by (gives e b x) s = gave e (in_body s b)
next_by (stops f b x) s = cut f (latch f (in_body s b))

abbrev pub next_turn : Option Extent → Bool → ℕ → State → Answered (Option Event)
next_turn None lends room s = told (here cause.OutOfTurn s) s
next_turn (Some e) lends room s = next_by (step lends (Some room) s.body) s

abbrev pub next_call : Bool → ℕ → State → Answered (Option Event)
next_call lends room s = unless_latched s.latched s (next_turn s.pdu lends room s)

-- what then stands at the front of the text buffer
abbrev pub turn_puts : Option Extent → Bool → ℕ → State → List ℕ
turn_puts None lends room s = []
turn_puts (Some e) lends room s = puts (step lends (Some room) s.body)

abbrev pub next_puts : Option Refusal → Bool → ℕ → State → List ℕ
next_puts (Some f) lends room s = []
next_puts None lends room s = turn_puts s.pdu lends room s

-- ---- skip

-- a text that is passed is drawn in pieces from a reader that copies: before a shortfall the whole pieces that came are taken
abbrev pub drawn_by : Bool → Option Unread → ReadError → View → View
drawn_by lends None e v = v
drawn_by lends (Some u) e v = drawn_over lends e v

abbrev pub drawn_view : Bool → Cause → Body → View
drawn_view lends cause.OutOfTurn b = b.reader
drawn_view lends cause.Token b = b.reader
drawn_view lends (cause.Read e) b = drawn_by lends b.unread e b.reader
drawn_view lends cause.Depth b = b.reader
drawn_view lends cause.KeyRoom b = b.reader
drawn_view lends cause.NoKeys b = b.reader
drawn_view lends cause.Unfinished b = b.reader
drawn_view lends (cause.Length expected count) b = b.reader

abbrev pub drawn : Bool → Refusal → Body → Body
drawn lends f b = moved b (drawn_view lends f.cause b)

-- a step by which an event passes, of which nothing is kept: whether one has passed
abbrev pub PassesOver : Bool → Out → Result Bool Refusal → Body → Type 0
PassesOver lends (gives (Some e) b x) r c = (r ≡ Ok true) × (c ≡ b)
PassesOver lends (gives None b x) r c = (r ≡ Ok false) × (c ≡ b)
PassesOver lends (stops f b x) r c = (r ≡ Err f) × Apart f (drawn lends f b) c

-- events pass until no more is open than at first; so many have passed already
pub data Skips (lends : Bool) (down : ℕ) : ℕ → Body → Result ℕ Refusal → Body → Type 0 where
  -- nothing more is to come
  over : {n : ℕ} {b c t : Body} {r : Result ℕ Refusal} {x : List ℕ} → step lends None b ≡ gives None c x → r ≡ Ok n → t ≡ c → Skips lends down n b r t
  stuck : {n : ℕ} {b c t : Body} {r : Result ℕ Refusal} {f : Refusal} {x : List ℕ} → step lends None b ≡ stops f c x → r ≡ Err f → Apart f (drawn lends f c) t → Skips lends down n b r t
  last : {n : ℕ} {b c t : Body} {r : Result ℕ Refusal} {e : Event} {x : List ℕ} → step lends None b ≡ gives (Some e) c x → nesting c.opens ≤ down → r ≡ Ok (counted n) → t ≡ c → Skips lends down n b r t
  onward : {n m : ℕ} {b c t : Body} {r : Result ℕ Refusal} {e : Event} {x : List ℕ} → step lends None b ≡ gives (Some e) c x → down < nesting c.opens → m ≡ counted n → Skips lends down m c r t → Skips lends down n b r t

abbrev pub Skip : Bool → Body → Result ℕ Refusal → Body → Type 0
Skip lends b r t = Skips lends (nesting b.opens) 0 b r t

-- the refusal is told, and nothing else changes
abbrev pub telling : Refusal → State → State
telling f s = record { body = s.body; pdu = s.pdu; last = s.last; latched = s.latched; refused = Some f }

-- how a skip of the body is told
abbrev pub SkipTold : Result ℕ Refusal → Result ℕ Refused → State → State → Type 0
SkipTold (Ok n) r s t = (r ≡ Ok n) × (t.latched ≡ s.latched) × (t.refused ≡ s.refused)
SkipTold (Err f) r s t = (r ≡ Err (refused_of f)) × (t.latched ≡ latch_by f s.latched) × (t.refused ≡ Some f)

pub record Skipped (lends : Bool) (s : State) (r : Result ℕ Refused) (t : State) : Type 0 where
  pub outcome : Result ℕ Refusal
  pub body : Skip lends s.body outcome t.body
  pub told : SkipTold outcome r s t
  pub pdu : t.pdu ≡ s.pdu
  pub last : t.last ≡ s.last

abbrev pub SkipTurn : Option Extent → Bool → State → Result ℕ Refused → State → Type 0
SkipTurn None lends s r t = (r ≡ Err (refused_of (here cause.OutOfTurn s))) × (t ≡ telling (here cause.OutOfTurn s) s)
SkipTurn (Some e) lends s r t = Skipped lends s r t

abbrev pub SkipBy : Option Refusal → Bool → State → Result ℕ Refused → State → Type 0
SkipBy (Some f) lends s r t = (r ≡ Err (refused_of f)) × (t ≡ telling f s)
SkipBy None lends s r t = SkipTurn s.pdu lends s r t

abbrev pub SkipCall : Bool → State → Result ℕ Refused → State → Type 0
SkipCall lends s r t = SkipBy s.latched lends s r t

-- ---- close

-- all events have passed
abbrev pub finished_by : Option Unread → List (Open Column) → Bool
finished_by (Some u) o = false
finished_by None [] = true
finished_by None (x ∷ o) = false

abbrev pub finished : Body → Bool
finished b = finished_by b.unread b.opens

-- the PDU is open no more
abbrev pub shut : State → State
shut s = record { body = s.body; pdu = None; last = s.last; latched = s.latched; refused = s.refused }

abbrev pub refusing : {A : Type 0} → Refusal → State → Answered A
refusing f s = told f (latch f s)

abbrev pub close_body : Extent → State → Answered Closed
close_body e s =
    cond (finished s.body)
    (cond (s.body.reader.count == e.start + e.length) (gave (record { events = s.body.events; length = e.length }) s) (refusing (here (cause.Length (e.start + e.length) s.body.reader.count) s) s))
    (refusing (here cause.Unfinished s) s)

abbrev pub close_by : Option Refusal → Extent → State → Answered Closed
close_by (Some f) e s = told f s
close_by None e s = close_body e s

abbrev pub owns : PduInfo → Extent → Bool
owns p e = p.header.start == e.start && p.header.length == e.length

abbrev pub close_own : Option Extent → PduInfo → State → Answered Closed
close_own None p s = told (here cause.Token s) s
close_own (Some e) p s = cond (owns p e) (close_by s.latched e (shut s)) (told (here cause.Token s) s)

-- the token is asked about before a latched refusal is given
abbrev pub close_call : PduInfo → State → Answered Closed
close_call p s = close_own s.pdu p s

-- ---- how it is told

pub record Off (f : Refusal) (s t : State) : Type 0 where
  pub body : Apart f s.body t.body
  pub pdu : t.pdu ≡ s.pdu
  pub last : t.last ≡ s.last
  pub latched : t.latched ≡ s.latched
  pub refused : t.refused ≡ Some f

abbrev pub Meets : {A : Type 0} → Answered A → Result A Refused → State → Type 0
Meets (gave a s) r t = (r ≡ Ok a) × (t ≡ s)
Meets (told f s) r t = (r ≡ Err (refused_of f)) × (t ≡ telling f s)
Meets (cut f s) r t = (r ≡ Err (refused_of f)) × Off f s t

-- ---- the question: how many events have passed, and how many body bytes were taken, of the PDU opened last

abbrev pub up_to : Option Refusal → State → ℕ
up_to (Some f) s = f.place
up_to None s = s.body.reader.count

abbrev pub tally : State → ℕ × ℕ
tally s = (s.body.events, min (up_to s.latched s) (s.last.start + s.last.length) - s.last.start)
