-- What holds of any list of calls on a new decoder. It speaks of what a caller sees: the calls, their answers, the reader's count
-- and what the decoder tells after each, and the text buffer; of what the reader meant at first; and of values.
use Rattle.std.specs.Prelude.{◌≡◌, ℕ, suc, pred, min, ◌+◌, ◌-◌, ◌*◌, ◌<◌, ◌≤◌, Bool, true, false, cond, ◌⊎◌, List, [], ◌∷◌, ◌++◌, length, take, drop, pos, Some, None, Option, ◌==◌}
use Rattle.read.specs.Reader.{View, past}
use Rattle.format.specs.Integers.{little_endian}
use Rattle.format.specs.Numbers.{latching, number_of}
use Rattle.format.specs.declared.width.Width.{Width}
use Rattle.format.specs.declared.refusal.Refusal.{Refusal}
use Rattle.values.specs.Values.{Value, encoding, Event, events, Formed, count_encoding, Fits, array_begin, array_end, map_begin, map_end, key, an_integer, a_real, some_bytes, some_text, is_true, is_false, is_null, absent}
use Rattle.values.specs.Limits.{Limits, Within, lending, copying}
use Rattle.bunser.specs.declared.Header.{Header}
use Rattle.de.specs.declared.pdu.Extent.{Extent}
use Rattle.read.specs.declared.Taken.{Taken}
use Rattle.read.specs.declared.Taken.TheVariants.{Lent, Copied}
use Rattle.de.specs.declared.event.Event.{Event as GivenEvent}
use Rattle.de.specs.declared.event.Event.TheVariants as given
use Rattle.de.specs.declared.entry.Call.{Call}
use Rattle.de.specs.declared.entry.Call.TheVariants as call
use Rattle.de.specs.declared.entry.Answer.{Answer}
use Rattle.de.specs.declared.entry.Answer.TheVariants as answer
use Rattle.de.specs.Made.{Moment}
use Rattle.de.specs.Shown.{shown}

abbrev pub Begins : {A : Type 0} → List A → List A → Type 0
Begins xs ys = (rest : List _) × (ys ≡ xs ++ rest)

-- the bytes from a count on, as they stood at first
abbrev pub from : View → ℕ → List ℕ
from v n = drop (n - v.count) v.coming

-- what was kept and what comes: of a reader that lends, all bytes, in which places lie
abbrev pub all_bytes : View → List ℕ
all_bytes v = v.kept ++ v.coming

-- ---- what is open after some moments, and what was refused for good

-- No PDU was opened yet. Else of the PDU opened last: it is open, it has been closed, or it has been closed and open was called again.
pub data Phase : Type 0 where
  none_yet : Phase
  running over left : Extent → Phase

-- an accepted open opens its PDU
abbrev pub open_phase : Phase → Answer → Phase
open_phase p (answer.Opened h) = running (record { start = h.start; length = h.length })
open_phase (over e) a = left e
open_phase p a = p

-- a close ends the open PDU, accepted or refused, but for the refusal of its token
abbrev pub close_phase : Phase → Answer → Phase
close_phase (running e) (answer.Refused f) = cond (number_of f.cause == 2) (running e) (over e)
close_phase (running e) a = over e
close_phase p a = p

abbrev pub phase_after : Phase → Call → Answer → Phase
phase_after p call.Open a = open_phase p a
phase_after p (call.Next room) a = p
phase_after p call.Skip a = p
phase_after p (call.Close e) a = close_phase p a

abbrev pub phase_from : Phase → List Moment → Phase
phase_from p [] = p
phase_from p (m ∷ h) = phase_from (phase_after p m.call m.answer) h

-- the phase after these moments
abbrev pub phase : List Moment → Phase
phase h = phase_from none_yet h

abbrev pub open_pdu : Phase → Option Extent
open_pdu none_yet = None
open_pdu (running e) = Some e
open_pdu (over e) = None
open_pdu (left e) = None

-- the first refusal for good with this answer, where this was the first before it
abbrev pub first_for_good : Option Refusal → Answer → Option Refusal
first_for_good None (answer.Refused f) = cond (latching f.cause) (Some f) None
first_for_good o a = o

abbrev pub for_good_from : Option Refusal → List Moment → Option Refusal
for_good_from o [] = o
for_good_from o (m ∷ h) = for_good_from (first_for_good o m.answer) h

-- the first refusal for good in these moments
abbrev pub for_good : List Moment → Option Refusal
for_good h = for_good_from None h

-- the reader's count after these moments
abbrev pub count_after : ℕ → List Moment → ℕ
count_after n [] = n
count_after n (m ∷ h) = count_after m.count h

-- ---- answers that are refusals

abbrev pub Refuses : Answer → Type 0
Refuses a = (f : Refusal) × (a ≡ answer.Refused f)

-- the answer is a refusal with this number
abbrev pub RefusedBy : ℕ → Answer → Type 0
RefusedBy n a = (f : Refusal) × (a ≡ answer.Refused f) × (number_of f.cause ≡ n)

-- what holds of the refusal, if it is one
abbrev pub IfRefused : (Refusal → Type 0) → Answer → Type 0
IfRefused P a = (f : Refusal) → a ≡ answer.Refused f → P f

abbrev pub ForGood : Refusal → Type 0
ForGood f = latching f.cause ≡ true

-- for good, or for want of room in a copying reader's text buffer
abbrev pub ForGoodOrRoom : Bool → Refusal → Type 0
ForGoodOrRoom lends f = ForGood f ⊎ ((lends ≡ false) × (number_of f.cause ≡ 14))

-- ---- what has passed

-- how deep an event leads, where so much has begun
abbrev pub deeper : ℕ → Event → ℕ
deeper d array_begin = suc d
deeper d map_begin = suc d
deeper d array_end = pred d
deeper d map_end = pred d
deeper d (key k) = d
deeper d (an_integer w z) = d
deeper d (a_real n) = d
deeper d (some_bytes bs) = d
deeper d (some_text bs) = d
deeper d is_true = d
deeper d is_false = d
deeper d is_null = d
deeper d absent = d

-- how many events skip passes: one, or all from a begin to its end
abbrev pub stretch : ℕ → List Event → ℕ
stretch d [] = 0
stretch d (e ∷ es) = suc (cond (deeper d e == 0) 0 (stretch (deeper d e) es))

-- Skip passes these events, whatever comes behind them: none, or a whole stretch.
abbrev pub Stretched : List Event → Type 0
Stretched [] = Unit {0}
Stretched (e ∷ es) = (behind : List Event) → stretch 0 (e ∷ (es ++ behind)) ≡ length (e ∷ es)

-- bytes are a part of the input over a reader that lends, and of the text buffer over one that copies
abbrev pub PartOf : Bool → Taken → Type 0
PartOf true (Lent p) = Unit {0}
PartOf true Copied = ⊥
PartOf false (Lent p) = ⊥
PartOf false Copied = Unit {0}

-- such is the part that an event hands out, if it hands out one
abbrev pub HandedOut : Bool → GivenEvent → Type 0
HandedOut lends (given.Key s) = PartOf lends s.taken
HandedOut lends (given.Bytes s) = PartOf lends s.taken
HandedOut lends (given.Text s) = PartOf lends s.taken
HandedOut lends e = Unit {0}

-- What a call answered agrees with these events having passed at it. The last event that has passed was at the count c before the
-- call, and is at the count d after it.
abbrev pub RefusedAgrees : Call → Refusal → List Event → ℕ → ℕ → Type 0
RefusedAgrees call.Open f more c d = (more ≡ []) × (d ≡ c)
RefusedAgrees (call.Next n) f more c d = (more ≡ []) × (d ≡ c)
-- what a skip passed before it was refused counts as passed, and goes beyond no stretch
RefusedAgrees call.Skip f more c d = (stretch 0 more ≡ length more) × (c ≤ d) × (d ≤ f.place)
RefusedAgrees (call.Close e) f more c d = (more ≡ []) × (d ≡ c)

abbrev pub Agrees : Bool → View → Moment → Answer → List Event → ℕ → ℕ → Type 0
Agrees lends v m (answer.Opened h) more c d = ⊥
Agrees lends v m (answer.Gave e) more c d = HandedOut lends e × (more ≡ shown (all_bytes v) m.text e ∷ []) × (d ≡ m.count)
Agrees lends v m answer.Done more c d = (more ≡ []) × (d ≡ c)
Agrees lends v m (answer.Skipped n) more c d = (length more ≡ n) × Stretched more × (d ≡ cond (n == 0) c m.count)
Agrees lends v m (answer.Closed k) more c d = (more ≡ []) × (d ≡ c)
Agrees lends v m (answer.Refused f) more c d = RefusedAgrees m.call f more c d

-- After these moments these events have passed since the last accepted open, the last of them at this count.
pub data Passed (lends : Bool) (v : View) : List Moment → List Event → ℕ → Type 0 where
  opens : (h : List Moment) (m : Moment) {k : Header} → m.answer ≡ answer.Opened k → m.count ≡ k.start → Passed lends v (h ++ (m ∷ [])) [] k.start
  moves : (h : List Moment) (m : Moment) {es : List Event} {c d : ℕ} (more : List Event) → Passed lends v h es c → Agrees lends v m m.answer more c d → Passed lends v (h ++ (m ∷ [])) (es ++ more) d

-- ---- what was passed is true

-- the bytes taken end at this count: the place of a refusal for good, or that of the reader
abbrev pub taken_to : Option Refusal → ℕ → ℕ
taken_to None n = n
taken_to (Some f) n = f.place

pub record Truthful (v : View) (start size : ℕ) (r : Option Refusal) (es : List Event) (c : ℕ) (m : Moment) : Type 0 where
  -- the events begin those of every value whose encoding begins with the body bytes taken up to the last of them, and there is one
  pub every : (w : Value) → Formed w → Begins (take (c - start) (from v start)) (encoding w) → Begins es (events w)
  pub some : (w : Value) × Formed w × Begins (take (c - start) (from v start)) (encoding w)
  pub counted : m.events ≡ length es
  -- at most four for each body byte
  pub few : length es ≤ 4 * (c - start)
  -- the bytes told are the body bytes taken, those up to the last event among them
  pub told_bytes : m.bytes ≡ min (taken_to r m.count) (start + size) - start
  pub reach : c - start ≤ m.bytes

-- ---- a whole body is never refused, and its end is told exactly

-- the body bytes taken up to the last event are the whole encoding of this value, whose events have passed
pub record Ended (v : View) (start : ℕ) (es : List Event) (c : ℕ) (w : Value) : Type 0 where
  pub formed : Formed w
  pub bytes : encoding w ≡ take (c - start) (from v start)
  pub told : events w ≡ es

-- the declared body is the whole encoding of this value
pub record Declared (v : View) (start size : ℕ) (w : Value) : Type 0 where
  pub formed : Formed w
  pub long : length (encoding w) ≡ size
  pub there : take size (from v start) ≡ encoding w

-- why a close is refused: events are still to come, or the value has ended elsewhere than was declared
abbrev pub Unclosed : View → ℕ → List Event → ℕ → Refusal → Type 0
Unclosed v start es c f = ((number_of f.cause ≡ 15) × ((w : Value) → Ended v start es c w → ⊥)) ⊎ ((number_of f.cause ≡ 16) × (w : Value) × Ended v start es c w)

-- a close that is given the numbers of the open PDU accepts exactly where the declared body is one value and all its events have passed
pub record Closes (v : View) (start size : ℕ) (r : Option Refusal) (es : List Event) (c : ℕ) (a : Answer) : Type 0 where
  pub accepts : (w : Value) → Declared v start size w → es ≡ events w → a ≡ answer.Closed (record { events = length es; length = size })
  pub accepted : (n l : ℕ) → a ≡ answer.Closed (record { events = n; length = l }) → (n ≡ length es) × (l ≡ size) × (w : Value) × Declared v start size w × (es ≡ events w)
  pub refused : r ≡ None → IfRefused (Unclosed v start es c) a

-- the bytes that an event hands out
abbrev pub hands_out : Event → Option (List ℕ)
hands_out array_begin = None
hands_out array_end = None
hands_out map_begin = None
hands_out map_end = None
hands_out (key k) = Some k
hands_out (an_integer w z) = None
hands_out (a_real n) = None
hands_out (some_bytes bs) = Some bs
hands_out (some_text bs) = Some bs
hands_out is_true = None
hands_out is_false = None
hands_out is_null = None
hands_out absent = None

-- the next event hands out bytes that do not fit into so much room of a copying reader's text buffer
pub record Cramped (lends : Bool) (w : Value) (es : List Event) (room : ℕ) : Type 0 where
  pub copies : lends ≡ false
  pub event : Event
  pub next : Begins (es ++ (event ∷ [])) (events w)
  pub text : List ℕ
  pub handed : hands_out event ≡ Some text
  pub long : room < length text

-- on a whole body within the limits
abbrev pub Reads : Bool → Value → List Event → Call → Answer → Type 0
Reads lends w es call.Open a = Unit {0}
Reads lends w es (call.Next room) a = record {
  done : a ≡ answer.Done → es ≡ events w;
  ended : es ≡ events w → a ≡ answer.Done;
  refused : IfRefused (λ f. (number_of f.cause ≡ 14) × Cramped lends w es room) a;
  cramped : Cramped lends w es room → RefusedBy 14 a;
}
Reads lends w es call.Skip a = a ≡ answer.Skipped (stretch 0 (drop (length es) (events w)))
Reads lends w es (call.Close e) a = Unit {0}

abbrev pub limits : Bool → Limits
limits true = lending
limits false = copying

-- a whole body within the limits and before the reader's stop
pub record Whole (lends : Bool) (v : View) (start size : ℕ) (w : Value) : Type 0 where
  pub declared : Declared v start size w
  pub within : Within w (limits lends) 0 0 0
  pub clear : past v.stop (start + size) ≡ false

-- ---- where a value has ended

-- the calls that pass events
abbrev pub PassesEvents : Call → Type 0
PassesEvents call.Open = ⊥
PassesEvents (call.Next room) = Unit {0}
PassesEvents call.Skip = Unit {0}
PassesEvents (call.Close e) = ⊥

-- their answers where no event is left to pass
abbrev pub NothingLeft : Call → Answer → Type 0
NothingLeft call.Open a = ⊥
NothingLeft (call.Next room) a = a ≡ answer.Done
NothingLeft call.Skip a = a ≡ answer.Skipped 0
NothingLeft (call.Close e) a = ⊥

-- the call after these events, where the PDU is open
pub record GoesOn (lends : Bool) (v : View) (start size : ℕ) (r : Option Refusal) (es : List Event) (c : ℕ) (m : Moment) : Type 0 where
  pub closes : m.call ≡ call.Close (record { start = start; length = size }) → Closes v start size r es c m.answer
  pub reads : (w : Value) → Whole lends v start size w → Reads lends w es m.call m.answer
  -- these answers come exactly where a value has ended
  pub at_end : r ≡ None → (w : Value) → Ended v start es c w → PassesEvents m.call → NothingLeft m.call m.answer
  pub only_there : NothingLeft m.call m.answer → (w : Value) × Ended v start es c w

-- ---- when a call is tried at all

-- A refusal for good comes again. Else a call out of turn is refused by 1, and of one in turn this is known.
abbrev pub Asked : Option Refusal → Bool → Type 0 → Answer → Type 0
Asked (Some f) in_turn known a = a ≡ answer.Refused f
Asked None false known a = RefusedBy 1 a
Asked None true known a = known

-- a close of the open PDU: a refusal for good comes again, and what else refuses it is for good
abbrev pub Again : Option Refusal → Answer → Type 0
Again None a = IfRefused ForGood a
Again (Some f) a = a ≡ answer.Refused f

-- A close that is given the numbers of the open PDU is not refused by 2, and so ends it. Any other is, also after a refusal for good.
abbrev pub CloseAsked : Option Extent → Option Refusal → Extent → Answer → Type 0
CloseAsked o r e a = ((o ≡ Some e) × Again r a) ⊎ ((o ≡ Some e → ⊥) × RefusedBy 2 a)

abbrev pub is_open : Option Extent → Bool
is_open None = false
is_open (Some e) = true

abbrev pub none_open : Option Extent → Bool
none_open None = true
none_open (Some e) = false

-- What is answered where this PDU is open or none, and this was refused for good or nothing. In turn are open where no PDU is open,
-- and next and skip where one is.
abbrev pub Turn : Bool → Option Extent → Option Refusal → Call → Answer → Type 0
Turn lends o r call.Open a = Asked r (none_open o) (IfRefused ForGood a) a
Turn lends o r (call.Next room) a = Asked r (is_open o) (IfRefused (ForGoodOrRoom lends) a) a
Turn lends o r call.Skip a = Asked r (is_open o) (IfRefused ForGood a) a
Turn lends o r (call.Close e) a = CloseAsked o r e a

-- The count of the reader stays at n over a call that is refused by 1 or 2, after a refusal for good, and over close.
pub record Still (n : ℕ) (r : Option Refusal) (m : Moment) : Type 0 where
  pub out_of_turn : IfRefused (λ f. number_of f.cause < 3 → (f.place ≡ n) × (m.count ≡ n)) m.answer
  pub again : (f : Refusal) → r ≡ Some f → m.count ≡ n
  pub closing : (e : Extent) → m.call ≡ call.Close e → m.count ≡ n

-- ---- open accepts exactly when it should

-- at this count stand the magic, four bytes of capabilities and a length, before the reader's stop; the body ends by 2 ^ 60
pub record HeaderAt (v : View) (n : ℕ) (caps start size : ℕ) : Type 0 where
  pub flags : List ℕ
  pub four : length flags ≡ 4
  pub capabilities : little_endian flags ≡ caps
  pub width : Width
  pub fits : Fits width (pos size)
  pub there : Begins (0x00 ∷ 0x02 ∷ (flags ++ count_encoding width size)) (from v n)
  pub begins : start ≡ n + 6 + length (count_encoding width size)
  pub clear : past v.stop start ≡ false
  pub bounded : start + size ≤ 1152921504606846976

pub record Opens (v : View) (h : List Moment) (m : Moment) : Type 0 where
  pub accepts : for_good h ≡ None → open_pdu (phase h) ≡ None → (caps start size : ℕ) → HeaderAt v (count_after v.count h) caps start size →
      m.answer ≡ answer.Opened (record { capabilities = caps; start = start; length = size })
  pub accepted : (caps start size : ℕ) → m.answer ≡ answer.Opened (record { capabilities = caps; start = start; length = size }) →
      (for_good h ≡ None) × (open_pdu (phase h) ≡ None) × HeaderAt v (count_after v.count h) caps start size

-- ---- the law

-- an answer of this call's kind
abbrev pub Suits : Call → Answer → Type 0
Suits call.Open (answer.Opened h) = Unit {0}
Suits (call.Next n) (answer.Gave e) = Unit {0}
Suits (call.Next n) answer.Done = Unit {0}
Suits call.Skip (answer.Skipped n) = Unit {0}
Suits (call.Close e) (answer.Closed k) = Unit {0}
Suits c (answer.Refused f) = Unit {0}
Suits c a = ⊥

-- nothing has been opened: the answer is a refusal, and nothing is counted
pub record Idle (m : Moment) : Type 0 where
  pub refuses : Refuses m.answer
  pub no_events : m.events ≡ 0
  pub no_bytes : m.bytes ≡ 0

-- what has passed of the PDU opened last, up to the moment m, and the call after it
pub record PduStory (lends : Bool) (v : View) (h : List Moment) (m : Moment) (k : List Moment) (e : Extent) : Type 0 where
  pub es : List Event
  pub at : ℕ
  pub passed : Passed lends v (h ++ (m ∷ [])) es at
  pub truthful : Truthful v e.start e.length (for_good (h ++ (m ∷ []))) es at m
  -- no byte beyond the declared end is taken until the PDU has been closed and open is called again
  pub inside : (phase (h ++ (m ∷ [])) ≡ left e → ⊥) → m.count ≤ e.start + e.length
  pub goes_on : phase (h ++ (m ∷ [])) ≡ running e → (n : Moment) (l : List Moment) → k ≡ n ∷ l → GoesOn lends v e.start e.length (for_good (h ++ (m ∷ []))) es at n

abbrev pub StoryBy : Phase → Bool → View → List Moment → Moment → List Moment → Type 0
StoryBy none_yet lends v h m k = Idle m
StoryBy (running e) lends v h m k = PduStory lends v h m k e
StoryBy (over e) lends v h m k = PduStory lends v h m k e
StoryBy (left e) lends v h m k = PduStory lends v h m k e

-- what holds of a moment, of those before it and of the one after it
pub record Lawful (lends : Bool) (v : View) (h : List Moment) (m : Moment) (k : List Moment) : Type 0 where
  pub suits : Suits m.call m.answer
  pub turn : Turn lends (open_pdu (phase h)) (for_good h) m.call m.answer
  pub still : Still (count_after v.count h) (for_good h) m
  pub opens : m.call ≡ call.Open → Opens v h m
  pub story : StoryBy (phase (h ++ (m ∷ []))) lends v h m k

-- each moment of these is lawful: they are told of a reader that lends or of one that copies, and that meant this at first
abbrev pub Law : Bool → View → List Moment → Type 0
Law lends v told = (h : List Moment) (m : Moment) (k : List Moment) → told ≡ h ++ (m ∷ k) → Lawful lends v h m k
