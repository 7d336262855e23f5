-- The calls by which a table is read, and what comes of them.
use Rattle.std.specs.Prelude.{◌≡◌, ℕ, ◌+◌, true, false, List, [], ◌∷◌, ◌++◌, length, None, Ok, Err, Result}
use Rattle.read.specs.Reader.{View}
use Rattle.format.specs.declared.refusal.Refusal.{Refusal}
use Rattle.bunser.specs.declared.Header.{Header}
use Rattle.de.specs.declared.event.Event.{Event}
use Rattle.de.specs.declared.pdu.Closed.{Closed}
use Rattle.de.specs.declared.entry.Call.TheVariants as call
use Rattle.de.specs.declared.entry.Answer.{Answer}
use Rattle.de.specs.declared.entry.Answer.TheVariants as answer
use Rattle.de.specs.Calls.{State, fresh, tally}
use Rattle.de.specs.Made.{Moment, CallsMade}
use Rattle.runs.specs.Law.{Law, Refuses}
use Rattle.survey.specs.declared.slot.Slot.{Slot}
use Rattle.survey.specs.declared.verdict.Verdict.{Verdict}
use Rattle.survey.specs.Slots.{laid}
use Rattle.survey.specs.Inside.{EventsInside, Fits, BodyInside}
use Rattle.survey.specs.Verdicts.{acceptance, refusal_verdict}

-- a reader over a table that lends its bytes, of which nothing was asked
abbrev pub table_view : List ℕ → View
table_view xs = record { coming = xs; ending = None; count = 0; stop = None; peeked = false; kept = [] }

-- each of these calls is a next that gave the event of its place
abbrev pub Gives : List Moment → List Event → Type 0
Gives [] [] = Unit {0}
Gives (m ∷ h) (e ∷ es) = (m.call ≡ call.Next 0) × (m.answer ≡ answer.Gave e) × Gives h es
Gives h es = ⊥

-- a next that gave none, since none is left or it was refused
abbrev pub GaveNone : Answer → Type 0
GaveNone answer.Done = Unit {0}
GaveNone (answer.Refused f) = Unit {0}
GaveNone a = ⊥

pub record GivesNone (m : Moment) : Type 0 where
  pub next : m.call ≡ call.Next 0
  pub none : GaveNone m.answer

-- events are drawn until none is given, and laid out in the slots
pub record Drawn (s : State) (old : List Slot) (t : State) (new : List Slot) : Type 0 where
  pub told : List Moment
  pub events : List Event
  pub last : Moment
  pub gives : Gives told events
  pub gives_none : GivesNone last
  pub calls : CallsMade true s (told ++ (last ∷ [])) t
  pub slots : new ≡ laid events old
  pub inside : (size : ℕ) → BodyInside size s.body → EventsInside size events

-- The calls that read a PDU: open, next until it gives none, and close with the header that open answered. A refused open is the
-- only call. These events were given, and this is the last call. A close that accepts leaves the reader where the declared body ends.
pub data Reads : List Moment → List Event → Moment → Type 0 where
  not_opened : (m : Moment) → m.call ≡ call.Open → Refuses m.answer → Reads (m ∷ []) [] m
  to_the_end : (m : Moment) {h : Header} (told : List Moment) (events : List Event) (last n : Moment) → m.call ≡ call.Open → m.answer ≡ answer.Opened h → Gives told events → GivesNone last →
      n.call ≡ call.Close (record { start = h.start; length = h.length }) → ((k : Closed) → n.answer ≡ answer.Closed k → n.count ≡ h.start + h.length) → Reads (m ∷ (told ++ (last ∷ n ∷ []))) events n

-- what a call answered: this, or this refusal
abbrev pub Answers : Result Closed Refusal → Answer → Type 0
Answers (Ok k) a = a ≡ answer.Closed k
Answers (Err f) a = a ≡ answer.Refused f

-- a PDU was read, with this outcome
pub record ReadOut (s : State) (old : List Slot) (r : Result Closed Refusal) (t : State) (new : List Slot) : Type 0 where
  pub told : List Moment
  pub events : List Event
  pub last : Moment
  pub reads : Reads told events last
  pub calls : CallsMade true s told t
  pub answers : Answers r last.answer
  pub count : last.count ≡ t.body.reader.count
  pub counted : last.events ≡ (tally t).0
  pub slots : new ≡ laid events old
  pub inside : (size : ℕ) → Fits size s.body.reader → EventsInside size events

-- what the last call answered, in plain numbers: accepted exactly where close accepted, and else by the refusal that it told
abbrev pub Judged : Answer → Moment → Verdict → Type 0
Judged (answer.Closed k) m v = v ≡ acceptance m.events m.count
Judged (answer.Refused f) m v = v ≡ refusal_verdict f m.events m.count
Judged a m v = ⊥

-- a table was read by calls on a new decoder, each of which answered what it has to, and of which the law holds
pub record Surveyed (table : List ℕ) (old : List Slot) (v : Verdict) (new : List Slot) : Type 0 where
  pub told : List Moment
  pub events : List Event
  pub last : Moment
  pub reads : Reads told events last
  -- what the decoder held in the end
  pub left : State
  pub calls : CallsMade true (fresh (table_view table)) told left
  pub lawful : Law true (table_view table) told
  pub judged : Judged last.answer last v
  pub slots : new ≡ laid events old
  pub inside : EventsInside (length table) events
