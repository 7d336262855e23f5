-- A call by value, what it answers, and what can be seen then.
use Rattle.std.specs.Prelude.{◌≡◌, ℕ, Bool, List, [], ◌∷◌, ◌++◌, length, replicate, Some, None, Ok, Err, Option, Result}
use Rattle.source.specs.Feed.{fronted}
use Rattle.format.specs.declared.refusal.Refusal.{Refusal}
use Rattle.de.specs.declared.event.Event.{Event}
use Rattle.de.specs.declared.event.Refused.{Refused}
use Rattle.de.specs.declared.pdu.Extent.{Extent}
use Rattle.de.specs.declared.pdu.PduInfo.{PduInfo}
use Rattle.de.specs.declared.pdu.Closed.{Closed}
use Rattle.de.specs.declared.entry.Call.{Call}
use Rattle.de.specs.declared.entry.Call.TheVariants as call
use Rattle.de.specs.declared.entry.Answer.{Answer}
use Rattle.de.specs.declared.entry.Answer.TheVariants as answer
use Rattle.de.specs.declared.entry.Entry.{Entry}
use Rattle.de.specs.Calls.{State, Meets, open_call, next_call, next_puts, SkipCall, close_call, tally}

-- one call, what it answered, the reader's count then, what the question then tells, and the text buffer then
pub record Moment : Type 0 where
  pub call : Call
  pub answer : Answer
  pub count : ℕ
  pub events : ℕ
  pub bytes : ℕ
  pub text : List ℕ

-- the refusal that the decoder tells
abbrev pub AsTold : Option Refusal → Answer → Type 0
AsTold (Some f) a = a ≡ answer.Refused f
AsTold None a = ⊥

abbrev pub OpenAnswer : Result PduInfo Refused → State → Answer → Type 0
OpenAnswer (Ok p) t a = a ≡ answer.Opened p.header
OpenAnswer (Err e) t a = AsTold t.refused a

abbrev pub NextAnswer : Result (Option Event) Refused → State → Answer → Type 0
NextAnswer (Ok (Some e)) t a = a ≡ answer.Gave e
NextAnswer (Ok None) t a = a ≡ answer.Done
NextAnswer (Err e) t a = AsTold t.refused a

abbrev pub SkipAnswer : Result ℕ Refused → State → Answer → Type 0
SkipAnswer (Ok n) t a = a ≡ answer.Skipped n
SkipAnswer (Err e) t a = AsTold t.refused a

abbrev pub CloseAnswer : Result Closed Refused → State → Answer → Type 0
CloseAnswer (Ok c) t a = a ≡ answer.Closed c
CloseAnswer (Err e) t a = AsTold t.refused a

pub record Made {A : Type 0} (does : Result A Refused → State → Type 0) (says : Result A Refused → State → Answer → Type 0) (a : Answer) (t : State) : Type 0 where
  pub result : Result A Refused
  pub meets : does result t
  pub answers : says result t a

-- a token with these numbers
abbrev pub token : ℕ → Extent → PduInfo
token c e = record { header = record { capabilities = c; start = e.start; length = e.length } }

abbrev pub MadeBy : Bool → State → Call → Answer → List ℕ → State → Type 0
MadeBy lends s call.Open a x t = Made (Meets (open_call lends s)) OpenAnswer a t × (x ≡ [])
MadeBy lends s (call.Next room) a x t = Made (Meets (next_call lends room s)) NextAnswer a t × (x ≡ fronted (next_puts s.latched lends room s) (replicate room 0))
MadeBy lends s call.Skip a x t = Made (SkipCall lends s) SkipAnswer a t × (x ≡ [])
MadeBy lends s (call.Close e) a x t = Made (Meets (close_call (token 0 e) s)) CloseAnswer a t × (x ≡ [])

-- the same with a text buffer that holds something
abbrev pub MadeWith : Bool → State → Call → Answer → List ℕ → List ℕ → State → Type 0
MadeWith lends s call.Open a x y t = Made (Meets (open_call lends s)) OpenAnswer a t × (y ≡ x)
MadeWith lends s (call.Next room) a x y t = Made (Meets (next_call lends (length x) s)) NextAnswer a t × (y ≡ fronted (next_puts s.latched lends (length x) s) x)
MadeWith lends s call.Skip a x y t = Made (SkipCall lends s) SkipAnswer a t × (y ≡ x)
MadeWith lends s (call.Close e) a x y t = Made (Meets (close_call (token 0 e) s)) CloseAnswer a t × (y ≡ x)

-- this moment is that of this call in this state, which becomes that one
pub record Logged (lends : Bool) (s : State) (m : Moment) (t : State) : Type 0 where
  pub made : MadeBy lends s m.call m.answer m.text t
  pub counts : m.count ≡ t.body.reader.count
  pub told_events : m.events ≡ (tally t).0
  pub told_bytes : m.bytes ≡ (tally t).1

-- these calls were made one after the other, from one state to another
pub data CallsMade (lends : Bool) (s : State) : List Moment → State → Type 0 where
  none_made : CallsMade lends s [] s
  one_more : {h : List Moment} {t u : State} (m : Moment) → CallsMade lends s h t → Logged lends t m u → CallsMade lends s (h ++ (m ∷ [])) u

-- an entry of a log
abbrev pub moment : Entry → Moment
moment e = record { call = e.call; answer = e.answer; count = e.count; events = e.events; bytes = e.bytes; text = e.text.items }
