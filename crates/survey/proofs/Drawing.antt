-- Calls of next that draw events: what each leaves, and what all of them have laid out.
use Rattle.std.proofs.Common.{◌≡◌, ℕ, suc, ◌+◌, ◌<◌, ◌≤◌, min, true, List, [], ◌∷◌, ◌++◌, length, set, Some, None, Ok, Err, Option, Result, refl, sym, ap, ◌∙◌, subst, arith}
use Rattle.source.specs.Feed.{fronted}
use Rattle.format.specs.declared.refusal.Refusal.{Refusal}
use Rattle.de.specs.declared.event.Event.{Event}
use Rattle.de.specs.declared.event.Refused.{Refused}
use Rattle.de.specs.declared.pdu.Extent.{Extent}
use Rattle.de.specs.declared.entry.Call.TheVariants as call
use Rattle.de.specs.declared.entry.Answer.{Answer}
use Rattle.de.specs.declared.entry.Answer.TheVariants as answer
use Rattle.de.specs.Steps.{Body, Out, gives, stops, step}
use Rattle.de.specs.Calls.{State, Answered, gave, told, cut, Meets, next_by, next_turn, next_call, next_puts, tally, unless_latched}
use Rattle.de.specs.Made.{Moment, AsTold, NextAnswer, Logged, CallsMade, none_made, one_more}
use Rattle.de.proofs.Falling.{left, step_falls}
use Rattle.survey.specs.declared.slot.Slot.{Slot}
use Rattle.survey.specs.Slots.{slot_of, laid}
use Rattle.survey.specs.Inside.{EventInside, EventsInside, BodyInside}
use Rattle.survey.proofs.Inside.{StepInside, step_inside}
use Rattle.survey.specs.Surveys.{Gives, GaveNone, Drawn}

-- ---- one call

-- a refused call tells its refusal
pub meets_refused : {A : Type 0} (r : Refused) (t : State) (m : Answered A) → Meets m (Err r) t → (f : Refusal) × (t.refused ≡ Some f)
meets_refused r t (gave a s) (e, same) = absurd (cc)
meets_refused r t (told f s) (e, same) = (f, ap (λ (s : State). s.refused) same)
meets_refused r t (cut f s) (e, off) = (f, off.refused)

pub as_told : {o : Option Refusal} {f : Refusal} → o ≡ Some f → AsTold o (answer.Refused f)
as_told {f = f} e = subst (λ o. AsTold o (answer.Refused f)) (sym e) refl

-- a call of next with no room for text, seen from outside
abbrev pub next_moment : State → State → Answer → Moment
next_moment s t a = record { call = call.Next 0; answer = a; count = t.body.reader.count; events = (tally t).0; bytes = (tally t).1; text = fronted (next_puts s.latched true 0 s) [] }

next_logged : {s t : State} {a : Answer} (r : Result (Option Event) Refused) → Meets (next_call true 0 s) r t → NextAnswer r t a → Logged true s (next_moment s t a) t
next_logged r meets answers = record { made = (record { result = r; meets = meets; answers = answers }, refl); counts = refl; told_events = refl; told_bytes = refl }

-- an event was given by a step
record Steps (s t : State) (e : Event) : Type 0 where
  body : Body
  front : List ℕ
  gave : step true (Some 0) s.body ≡ gives (Some e) body front
  same : t.body ≡ body

next_steps : (s t : State) (e : Event) → Meets (next_call true 0 s) (Ok (Some e)) t → Steps s t e
next_steps s t e h = latch s.latched h
  where
    by : (o : Out) → step true (Some 0) s.body ≡ o → Meets (next_by o s) (Ok (Some e)) t → Steps s t e
    by (gives o b x) is (comes, same) =
        let given : o ≡ Some e = cc in
        record { body = b; front = x; gave = is ∙ ap (λ o. gives o b x) given; same = ap (λ (s : State). s.body) same }
    by (stops f b x) is (comes, off) = absurd (cc)

    turn : (p : Option Extent) → Meets (next_turn p true 0 s) (Ok (Some e)) t → Steps s t e
    turn None (comes, same) = absurd (cc)
    turn (Some p) meets = by (step true (Some 0) s.body) refl meets

    latch : (o : Option Refusal) → Meets (unless_latched o s (next_turn s.pdu true 0 s)) (Ok (Some e)) t → Steps s t e
    latch (Some f) (comes, same) = absurd (cc)
    latch None meets = turn s.pdu meets

-- less is left then
pub next_falls : (s t : State) (e : Event) → Meets (next_call true 0 s) (Ok (Some e)) t → left t.body < left s.body
next_falls s t e h = let q = next_steps s t e h in subst (λ b. left b < left s.body) (sym q.same) (step_falls true (Some 0) s.body e q.body q.front q.gave)

next_inside : (size : ℕ) (s t : State) (e : Event) → Meets (next_call true 0 s) (Ok (Some e)) t → BodyInside size s.body → EventInside size e × BodyInside size t.body
next_inside size s t e h inside =
    let q = next_steps s t e h in
    subst (λ b. EventInside size e × BodyInside size b) (sym q.same) (subst (λ o. StepInside size o) q.gave (step_inside size (Some 0) s.body inside))

-- ---- events in slots

gives_more : (h : List Moment) (es : List Event) (m : Moment) (e : Event) → Gives h es → m.call ≡ call.Next 0 → m.answer ≡ answer.Gave e → Gives (h ++ (m ∷ [])) (es ++ (e ∷ []))
gives_more [] [] m e g is given = (is, given, tt)
gives_more [] (f ∷ es) m e g is given = absurd g
gives_more (n ∷ h) [] m e g is given = absurd g
gives_more (n ∷ h) (f ∷ es) m e (next, event, g) is given = (next, event, gives_more h es m e g is given)

inside_more : (size : ℕ) (es : List Event) (e : Event) → EventsInside size es → EventInside size e → EventsInside size (es ++ (e ∷ []))
inside_more size [] e all one = (one, tt)
inside_more size (f ∷ es) e (first, all) one = (first, inside_more size es e all one)

-- one more event goes to the first slot that is free
laid_more : (es : List Event) (e : Event) (xs : List Slot) → length es < length xs → laid (es ++ (e ∷ [])) xs ≡ set (laid es xs) (length es) (slot_of e)
laid_more [] e [] h = absurd (omega arith)
laid_more [] e (x ∷ xs) h = refl
laid_more (f ∷ es) e [] h = absurd (omega arith)
laid_more (f ∷ es) e (x ∷ xs) h = ap (λ l. slot_of f ∷ l) (laid_more es e xs (omega arith))

-- or nowhere, where none is free
laid_full : (es : List Event) (e : Event) (xs : List Slot) → length xs ≤ length es → laid (es ++ (e ∷ [])) xs ≡ laid es xs
laid_full [] e [] h = refl
laid_full [] e (x ∷ xs) h = absurd (omega arith)
laid_full (f ∷ es) e [] h = refl
laid_full (f ∷ es) e (x ∷ xs) h = ap (λ l. slot_of f ∷ l) (laid_full es e xs (omega arith))

pub length-laid : (es : List Event) (xs : List Slot) → length (laid es xs) ≡ length xs
length-laid [] xs = refl
length-laid (e ∷ es) [] = refl
length-laid (e ∷ es) (x ∷ xs) = ap suc (length-laid es xs)

length-more : {A : Type 0} (xs : List A) (x : A) → length (xs ++ (x ∷ [])) ≡ suc (length xs)
length-more [] x = refl
length-more (y ∷ xs) x = ap suc (length-more xs x)

-- ---- several calls

-- these events have been drawn, and so many slots are filled
pub record Going (s : State) (old : List Slot) (t : State) (new : List Slot) (filled : ℕ) : Type 0 where
  pub told : List Moment
  pub events : List Event
  pub gives : Gives told events
  pub calls : CallsMade true s told t
  pub slots : new ≡ laid events old
  pub inside : (size : ℕ) → BodyInside size s.body → EventsInside size events × BodyInside size t.body
  pub filled_most : filled ≡ min (length events) (length old)

module _ {s : State} {old : List Slot} where
  pub going_first : Going s old s old 0
  going_first = record { told = []; events = []; gives = tt; calls = none_made; slots = refl; inside = λ size h. (tt, h); filled_most = omega arith }

  more : {t u : State} {new last : List Slot} {n k : ℕ} (e : Event) (g : Going s old t new n) → Meets (next_call true 0 t) (Ok (Some e)) u → last ≡ laid (g.events ++ (e ∷ [])) old →
      k ≡ min (length (g.events ++ (e ∷ []))) (length old) →
      Going s old u last k
  more {t} {u} e g meets put filled = record {
    told = g.told ++ (next_moment t u (answer.Gave e) ∷ []);
    events = g.events ++ (e ∷ []);
    gives = gives_more g.told g.events _ e g.gives refl refl;
    calls = one_more (next_moment t u (answer.Gave e)) g.calls (next_logged (Ok (Some e)) meets refl);
    slots = put;
    inside = λ size h. let (all, held) = g.inside size h in let (one, then) = next_inside size t u e meets held in (inside_more size g.events e all one, then);
    filled_most = filled;
  }

  -- one more event that finds a slot
  pub going_laid : {t u : State} {new last : List Slot} {n : ℕ} (e : Event) → Going s old t new n → Meets (next_call true 0 t) (Ok (Some e)) u → n < length new → last ≡ set new n (slot_of e) →
      Going s old u last (n + 1)
  going_laid {new = new} {n = n} e g meets free put =
      let filled = g.filled_most in
      let same : length new ≡ length old = ap length g.slots ∙ length-laid g.events old in
      let here : n ≡ length g.events = omega arith in
      more e g meets (put ∙ ap (λ l. set l n (slot_of e)) g.slots ∙ ap (λ k. set (laid g.events old) k (slot_of e)) here ∙ sym (laid_more g.events e old (omega arith)))
      (let long = length-more g.events e in omega arith)

  -- one more that finds none
  pub going_full : {t u : State} {new : List Slot} {n : ℕ} (e : Event) → Going s old t new n → Meets (next_call true 0 t) (Ok (Some e)) u → length new ≤ n → Going s old u new n
  going_full {new = new} {n = n} e g meets full =
      let filled = g.filled_most in
      let same : length new ≡ length old = ap length g.slots ∙ length-laid g.events old in
      more e g meets (g.slots ∙ sym (laid_full g.events e old (omega arith))) (let long = length-more g.events e in omega arith)

  with_last : {t u : State} {new : List Slot} {n : ℕ} (a : Answer) → GaveNone a → Going s old t new n → Logged true t (next_moment t u a) u → Drawn s old u new
  with_last {t} {u} a none g logged = record {
    told = g.told;
    events = g.events;
    last = next_moment t u a;
    gives = g.gives;
    gives_none = record { next = refl; none = none };
    calls = one_more (next_moment t u a) g.calls logged;
    slots = g.slots;
    inside = λ size h. (g.inside size h).0;
  }

  -- none is left
  pub drawn_none : {t u : State} {new : List Slot} {n : ℕ} → Going s old t new n → Meets (next_call true 0 t) (Ok None) u → Drawn s old u new
  drawn_none g meets = with_last answer.Done tt g (next_logged (Ok None) meets refl)

  -- the next one is refused
  pub drawn_refused : {t u : State} {new : List Slot} {n : ℕ} (r : Refused) → Going s old t new n → Meets (next_call true 0 t) (Err r) u → Drawn s old u new
  drawn_refused {t} {u} r g meets = let (f, is) = meets_refused r u (next_call true 0 t) meets in with_last (answer.Refused f) tt g (next_logged (Err r) meets (as_told is))
