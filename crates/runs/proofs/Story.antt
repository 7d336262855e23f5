-- What is kept over a list of calls, and what it says of the last of them.
use Rattle.std.proofs.Common.{◌≡◌, ℕ, ◌+◌, ◌-◌, ◌≤◌, min, Bool, false, List, [], ◌∷◌, ◌++◌, length, take, Some, None, Option, ◌⊎◌, inl, inr, refl, sym, ap, ◌∙◌, subst, append-nil, arith}
use Rattle.read.specs.Reader.{View}
use Rattle.format.specs.Numbers.{latching}
use Rattle.format.specs.declared.refusal.Refusal.{Refusal}
use Rattle.values.specs.Values.{Value, Event}
use Rattle.de.specs.declared.pdu.Extent.{Extent}
use Rattle.de.specs.declared.entry.Call.{Call}
use Rattle.de.specs.declared.entry.Call.TheVariants as call
use Rattle.de.specs.declared.entry.Answer.TheVariants as answer
use Rattle.de.specs.Steps.{Body}
use Rattle.de.specs.Calls.{State, fresh, telling, up_to, tally}
use Rattle.de.specs.Made.{Moment}
use Rattle.runs.specs.Law.{all_bytes, from, Phase, none_yet, running, over, left, phase, phase_after, open_pdu, for_good, Agrees, RefusedAgrees, Passed, moves, taken_to, Truthful, Idle, Whole}
use Rattle.runs.proofs.Taking.{levels}
use Rattle.runs.proofs.Reached.{Reached}
use Rattle.runs.proofs.Bodies.{Drawn, Passing, bytes_taken, Live, Stuck}
use Rattle.runs.proofs.Moments.{last_same, phase_last, agrees_refused, Latch, drawn_of, latched_first, latch_still}

-- ---- the story of the PDU that was opened last

-- it is open
pub data InPdu (lends : Bool) (v : View) (start size : ℕ) (taken : List ℕ) (es : List Event) (b : Body) : Option Refusal → Type 0 where
  goes_on : Live lends v start size taken es b → InPdu lends v start size taken es b None
  stands_still : {f : Refusal} → Stuck lends v start size taken es f b → InPdu lends v start size taken es b (Some f)

-- it is open, has been closed, or has been closed with a call of open behind it
pub data Stands (lends : Bool) (v : View) (start size : ℕ) (taken : List ℕ) (es : List Event) (s : State) (p : Phase) : Type 0 where
  in_pdu : p ≡ running (record { start = start; length = size }) → s.pdu ≡ Some (record { start = start; length = size }) → InPdu lends v start size taken es s.body s.latched →
      Stands lends v start size taken es s p
  behind_it : p ≡ over (record { start = start; length = size }) → s.pdu ≡ None → s.body.reader.count ≤ start + size → Stands lends v start size taken es s p
  off_it : p ≡ left (record { start = start; length = size }) → s.pdu ≡ None → Stands lends v start size taken es s p

-- what has passed of it, and what the decoder holds
pub record Story (lends : Bool) (v : View) (h : List Moment) (s : State) : Type 0 where
  pub start : ℕ
  pub size : ℕ
  pub taken : List ℕ
  pub es : List Event
  pub passed : Passed lends v h es (start + length taken)
  pub passing : Passing lends v start size taken es s.body
  pub small : start + size ≤ 1152921504606846976
  pub last : s.last ≡ record { start = start; length = size }
  pub after : start + length taken ≤ up_to s.latched s
  pub stands : Stands lends v start size taken es s (phase h)

-- no PDU was opened yet
pub record Untouched (h : List Moment) (s : State) : Type 0 where
  pub none : phase h ≡ none_yet
  pub idle : (g : List Moment) (m : Moment) → h ≡ g ++ (m ∷ []) → Idle m
  pub closed : s.pdu ≡ None
  pub no_events : s.body.events ≡ 0
  pub no_bytes : s.last ≡ record { start = 0; length = 0 }

-- what is kept over the calls
pub record Kept (lends : Bool) (v : View) (h : List Moment) (s : State) : Type 0 where
  pub latch : Latch lends v h s.body.reader s.latched
  pub tale : Untouched h s ⊎ Story lends v h s

-- the moment tells what the question tells in this state
pub record Tells (m : Moment) (t : State) : Type 0 where
  pub events : m.events ≡ (tally t).0
  pub bytes : m.bytes ≡ (tally t).1

-- the PDU that is open is the one that the moments say
pub pdu_told : {lends : Bool} {v : View} {h : List Moment} {s : State} → Kept lends v h s → s.pdu ≡ open_pdu (phase h)
pdu_told {lends} {v} {h} {s} k = go k.tale
  where
    by : {start size : ℕ} {taken : List ℕ} {es : List Event} → Stands lends v start size taken es s (phase h) → s.pdu ≡ open_pdu (phase h)
    by (in_pdu is own i) = own ∙ sym (ap open_pdu is)
    by (behind_it is shut i) = shut ∙ sym (ap open_pdu is)
    by (off_it is shut) = shut ∙ sym (ap open_pdu is)

    go : Untouched h s ⊎ Story lends v h s → s.pdu ≡ open_pdu (phase h)
    go (inl u) = u.closed ∙ sym (ap open_pdu u.none)
    go (inr y) = by y.stands

-- ---- what the story says of the last moment

pub running_inside : {lends : Bool} {v : View} {start size : ℕ} {taken : List ℕ} {es : List Event} {b : Body} {o : Option Refusal} → InPdu lends v start size taken es b o →
    b.reader.count ≤ start + size
running_inside (goes_on l) = l.inside
running_inside (stands_still l) = l.inside

pub truth : {lends : Bool} {v : View} {h : List Moment} {s : State} (y : Story lends v h s) (m : Moment) {r : Option Refusal} → s.latched ≡ r → m.count ≡ s.body.reader.count →
    Tells m s → Truthful v y.start y.size r y.es (y.start + length y.taken) m
truth {lends} {v} {h} {s} y m {r} latched counts tells = record {
  every = λ w formed (rest, begins). let (x, told, completes) = reached.every w formed rest (begins ∙ ap (λ l. l ++ rest) bytes) in (x, told);
  some = let (w, formed, rest, begins) = reached.some in (w, formed, (rest, begins ∙ ap (λ l. l ++ rest) (sym bytes)));
  counted = tells.events ∙ y.passing.counts;
  few = let paid = reached.paid in omega arith;
  reach = rw told (let after = y.after in let fits = y.passing.fits in omega arith);
  told_bytes = told ∙ ap (λ n. min n (y.start + y.size) - y.start) (place s.latched ∙ ap (λ o. taken_to o m.count) latched);
}
  where
    reached : Reached lends y.taken y.es (levels (all_bytes v) s.body.opens)
    reached = y.passing.reached

    bytes : take (y.start + length y.taken - y.start) (from v y.start) ≡ y.taken
    bytes = bytes_taken y.passing

    place : (o : Option Refusal) → up_to o s ≡ taken_to o m.count
    place None = sym counts
    place (Some f) = refl

    told : m.bytes ≡ min (up_to s.latched s) (y.start + y.size) - y.start
    told = tells.bytes ∙ ap (λ (e : Extent). min (up_to s.latched s) (e.start + e.length) - e.start) y.last

pub stays_inside : {lends : Bool} {v : View} {h : List Moment} {s : State} (y : Story lends v h s) → (phase h ≡ left (record { start = y.start; length = y.size }) → ⊥) →
    s.body.reader.count ≤ y.start + y.size
stays_inside {lends} {v} {h} {s} y on = go y.stands
  where
    go : Stands lends v y.start y.size y.taken y.es s (phase h) → s.body.reader.count ≤ y.start + y.size
    go (in_pdu is own i) = running_inside i
    go (behind_it is shut n) = n
    go (off_it is shut) = absurd (on is)

-- ---- one more moment

pub story_on : {lends : Bool} {v : View} {h : List Moment} {s : State} (y : Story lends v h s) (m : Moment) (t : State) (more : List Event) (taken : List ℕ) →
    Agrees lends v m m.answer more (y.start + length y.taken) (y.start + length taken) → Passing lends v y.start y.size taken (y.es ++ more) t.body → t.last ≡ s.last → y.start + length taken ≤ up_to t.latched t →
    Stands lends v y.start y.size taken (y.es ++ more) t (phase_after (phase h) m.call m.answer) → Story lends v (h ++ (m ∷ [])) t
story_on {lends} {v} {h} y m t more taken agrees passing last after stands = record {
  start = y.start;
  size = y.size;
  taken = taken;
  es = y.es ++ more;
  passed = moves h m more y.passed agrees;
  passing = passing;
  small = y.small;
  last = last ∙ y.last;
  after = after;
  stands = subst (λ p. Stands lends v y.start y.size taken (y.es ++ more) t p) (sym (phase_last none_yet h m)) stands;
}

-- no event has passed
pub story_still : {lends : Bool} {v : View} {h : List Moment} {s : State} (y : Story lends v h s) (m : Moment) (t : State) →
    Agrees lends v m m.answer [] (y.start + length y.taken) (y.start + length y.taken) → Passing lends v y.start y.size y.taken y.es t.body → t.last ≡ s.last → y.start + length y.taken ≤ up_to t.latched t →
    Stands lends v y.start y.size y.taken y.es t (phase_after (phase h) m.call m.answer) → Story lends v (h ++ (m ∷ [])) t
story_still {lends} {v} {h} y m t agrees passing last after stands =
    story_on y m t [] y.taken agrees (subst (λ es. Passing lends v y.start y.size y.taken es t.body) (sym (append-nil y.es)) passing) last after
    (subst (λ es. Stands lends v y.start y.size y.taken es t (phase_after (phase h) m.call m.answer)) (sym (append-nil y.es)) stands)

-- a refused call that leaves an open PDU open leaves all phases but that a call of open leaves a closed one
stands_on : {lends : Bool} {v : View} {start size : ℕ} {taken : List ℕ} {es : List Event} {s : State} {p : Phase} (c : Call) (f : Refusal) → Stands lends v start size taken es s p →
    ((e : Extent) → phase_after (running e) c (answer.Refused f) ≡ running e) → Stands lends v start size taken es s (phase_after p c (answer.Refused f))
stands_on c f (in_pdu is own i) on = in_pdu (ap (λ p. phase_after p c (answer.Refused f)) is ∙ on _) own i
stands_on call.Open f (behind_it is shut n) on = off_it (ap (λ p. phase_after p call.Open (answer.Refused f)) is) shut
stands_on (call.Next room) f (behind_it is shut n) on = behind_it is shut n
stands_on call.Skip f (behind_it is shut n) on = behind_it is shut n
stands_on (call.Close e) f (behind_it is shut n) on = behind_it (ap (λ p. phase_after p (call.Close e) (answer.Refused f)) is) shut n
stands_on call.Open f (off_it is shut) on = off_it (ap (λ p. phase_after p call.Open (answer.Refused f)) is) shut
stands_on (call.Next room) f (off_it is shut) on = off_it is shut
stands_on call.Skip f (off_it is shut) on = off_it is shut
stands_on (call.Close e) f (off_it is shut) on = off_it (ap (λ p. phase_after p (call.Close e) (answer.Refused f)) is) shut

-- before any PDU was opened

pub untouched_first : (v : View) → Untouched [] (fresh v)
untouched_first v = record { none = refl; idle = λ g m e. never g e; closed = refl; no_events = refl; no_bytes = refl }
  where
    never : (g : List Moment) {m : Moment} → [] ≡ g ++ (m ∷ []) → Idle m
    never [] e = absurd (cc)
    never (x ∷ g) e = absurd (cc)

none_opened : (c : Call) (f : Refusal) → phase_after none_yet c (answer.Refused f) ≡ none_yet
none_opened call.Open f = refl
none_opened (call.Next room) f = refl
none_opened call.Skip f = refl
none_opened (call.Close e) f = refl

pub untouched_on : {h : List Moment} {s : State} → Untouched h s → (m : Moment) (t : State) {f : Refusal} → m.answer ≡ answer.Refused f → t.pdu ≡ s.pdu →
    t.body.events ≡ s.body.events → t.last ≡ s.last → Tells m t →
    Untouched (h ++ (m ∷ [])) t
untouched_on {h} u m t {f} a pdu events last tells = record {
  none = phase_last none_yet h m ∙ ap (λ p. phase_after p m.call m.answer) u.none ∙ ap (phase_after none_yet m.call) a ∙ none_opened m.call f;
  idle = λ g n e. let (before, same) = last_same h g e in subst Idle same idle;
  closed = pdu ∙ u.closed;
  no_events = events ∙ u.no_events;
  no_bytes = last ∙ u.no_bytes;
}
  where
    idle : Idle m
    idle = record {
      refuses = (f, a);
      no_events = tells.events ∙ events ∙ u.no_events;
      no_bytes = tells.bytes ∙ ap (λ (e : Extent). min (up_to t.latched t) (e.start + e.length) - e.start) (last ∙ u.no_bytes) ∙ omega arith;
    }

-- the place that is asked for hangs on the body alone
pub same_place : (o : Option Refusal) (s t : State) → t.body ≡ s.body → up_to o t ≡ up_to o s
same_place None s t e = ap (λ b. b.reader.count) e
same_place (Some f) s t e = refl

-- a refusal that changes nothing
pub quiet : {lends : Bool} {v : View} {h : List Moment} {s t : State} (m : Moment) (f : Refusal) → Kept lends v h s → t ≡ telling f s → m.answer ≡ answer.Refused f →
    (s.latched ≡ None → latching f.cause ≡ false) →
    ((e : Extent) → phase_after (running e) m.call (answer.Refused f) ≡ running e) → ((c : ℕ) → c ≤ up_to s.latched s → RefusedAgrees m.call f [] c c) → Tells m t → Kept lends v (h ++ (m ∷ [])) t
quiet {lends} {v} {h} {s} {t} m f k is a free on agrees tells = subst (λ t. Kept lends v (h ++ (m ∷ [])) t) (sym is) (record { latch = latch_still m k.latch a free; tale = go k.tale })
  where
    same : {start size : ℕ} {taken : List ℕ} {es : List Event} → Stands lends v start size taken es s (phase h) → Stands lends v start size taken es (telling f s) (phase h)
    same (in_pdu is own i) = in_pdu is own i
    same (behind_it is shut n) = behind_it is shut n
    same (off_it is shut) = off_it is shut

    go : Untouched h s ⊎ Story lends v h s → Untouched (h ++ (m ∷ [])) (telling f s) ⊎ Story lends v (h ++ (m ∷ [])) (telling f s)
    go (inl u) = inl (untouched_on u m (telling f s) a refl refl refl (subst (λ t. Tells m t) is tells))
    go (inr y) =
        let c = y.start + length y.taken in
        inr (story_still y m (telling f s) (agrees_refused lends v m c a (agrees c y.after)) y.passing refl (rw (same_place s.latched s (telling f s) refl) y.after)
        (subst (λ a. Stands lends v y.start y.size y.taken y.es (telling f s) (phase_after (phase h) m.call a)) (sym a) (stands_on m.call f (same y.stands) on)))

-- ---- while a PDU is open and no call was refused for good

pub record Ongoing (lends : Bool) (v : View) (h : List Moment) (s : State) : Type 0 where
  pub story : Story lends v h s
  pub on : phase h ≡ running (record { start = story.start; length = story.size })
  pub own : s.pdu ≡ Some (record { start = story.start; length = story.size })
  pub live : Live lends v story.start story.size story.taken story.es s.body
  pub drawn : Drawn lends v s.body.reader
  pub unlatched : for_good h ≡ None

pub ongoing : {lends : Bool} {v : View} {h : List Moment} {s : State} {e : Extent} → Kept lends v h s → s.latched ≡ None → s.pdu ≡ Some e → Ongoing lends v h s
ongoing {lends} {v} {h} {s} {e} k loose own = go k.tale
  where
    going : (y : Story lends v h s) {o : Option Refusal} → InPdu lends v y.start y.size y.taken y.es s.body o → o ≡ None → phase h ≡ running (record { start = y.start; length = y.size }) →
        s.pdu ≡ Some (record { start = y.start; length = y.size }) → Ongoing lends v h s
    going y (goes_on l) n on own = record { story = y; on = on; own = own; live = l; drawn = drawn_of k.latch loose; unlatched = sym (latched_first k.latch) ∙ loose }
    going y (stands_still l) n on own = absurd (cc)

    by : (y : Story lends v h s) → Stands lends v y.start y.size y.taken y.es s (phase h) → Ongoing lends v h s
    by y (in_pdu is own i) = going y i loose is own
    by y (behind_it is shut n) = absurd (cc)
    by y (off_it is shut) = absurd (cc)

    go : Untouched h s ⊎ Story lends v h s → Ongoing lends v h s
    go (inl u) = let shut = u.closed in absurd (cc)
    go (inr y) = by y y.stands

-- it stays open
pub stays : {lends : Bool} {v : View} {h : List Moment} {s : State} (g : Ongoing lends v h s) (m : Moment) (t : State) {taken : List ℕ} {es : List Event} →
    ((e : Extent) → phase_after (running e) m.call m.answer ≡ running e) → t.pdu ≡ s.pdu →
    InPdu lends v g.story.start g.story.size taken es t.body t.latched → Stands lends v g.story.start g.story.size taken es t (phase_after (phase h) m.call m.answer)
stays g m t on pdu i = in_pdu (ap (λ p. phase_after p m.call m.answer) g.on ∙ on _) (pdu ∙ g.own) i

-- while the moments say that it is open
pub in_pdu_now : {lends : Bool} {v : View} {h : List Moment} {s : State} (y : Story lends v h s) → phase h ≡ running (record { start = y.start; length = y.size }) →
    (s.pdu ≡ Some (record { start = y.start; length = y.size })) × InPdu lends v y.start y.size y.taken y.es s.body s.latched
in_pdu_now {lends} {v} {h} {s} y on = go y.stands
  where
    go : Stands lends v y.start y.size y.taken y.es s (phase h) → (s.pdu ≡ Some (record { start = y.start; length = y.size })) × InPdu lends v y.start y.size y.taken y.es s.body s.latched
    go (in_pdu is own i) = (own, i)
    go (behind_it is shut n) = absurd (cc)
    go (off_it is shut) = absurd (cc)

pub live_now : {lends : Bool} {v : View} {start size : ℕ} {taken : List ℕ} {es : List Event} {b : Body} {o : Option Refusal} → InPdu lends v start size taken es b o → o ≡ None →
    Live lends v start size taken es b
live_now (goes_on l) loose = l
live_now (stands_still l) loose = absurd (cc)

-- over a whole body no call of an open PDU was refused for good
pub unstuck : {lends : Bool} {v : View} {start size : ℕ} {taken : List ℕ} {es : List Event} {b : Body} {o : Option Refusal} → InPdu lends v start size taken es b o → (w : Value) →
    Whole lends v start size w → o ≡ None
unstuck (goes_on l) w whole = refl
unstuck (stands_still l) w whole = absurd (l.none_whole w whole)
