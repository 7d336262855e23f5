-- The law of any list of calls.
use Rattle.std.proofs.Common.{◌≡◌, ℕ, ◌+◌, ◌≤◌, Bool, arith, List, [], ◌∷◌, ◌++◌, Some, None, Ok, Err, Option, Result, ◌⊎◌, inl, inr, refl, sym, ap, subst₂, ◌∙◌, subst, length, append_assoc, append-nil}
use Rattle.read.specs.Reader.{View, Sound}
use Rattle.format.specs.declared.refusal.Refusal.{Refusal}
use Rattle.format.specs.Numbers.{number_of}
use Rattle.values.specs.Values.{Value}
use Rattle.de.specs.declared.event.Event.{Event}
use Rattle.de.specs.declared.event.Refused.{Refused}
use Rattle.de.specs.declared.pdu.PduInfo.{PduInfo}
use Rattle.de.specs.declared.pdu.Closed.{Closed}
use Rattle.de.specs.declared.entry.Call.{Call}
use Rattle.de.specs.declared.entry.Call.TheVariants as call
use Rattle.de.specs.declared.entry.Answer.{Answer}
use Rattle.de.specs.declared.entry.Answer.TheVariants as answer
use Rattle.de.specs.Steps.{Body}
use Rattle.de.specs.Calls.{State, fresh}
use Rattle.de.specs.Made.{Moment, AsTold, OpenAnswer, NextAnswer, SkipAnswer, CloseAnswer, MadeBy, Logged, CallsMade, none_made, one_more}
use Rattle.runs.specs.Law.{running, phase, open_pdu, for_good, count_after, GoesOn, Reads, Whole, PassesEvents, NothingLeft, IfRefused, ForGood, ForGoodOrRoom, Turn, Still, Suits, PduStory, StoryBy, Law}
use Rattle.runs.proofs.Bodies.{drawn_none, has_ended, nothing_open}
use Rattle.runs.proofs.Moments.{last_same, uncaught, latched_first, latches_of}
use Rattle.runs.proofs.Turns.{asked, good_number, LeavesAll, leaves_all}
use Rattle.runs.proofs.Story.{Stands, in_pdu, behind_it, off_it, Untouched, untouched_first, Story, truth, stays_inside, Kept, pdu_told, Tells}
use Rattle.runs.proofs.Opening.{open_kept, opens_right, open_taken_up}
use Rattle.runs.proofs.Closing.{close_kept, closes_right, close_asked, close_leaves}
use Rattle.runs.proofs.Nexting.{next_kept, next_reads, next_taken_up, next_at_end, next_only_there}
use Rattle.runs.proofs.Skipping.{skip_kept, skip_reads, skip_taken_up, skip_at_end, skip_only_there}

-- ---- what is kept

kept_first : (lends : Bool) (v : View) → Kept lends v [] (fresh v)
kept_first lends v = record { latch = uncaught (drawn_none lends v) refl; tale = inl (untouched_first v) }

tells : {lends : Bool} {s t : State} {m : Moment} → Logged lends s m t → Tells m t
tells l = record { events = l.told_events; bytes = l.told_bytes }

kept_on : {lends : Bool} {v : View} {h : List Moment} {s t : State} → Sound lends v → Kept lends v h s → (m : Moment) → Logged lends s m t → Kept lends v (h ++ (m ∷ [])) t
kept_on {lends} {v} {h} {s} {t} sound k m l = go m.call refl l.made
  where
    go : (c : Call) → m.call ≡ c → MadeBy lends s c m.answer m.text t → Kept lends v (h ++ (m ∷ [])) t
    go call.Open is made = open_kept sound k m t is made.0 l.counts (tells l)
    go (call.Next room) is made = next_kept k m is made.0 made.1 l.counts (tells l)
    go call.Skip is made = skip_kept k m is made.0 l.counts (tells l)
    go (call.Close e) is made = close_kept k m is made.0 (tells l)

count_last : (n : ℕ) (h : List Moment) (m : Moment) → count_after n (h ++ (m ∷ [])) ≡ m.count
count_last n [] m = refl
count_last n (x ∷ h) m = count_last x.count h m

kept_all : {lends : Bool} {v : View} {h : List Moment} {t : State} → Sound lends v → CallsMade lends (fresh v) h t → Kept lends v h t
kept_all {lends} {v} sound none_made = kept_first lends v
kept_all sound (one_more m told l) = kept_on sound (kept_all sound told) m l

count_told : {lends : Bool} {v : View} {h : List Moment} {t : State} → CallsMade lends (fresh v) h t → t.body.reader.count ≡ count_after v.count h
count_told none_made = refl
count_told {v = v} (one_more {h = h} m told l) = sym l.counts ∙ sym (count_last v.count h m)

-- ---- what holds of one call

suits : {lends : Bool} {s t : State} (m : Moment) → Logged lends s m t → Suits m.call m.answer
suits {lends} {s} {t} m l = go m.call l.made
  where
    told_so : (c : Call) (a : Answer) (o : Option Refusal) → ((f : Refusal) → Suits c (answer.Refused f)) → AsTold o a → Suits c a
    told_so c a (Some f) fits e = subst (Suits c) (sym e) (fits f)
    told_so c a None fits e = absurd e

    opened : (r : Result PduInfo Refused) → OpenAnswer r t m.answer → Suits call.Open m.answer
    opened (Ok p) e = subst (Suits call.Open) (sym e) tt
    opened (Err r) e = told_so call.Open m.answer t.refused (λ f. tt) e

    given : (room : ℕ) (r : Result (Option Event) Refused) → NextAnswer r t m.answer → Suits (call.Next room) m.answer
    given room (Ok (Some e)) is = subst (Suits (call.Next room)) (sym is) tt
    given room (Ok None) is = subst (Suits (call.Next room)) (sym is) tt
    given room (Err r) e = told_so (call.Next room) m.answer t.refused (λ f. tt) e

    skipped : (r : Result ℕ Refused) → SkipAnswer r t m.answer → Suits call.Skip m.answer
    skipped (Ok n) e = subst (Suits call.Skip) (sym e) tt
    skipped (Err r) e = told_so call.Skip m.answer t.refused (λ f. tt) e

    closed : (e : _) (r : Result Closed Refused) → CloseAnswer r t m.answer → Suits (call.Close e) m.answer
    closed e (Ok c) is = subst (Suits (call.Close e)) (sym is) tt
    closed e (Err r) is = told_so (call.Close e) m.answer t.refused (λ f. tt) is

    go : (c : Call) → MadeBy lends s c m.answer m.text t → Suits c m.answer
    go call.Open made = opened made.0.result made.0.answers
    go (call.Next room) made = given room made.0.result made.0.answers
    go call.Skip made = skipped made.0.result made.0.answers
    go (call.Close e) made = closed e made.0.result made.0.answers

turn_right : {lends : Bool} {v : View} {h : List Moment} {s t : State} → Sound lends v → Kept lends v h s → (m : Moment) → Logged lends s m t → Turn lends (open_pdu (phase h)) (for_good h) m.call m.answer
turn_right {lends} {v} {h} {s} {t} sound k m l = subst₂ (λ p o. Turn lends p o m.call m.answer) (pdu_told k) (latched_first k.latch) (go m.call refl l.made)
  where
    go : (c : Call) → m.call ≡ c → MadeBy lends s c m.answer m.text t → Turn lends s.pdu s.latched c m.answer
    go call.Open is made = asked (open_taken_up sound k m t made.0)
    go (call.Next room) is made = asked (next_taken_up k m is made.0)
    go call.Skip is made = asked (skip_taken_up k m is made.0)
    go (call.Close e) is made = close_asked k m is made.0

nothing_taken : {lends : Bool} {v : View} {h : List Moment} {s t : State} → Sound lends v → Kept lends v h s → (m : Moment) → Logged lends s m t →
    s.body.reader.count ≡ count_after v.count h → Still (count_after v.count h) (for_good h) m
nothing_taken {lends} {v} {h} {s} {t} sound k m l counts = record {
  out_of_turn = λ f is few. let (place, body) = all.by_number f is few in (place ∙ counts, stays body);
  again = λ f first. stays (all.for_good f (latched_first k.latch ∙ first));
  closing = λ e is. stays (close_leaves k m is (subst (λ c. MadeBy lends s c m.answer m.text t) is l.made).0).0;
}
  where
    stays : t.body ≡ s.body → m.count ≡ count_after v.count h
    stays same = l.counts ∙ ap (λ (b : Body). b.reader.count) same ∙ counts

    latches : (f : Refusal) → s.latched ≡ Some f → ForGood f
    latches f caught = latches_of k.latch caught

    good : IfRefused ForGood m.answer → IfRefused (λ f. 3 ≤ number_of f.cause) m.answer
    good known f is = good_number f.cause (known f is)

    good_or_room : IfRefused (ForGoodOrRoom lends) m.answer → IfRefused (λ f. 3 ≤ number_of f.cause) m.answer
    good_or_room known f is = by (known f is)
      where
        by : ForGoodOrRoom lends f → 3 ≤ number_of f.cause
        by (inl latches) = good_number f.cause latches
        by (inr (copies, full)) = omega arith

    all : LeavesAll s t m.answer
    all = go m.call refl l.made
      where
        go : (c : Call) → m.call ≡ c → MadeBy lends s c m.answer m.text t → LeavesAll s t m.answer
        go call.Open is made = leaves_all latches good (open_taken_up sound k m t made.0)
        go (call.Next room) is made = leaves_all latches good_or_room (next_taken_up k m is made.0)
        go call.Skip is made = leaves_all latches good (skip_taken_up k m is made.0)
        go (call.Close e) is made = (close_leaves k m is made.0).1

goes_on : {lends : Bool} {v : View} {h : List Moment} {s t : State} → Kept lends v h s → (y : Story lends v h s) → phase h ≡ running (record { start = y.start; length = y.size }) →
    (m : Moment) → Logged lends s m t →
    GoesOn lends v y.start y.size (for_good h) y.es (y.start + length y.taken) m
goes_on {lends} {v} {h} {s} {t} k y on m l = record {
  closes = λ is. closes_right y on (latched_first k.latch) (subst (λ c. MadeBy lends s c m.answer m.text t) is l.made).0;
  reads = λ w whole. reads w whole m.call l.made;
  at_end = λ free w ended passing. at_end (latched_first k.latch ∙ free) (nothing_open y.passing w ended) m.call passing l.made;
  only_there = λ left. has_ended y.passing (only_there m.call left l.made);
}
  where
    reads : (w : Value) → Whole lends v y.start y.size w → (c : Call) → MadeBy lends s c m.answer m.text t → Reads lends w y.es c m.answer
    reads w whole call.Open made = tt
    reads w whole (call.Next room) made = next_reads y on w whole made.0
    reads w whole call.Skip made = skip_reads y on w whole made.0
    reads w whole (call.Close e) made = tt

    at_end : s.latched ≡ None → s.body.opens ≡ [] → (c : Call) → PassesEvents c → MadeBy lends s c m.answer m.text t → NothingLeft c m.answer
    at_end free closed call.Open passing made = absurd passing
    at_end free closed (call.Next room) passing made = next_at_end room y on made.0 free closed
    at_end free closed call.Skip passing made = skip_at_end y on made.0 free closed
    at_end free closed (call.Close e) passing made = absurd passing

    only_there : (c : Call) → NothingLeft c m.answer → MadeBy lends s c m.answer m.text t → s.body.opens ≡ []
    only_there call.Open left made = absurd left
    only_there (call.Next room) left made = next_only_there lends room s made.0 left
    only_there call.Skip left made = skip_only_there k made.0 left
    only_there (call.Close e) left made = absurd left

-- ---- the law

-- what was told up to a place in the list, and the moment that follows there
record Until (lends : Bool) (s : State) (g k : List Moment) : Type 0 where
  state : State
  told : CallsMade lends s g state
  next : (m : Moment) (l : List Moment) → k ≡ m ∷ l → (t : State) × Logged lends state m t

-- a list is empty or has a last
last_of : (k : List Moment) → (k ≡ []) ⊎ ((l : List Moment) × (m : Moment) × (k ≡ l ++ (m ∷ [])))
last_of [] = inl refl
last_of (x ∷ k) = go (last_of k)
  where
    go : (k ≡ []) ⊎ ((l : List Moment) × (m : Moment) × (k ≡ l ++ (m ∷ []))) → (x ∷ k ≡ []) ⊎ ((l : List Moment) × (m : Moment) × (x ∷ k ≡ l ++ (m ∷ [])))
    go (inl e) = inr ([], x, ap (λ k. x ∷ k) e)
    go (inr (l, m, e)) = inr (x ∷ l, m, ap (λ k. x ∷ k) e)

until : {lends : Bool} {s t : State} {all : List Moment} → CallsMade lends s all t → (g k : List Moment) → all ≡ g ++ k → Until lends s g k
until none_made [] k e = record { state = _; told = none_made; next = λ m l is. absurd (cc) }
until none_made (x ∷ g) k e = absurd (cc)
until {lends} {s} {t = u} (one_more {h = h} {t = t} n told logged) g k e = go (λ l same. until told g l same) (last_of k)
  where
    inside : (l : List Moment) → h ≡ g ++ l → Until lends s g l → k ≡ l ++ (n ∷ []) → Until lends s g k
    inside [] same before is = record {
      state = t;
      told = subst (λ g. CallsMade lends s g t) (same ∙ append-nil g) told;
      next = λ m l are. let first : n ≡ m = cc in (u, subst (λ m. Logged lends t m u) first logged);
    }
    inside (x ∷ l) same before is = record { state = before.state; told = before.told; next = λ m r are. let first : x ≡ m = cc in before.next m l (ap (λ x. x ∷ l) first) }

    go : ((l : List Moment) → h ≡ g ++ l → Until lends s g l) → (k ≡ []) ⊎ ((l : List Moment) × (m : Moment) × (k ≡ l ++ (m ∷ []))) → Until lends s g k
    go before (inl none) = record { state = u; told = subst (λ g. CallsMade lends s g u) (e ∙ ap (λ k. g ++ k) none ∙ append-nil g) (one_more n told logged); next = λ m l is. absurd (cc) }
    go before (inr (l, m, is)) =
        let (same, lasts) = last_same h (g ++ l) (e ∙ ap (λ k. g ++ k) is ∙ sym (append_assoc g l (m ∷ []))) in
        inside l same (before l same) (is ∙ ap (λ m. l ++ (m ∷ [])) (sym lasts))

told_last : {lends : Bool} {s u : State} {all : List Moment} → CallsMade lends s all u → (h : List Moment) (m : Moment) → all ≡ h ++ (m ∷ []) → (t : State) × CallsMade lends s h t × Logged lends t m u
told_last none_made [] m e = absurd (cc)
told_last none_made (x ∷ h) m e = absurd (cc)
told_last {lends} {s} {u = u} (one_more {h = g} {t = t} n told logged) h m e =
    let (same, lasts) = last_same g h e in
    (t, subst (λ h. CallsMade lends s h t) same told, subst (λ m. Logged lends t m u) lasts logged)

pub lawful : {lends : Bool} {v : View} {told : List Moment} {t : State} → Sound lends v → CallsMade lends (fresh v) told t → Law lends v told
lawful {lends} {v} sound all h m k e =
    let here = until all (h ++ (m ∷ [])) k (e ∙ sym (append_assoc h (m ∷ []) k)) in
    let (s, before, logged) = told_last here.told h m refl in
    record {
      suits = suits m logged;
      turn = turn_right sound (kept_all sound before) m logged;
      still = nothing_taken sound (kept_all sound before) m logged (count_told before);
      opens = λ is. opens_right sound (kept_all sound before) m here.state (count_told before) (subst (λ c. MadeBy lends s c m.answer m.text here.state) is logged.made).0;
      story = by here (kept_all sound here.told) logged.counts (tells logged);
    }
  where
    by : (u : Until lends (fresh v) (h ++ (m ∷ [])) k) → Kept lends v (h ++ (m ∷ [])) u.state → m.count ≡ u.state.body.reader.count → Tells m u.state → StoryBy (phase (h ++ (m ∷ []))) lends v h m k
    by u kept counts tells = go kept.tale
      where
        pdu_story : (y : Story lends v (h ++ (m ∷ [])) u.state) → PduStory lends v h m k (record { start = y.start; length = y.size })
        pdu_story y = record {
          es = y.es;
          at = _;
          passed = y.passed;
          truthful = truth y m (latched_first kept.latch) counts tells;
          inside = λ not_left. rw counts (stays_inside y not_left);
          goes_on = λ on n l is. goes_on kept y on n (u.next n l is).1;
        }

        by_phase : (y : Story lends v (h ++ (m ∷ [])) u.state) → Stands lends v y.start y.size y.taken y.es u.state (phase (h ++ (m ∷ []))) → StoryBy (phase (h ++ (m ∷ []))) lends v h m k
        by_phase y (in_pdu is own i) = subst (λ p. StoryBy p lends v h m k) (sym is) (pdu_story y)
        by_phase y (behind_it is shut n) = subst (λ p. StoryBy p lends v h m k) (sym is) (pdu_story y)
        by_phase y (off_it is shut) = subst (λ p. StoryBy p lends v h m k) (sym is) (pdu_story y)

        go : Untouched (h ++ (m ∷ [])) u.state ⊎ Story lends v (h ++ (m ∷ [])) u.state → StoryBy (phase (h ++ (m ∷ []))) lends v h m k
        go (inl n) = subst (λ p. StoryBy p lends v h m k) (sym n.none) (n.idle h m refl)
        go (inr y) = by_phase y y.stands
