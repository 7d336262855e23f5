-- A call of close: what it keeps, when it accepts, and by which number it is refused.
use Rattle.std.proofs.Common.{◌≡◌, ℕ, ◌+◌, ◌<◌, ◌≤◌, Bool, true, false, cond, ◌&&◌, ◌==◌, List, [], ◌∷◌, ◌++◌, length, Some, None, Err, Option, Result, ◌⊎◌, inl, inr, refl, sym, ap, ◌∙◌, subst, append-nil, arith}
use Rattle.std.proofs.lemmas.Bool.{eq-eqb, ne_eqb, eqb-true}
use Rattle.std.proofs.Math.Seq.{take-append_seam}
use Rattle.read.specs.Reader.{View}
use Rattle.format.specs.Numbers.{latching, number_of}
use Rattle.format.specs.declared.refusal.Refusal.{Refusal}
use Rattle.format.specs.declared.refusal.Cause.{Cause}
use Rattle.format.specs.declared.refusal.Cause.TheVariants as cause
use Rattle.values.specs.Values.{Value, Event, events}
use Rattle.room.specs.Open.{Column, Open}
use Rattle.bunser.specs.declared.text.Unread.{Unread}
use Rattle.de.specs.declared.event.Refused.{Refused}
use Rattle.de.specs.declared.pdu.Extent.{Extent}
use Rattle.de.specs.declared.pdu.Closed.{Closed}
use Rattle.de.specs.declared.entry.Call.TheVariants as call
use Rattle.de.specs.declared.entry.Answer.{Answer}
use Rattle.de.specs.declared.entry.Answer.TheVariants as answer
use Rattle.de.specs.Steps.{Body}
use Rattle.de.specs.Calls.{State, Meets, gave, telling, latch, here, shut, refusing, finished, finished_by, close_by, close_own, close_call, owns, up_to}
use Rattle.de.specs.Made.{Moment, Made, CloseAnswer, token}
use Rattle.runs.specs.Law.{all_bytes, running, over, phase, phase_after, close_phase, first_for_good, RefusedAgrees, Agrees, Declared, Closes, Unclosed, ForGood, Again, CloseAsked}
use Rattle.runs.proofs.Taking.{none_ahead, levels}
use Rattle.runs.proofs.Coming.{all_come}
use Rattle.runs.proofs.Reached.{Reached, whole_body}
use Rattle.runs.proofs.Bodies.{Passing, passing_still, no_levels, none_more, has_ended, nothing_open, none_awaited, Live, still_to_come}
use Rattle.runs.proofs.Moments.{drawn_of, latched_first, latches_of, latch_none, latch_some, latch_still, agrees_refused, as_told, latched_by}
use Rattle.runs.proofs.Turns.{good_number, known_of, LeavesAll}
use Rattle.runs.proofs.Story.{Untouched, InPdu, goes_on, stands_still, Stands, in_pdu, behind_it, off_it, Story, story_still, running_inside, Kept, Tells, same_place, quiet, in_pdu_now, live_now}

-- ---- what a call of close comes to

owned : (e o : Extent) → owns (token 0 e) o ≡ true → o ≡ e
owned e o h = both (e.start == o.start) refl h
  where
    both : (b : Bool) → (e.start == o.start) ≡ b → (b && (e.length == o.length)) ≡ true → o ≡ e
    both false starts h = absurd (cc)
    both true starts h =
        let start : o.start ≡ e.start = sym (eqb-true e.start o.start starts) in
        let long : o.length ≡ e.length = sym (eqb-true e.length o.length h) in
        λ i. record { start = start i; length = long i }

owns_itself : (e : Extent) → owns (token 0 e) e ≡ true
owns_itself e = rw (eq-eqb e.start e.start refl) (eq-eqb e.length e.length refl)

pub data CloseCame (e : Extent) (s t : State) (a : Answer) : Type 0 where
  closes : s.pdu ≡ Some e → s.latched ≡ None → finished s.body ≡ true → s.body.reader.count ≡ e.start + e.length → a ≡ answer.Closed (record { events = s.body.events; length = e.length }) →
      t ≡ shut s → CloseCame e s t a
  refuses : s.pdu ≡ Some e → s.latched ≡ None → (finished s.body ≡ true → s.body.reader.count ≡ e.start + e.length → ⊥) → (f : Refusal) → f.place ≡ s.body.reader.count → latching f.cause ≡ true →
      ((number_of f.cause ≡ 15) × (finished s.body ≡ false)) ⊎ ((number_of f.cause ≡ 16) × (finished s.body ≡ true)) → a ≡ answer.Refused f → t ≡ telling f (latch f (shut s)) → CloseCame e s t a
  refuses_again : s.pdu ≡ Some e → (f : Refusal) → s.latched ≡ Some f → a ≡ answer.Refused f → t ≡ telling f (shut s) → CloseCame e s t a
  another : (s.pdu ≡ Some e → ⊥) → (f : Refusal) → a ≡ answer.Refused f → t ≡ telling f s → f ≡ here cause.Token s → CloseCame e s t a

close_came : {e : Extent} {s t : State} {a : Answer} → Made (Meets (close_call (token 0 e) s)) CloseAnswer a t → CloseCame e s t a
close_came {e} {s} {t} {a} made = by_pdu s.pdu refl made.meets
  where
    answers : {r : Result Closed Refused} → made.result ≡ r → CloseAnswer r t a
    answers e = subst (λ r. CloseAnswer r t a) e made.answers

    told_so : {f : Refusal} (u : State) → made.result ≡ Err (record { number = number_of f.cause }) → t ≡ telling f u → a ≡ answer.Refused f
    told_so u comes same = as_told (ap (λ t. t.refused) same) (answers comes)

    wrong_length : Refusal
    wrong_length = here (cause.Length (e.start + e.length) s.body.reader.count) (shut s)

    unfinished : Refusal
    unfinished = here cause.Unfinished (shut s)

    by_count : s.pdu ≡ Some e → s.latched ≡ None → finished s.body ≡ true → (b : Bool) → (s.body.reader.count == e.start + e.length) ≡ b →
        Meets (cond b (gave (record { events = s.body.events; length = e.length }) (shut s)) (refusing wrong_length (shut s))) made.result t → CloseCame e s t a
    by_count is loose done true there (comes, same) = closes is loose done (eqb-true s.body.reader.count (e.start + e.length) there) (answers comes) same
    by_count is loose done false there (comes, same) = refuses is loose (λ f at. let z : false ≡ true = sym there ∙ eq-eqb s.body.reader.count (e.start + e.length) at in absurd (cc)) wrong_length refl refl (inr (refl, done)) (told_so (latch wrong_length (shut s)) comes same) same

    by_end : s.pdu ≡ Some e → s.latched ≡ None → (b : Bool) → finished s.body ≡ b →
        Meets (cond b (cond (s.body.reader.count == e.start + e.length) (gave (record { events = s.body.events; length = e.length }) (shut s)) (refusing wrong_length (shut s)))
        (refusing unfinished (shut s))) made.result t → CloseCame e s t a
    by_end is loose true done meets = by_count is loose done (s.body.reader.count == e.start + e.length) refl meets
    by_end is loose false done (comes, same) = refuses is loose (λ f at. absurd (cc)) unfinished refl refl (inl (refl, done)) (told_so (latch unfinished (shut s)) comes same) same

    by_latch : s.pdu ≡ Some e → (o : Option Refusal) → s.latched ≡ o → Meets (close_by o e (shut s)) made.result t → CloseCame e s t a
    by_latch is None loose meets = by_end is loose (finished s.body) refl meets
    by_latch is (Some f) caught (comes, same) = refuses_again is f caught (told_so (shut s) comes same) same

    by_owner : (o : Extent) → s.pdu ≡ Some o → (b : Bool) → owns (token 0 e) o ≡ b → Meets (cond b (close_by s.latched o (shut s)) (close_own None (token 0 e) s)) made.result t → CloseCame e s t a
    by_owner o is true own meets =
        let same = owned e o own in
        by_latch (is ∙ ap (λ o. Some o) same) s.latched refl (subst (λ o. Meets (close_by s.latched o (shut s)) made.result t) same meets)
    by_owner o is false own (comes, same) = another (λ mine. let same : o ≡ e = cc in let z : false ≡ true = sym own ∙ ap (owns (token 0 e)) same ∙ owns_itself e in absurd (cc)) (here cause.Token s) (told_so s comes same) same refl

    by_pdu : (p : Option Extent) → s.pdu ≡ p → Meets (close_own p (token 0 e) s) made.result t → CloseCame e s t a
    by_pdu None is (comes, same) = another (λ mine. absurd (cc)) (here cause.Token s) (told_so s comes same) same refl
    by_pdu (Some o) is meets = by_owner o is (owns (token 0 e) o) refl meets

-- ---- what it keeps

not_the_token : (c : Cause) → latching c ≡ true → (number_of c == 2) ≡ false
not_the_token c h = let many = good_number c h in ne_eqb (number_of c) 2 (λ e. omega arith)

module _ {lends : Bool} {v : View} {h : List Moment} {s : State} (k : Kept lends v h s) (m : Moment) {e : Extent} (is : m.call ≡ call.Close e) where
  -- the PDU has been closed
  over_kept : s.pdu ≡ Some e → (t : State) → t.body ≡ s.body → t.pdu ≡ None → t.last ≡ s.last → up_to s.latched s ≤ up_to t.latched t → close_phase (running e) m.answer ≡ over e →
      ((c : ℕ) → Agrees lends v m m.answer [] c c) → Story lends v (h ++ (m ∷ [])) t
  over_kept own t body pdu last after ends agrees = go k.tale
    where
      stands : {start size : ℕ} {taken : List ℕ} {es : List Event} → Stands lends v start size taken es s (phase h) → Stands lends v start size taken es t (phase_after (phase h) m.call m.answer)
      stands {start} {size} (in_pdu on o l) =
          let same : e ≡ record { start = start; length = size } = cc in
          behind_it (ap (λ c. phase_after (phase h) c m.answer) is ∙ ap (λ p. close_phase p m.answer) (on ∙ ap running (sym same)) ∙ ends ∙ ap over same) pdu (rw body (running_inside l))
      stands (behind_it on n i) = absurd (cc)
      stands (off_it on n) = absurd (cc)

      go : Untouched h s ⊎ Story lends v h s → Story lends v (h ++ (m ∷ [])) t
      go (inl u) = let shut = u.closed in absurd (cc)
      go (inr y) =
          let c = y.start + length y.taken in
          let here = y.after in
          story_still y m t (agrees c) (passing_still y.passing (ap (λ b. b.opens) body) (ap (λ b. b.events) body)) last (omega arith) (stands y.stands)

  pub close_kept : {t : State} → Made (Meets (close_call (token 0 e) s)) CloseAnswer m.answer t → Tells m t → Kept lends v (h ++ (m ∷ [])) t
  close_kept {t} made tells = go (close_came made)
    where
      agrees : {f : Refusal} → m.answer ≡ answer.Refused f → (c : ℕ) → Agrees lends v m m.answer [] c c
      agrees {f} a c = agrees_refused lends v m c a (subst (λ k. RefusedAgrees k f [] c c) (sym is) (refl, refl))

      ended : {f : Refusal} → m.answer ≡ answer.Refused f → latching f.cause ≡ true → close_phase (running e) m.answer ≡ over e
      ended {f} a l = ap (close_phase (running e)) a ∙ ap (λ b. cond b (running e) (over e)) (not_the_token f.cause l)

      go : CloseCame e s t m.answer → Kept lends v (h ++ (m ∷ [])) t
      go (closes own loose done there a same) = subst (λ t. Kept lends v (h ++ (m ∷ [])) t) (sym same) (record {
        latch = latch_none h m loose (drawn_of k.latch loose) (sym (latched_first k.latch) ∙ loose) (ap (first_for_good None) a);
        tale = inr (over_kept own (shut s) refl refl refl (rw (same_place s.latched s (shut s) refl) (omega arith)) (ap (close_phase (running e)) a) (λ c. subst (λ a. Agrees lends v m a [] c c) (sym a) (refl, refl)));
      })
      go (refuses own loose why f place latches which a same) =
          let caught : (telling f (latch f (shut s))).latched ≡ Some f = latched_by s.latched latches in
          subst (λ t. Kept lends v (h ++ (m ∷ [])) t) (sym same) (record {
            latch = latch_some h m caught (sym (latched_first k.latch) ∙ loose) a latches;
            tale = inr (over_kept own (telling f (latch f (shut s))) refl refl refl (rw (caught, loose) (omega arith)) (ended a latches) (agrees a));
          })
      go (refuses_again own f caught a same) =
          let latches = latches_of k.latch caught in
          subst (λ t. Kept lends v (h ++ (m ∷ [])) t) (sym same) (record {
            latch = latch_still m k.latch a (λ loose. absurd (cc));
            tale = inr (over_kept own (telling f (shut s)) refl refl refl (rw (same_place s.latched s (telling f (shut s)) refl) (omega arith)) (ended a latches) (agrees a));
          })
      go (another why f a same is_token) =
          quiet m f k same a (λ e. ap (λ (f : Refusal). latching f.cause) is_token) (λ o. ap (λ c. phase_after (running o) c (answer.Refused f)) is ∙ ap (λ (f : Refusal). cond (number_of f.cause == 2) (running o) (over o)) is_token)
          (λ c i. subst (λ k. RefusedAgrees k f [] c c) (sym is) (refl, refl)) tells

  -- ---- which token it was given

  pub close_asked : {t : State} → Made (Meets (close_call (token 0 e) s)) CloseAnswer m.answer t → CloseAsked s.pdu s.latched e m.answer
  close_asked {t} made = go (close_came made)
    where
      go : CloseCame e s t m.answer → CloseAsked s.pdu s.latched e m.answer
      go (closes own loose done there a same) = inl (own, subst (λ o. Again o m.answer) (sym loose) (λ f is. absurd (cc)))
      go (refuses own loose why f place latches which a same) = inl (own, subst (λ o. Again o m.answer) (sym loose) (known_of ForGood a latches))
      go (refuses_again own f caught a same) = inl (own, subst (λ o. Again o m.answer) (sym caught) a)
      go (another why f a same is) = inr (why, (f, a, ap (λ (f : Refusal). number_of f.cause) is))

  -- the reader is left as it is
  pub close_leaves : {t : State} → Made (Meets (close_call (token 0 e) s)) CloseAnswer m.answer t → (t.body ≡ s.body) × LeavesAll s t m.answer
  close_leaves {t} made = (body (close_came made), record { by_number = λ f is few. by_number f is few (close_came made); for_good = λ f caught. body (close_came made) })
    where
      body : CloseCame e s t m.answer → t.body ≡ s.body
      body (closes own loose done there a same) = ap (λ t. t.body) same
      body (refuses own loose why f place latches which a same) = ap (λ t. t.body) same
      body (refuses_again own f caught a same) = ap (λ t. t.body) same
      body (another why f a same is) = ap (λ t. t.body) same

      many : (f g : Refusal) → latching f.cause ≡ true → m.answer ≡ answer.Refused f → m.answer ≡ answer.Refused g → 3 ≤ number_of g.cause
      many f g latches this is = known_of (λ f. 3 ≤ number_of f.cause) this (good_number f.cause latches) g is

      by_number : (f : Refusal) → m.answer ≡ answer.Refused f → number_of f.cause < 3 → CloseCame e s t m.answer → (f.place ≡ s.body.reader.count) × (t.body ≡ s.body)
      by_number f is few (closes own loose done there a same) = absurd (cc)
      by_number f is few (refuses own loose why g place latches which a same) = let far = many g f latches a is in absurd (omega arith)
      by_number f is few (refuses_again own g caught a same) = let far = many g f (latches_of k.latch caught) a is in absurd (omega arith)
      by_number f is few (another why g a same at) = (known_of (λ f. f.place ≡ s.body.reader.count) a (ap (λ (f : Refusal). f.place) at) f is, ap (λ t. t.body) same)

-- ---- when it accepts

-- where all events of a whole body have passed, nothing is open and all of it was taken
whole_passed : {lends : Bool} {v : View} {start size : ℕ} {taken : List ℕ} {es : List Event} {b : Body} → Passing lends v start size taken es b → (w : Value) → Declared v start size w →
    es ≡ events w → (b.opens ≡ []) × (length taken ≡ size)
whole_passed {lends} {v} {start} {size} {taken} {es} {b} p w declared all =
    let (r, x, body, told, completes) = still_to_come p w declared in
    let (ended, none) = all_come completes (none_more es x (all ∙ told)) in
    (no_levels (all_bytes v) b.opens ended, sym (ap length (body ∙ ap (λ r. taken ++ r) none ∙ append-nil taken)) ∙ declared.long)

all_passed : (b : Body) → finished b ≡ true → (b.unread ≡ None) × (b.opens ≡ [])
all_passed b h = by b.unread b.opens refl refl h
  where
    by : (u : Option Unread) (o : List (Open Column)) → b.unread ≡ u → b.opens ≡ o → finished_by u o ≡ true → (b.unread ≡ None) × (b.opens ≡ [])
    by (Some u) o is are h = absurd (cc)
    by None [] is are h = (is, are)
    by None (x ∷ o) is are h = absurd (cc)

same_closed : {n l m k : ℕ} → answer.Closed (record { events = n; length = l }) ≡ answer.Closed (record { events = m; length = k }) → (n ≡ m) × (l ≡ k)
same_closed {n} {l} {m} {k} e =
    let same : record { events = n; length = l } ≡ record { events = m; length = k } = cc in
    (ap (λ (c : Closed). c.events) same, ap (λ (c : Closed). c.length) same)

pub closes_right : {lends : Bool} {v : View} {h : List Moment} {s t : State} {a : Answer} (y : Story lends v h s) → phase h ≡ running (record { start = y.start; length = y.size }) →
    {r : Option Refusal} → s.latched ≡ r →
    Made (Meets (close_call (token 0 (record { start = y.start; length = y.size })) s)) CloseAnswer a t → Closes v y.start y.size r y.es (y.start + length y.taken) a
closes_right {lends} {v} {h} {s} {t} {a} y on latched made =
    let (own, i) = in_pdu_now y on in
    record {
      accepts = accepts refl own i (close_came made);
      accepted = λ n l is. accepted i n l is (close_came made);
      refused = λ free f is. refused own (live_now i (latched ∙ free)) f is (latched ∙ free) (close_came made);
    }
  where
    whole : Extent
    whole = record { start = y.start; length = y.size }

    accepted : InPdu lends v y.start y.size y.taken y.es s.body s.latched → (n l : ℕ) → a ≡ answer.Closed (record { events = n; length = l }) → CloseCame whole s t a →
        (n ≡ length y.es) × (l ≡ y.size) × (w : Value) × Declared v y.start y.size w × (y.es ≡ events w)
    accepted i n l is (closes own loose done there b same) = by i loose
      where
        by : {o : Option Refusal} → InPdu lends v y.start y.size y.taken y.es s.body o → o ≡ None → (n ≡ length y.es) × (l ≡ y.size) × (w : Value) × Declared v y.start y.size w × (y.es ≡ events w)
        by (stands_still st) e = absurd (cc)
        by (goes_on live) e =
            let (calm, closed) = all_passed s.body done in
            let none : live.front ≡ [] = none_ahead live.fronts calm in
            let short = ap length none in
            let count = live.count in
            let full : length y.taken ≡ y.size = omega arith in
            let (w, formed, body, told) = whole_body (subst (λ o. Reached lends y.taken y.es (levels (all_bytes v) o)) closed live.reached) in
            let (number, long) = same_closed (sym is ∙ b) in (
              number ∙ live.counts,
              long,
              w,
              record {
                formed = formed;
                long = ap length body ∙ full;
                there = rw (← full, live.split) (take-append_seam y.taken (live.front ++ s.body.reader.coming)) ∙ sym body;
              },
              sym told,
            )
    accepted i n l is (refuses own loose why f place latches which b same) = absurd (cc)
    accepted i n l is (refuses_again own f caught b same) = absurd (cc)
    accepted i n l is (another why f b same is_token) = absurd (cc)

    accepts : {o : Option Refusal} → s.latched ≡ o → s.pdu ≡ Some whole → InPdu lends v y.start y.size y.taken y.es s.body o → CloseCame whole s t a → (w : Value) → Declared v y.start y.size w →
        y.es ≡ events w →
        a ≡ answer.Closed (record { events = length y.es; length = y.size })
    accepts caught own (stands_still st) came w declared all = absurd (st.more (whole_passed st.passing w declared all).0)
    accepts loose own (goes_on live) came w declared all =
        let (closed, long) = whole_passed y.passing w declared all in
        let calm = none_awaited (all_bytes v) s.body.unread s.body.opens live.ready.waits closed in
        let short = ap length (none_ahead live.fronts calm) in
        let count = live.count in
        let there : s.body.reader.count ≡ y.start + y.size = omega arith in
        by came (rw (calm, closed) refl) there
      where
        by : CloseCame whole s t a → finished s.body ≡ true → s.body.reader.count ≡ y.start + y.size → a ≡ answer.Closed (record { events = length y.es; length = y.size })
        by (closes mine free done at b same) f c = b ∙ ap (λ n. answer.Closed (record { events = n; length = y.size })) live.counts
        by (refuses mine free why f place latches which b same) done at = absurd (why done at)
        by (refuses_again mine f caught b same) done at = absurd (cc)
        by (another why f b same is_token) done at = absurd (why own)

    -- which question it was
    refused : s.pdu ≡ Some whole → Live lends v y.start y.size y.taken y.es s.body → (f : Refusal) → a ≡ answer.Refused f → s.latched ≡ None → CloseCame whole s t a →
        Unclosed v y.start y.es (y.start + length y.taken) f
    refused own live f is free (closes mine loose done there b same) = absurd (cc)
    refused own live f is free (refuses mine loose why g place latches which b same) = known_of (Unclosed v y.start y.es (y.start + length y.taken)) b (by which) f is
      where
        by : ((number_of g.cause ≡ 15) × (finished s.body ≡ false)) ⊎ ((number_of g.cause ≡ 16) × (finished s.body ≡ true)) → Unclosed v y.start y.es (y.start + length y.taken) g
        by (inl (number, going)) = inl (number, λ w ended. still_going (nothing_open y.passing w ended))
          where
            still_going : s.body.opens ≡ [] → ⊥
            still_going closed =
                let calm = none_awaited (all_bytes v) s.body.unread s.body.opens live.ready.waits closed in
                let done : finished s.body ≡ true = rw (calm, closed) refl in
                let z : false ≡ true = sym going ∙ done in
                absurd (cc)
        by (inr (number, done)) = let (w, ended) = has_ended y.passing (all_passed s.body done).1 in inr (number, w, ended)
    refused own live f is free (refuses_again mine g caught b same) = absurd (cc)
    refused own live f is free (another why g b same at) = absurd (why own)
