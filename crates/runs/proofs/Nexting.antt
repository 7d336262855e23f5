-- A call of next: what it keeps, when it is tried at all, and what it answers over a whole body and where a value has ended.
use Rattle.std.proofs.Common.{◌≡◌, ℕ, ◌+◌, Bool, true, false, cond, List, [], ◌∷◌, ◌++◌, length, replicate, Some, None, Option, Result, inl, inr, refl, sym, ap, ◌∙◌, subst, append_assoc, length-append, arith}
use Rattle.std.proofs.lemmas.Bool.{lt-ltb, ltb-true}
use Rattle.std.proofs.lemmas.List.{append_cancel_left}
use Rattle.source.specs.Feed.{fronted}
use Rattle.read.specs.Reader.{View}
use Rattle.format.specs.Numbers.{latching, number_of}
use Rattle.format.specs.declared.refusal.Refusal.{Refusal}
use Rattle.format.specs.declared.refusal.Cause.TheVariants as cause
use Rattle.values.specs.Values.{Value, events}
use Rattle.values.specs.Values as value
use Rattle.de.specs.declared.event.Event.{Event}
use Rattle.de.specs.declared.event.Refused.{Refused}
use Rattle.de.specs.declared.pdu.Extent.{Extent}
use Rattle.de.specs.declared.entry.Call.TheVariants as call
use Rattle.de.specs.declared.entry.Answer.{Answer}
use Rattle.de.specs.declared.entry.Answer.TheVariants as answer
use Rattle.de.specs.Shown.{shown}
use Rattle.de.specs.Steps.{Body, Out, gives, stops, step, puts, text_space}
use Rattle.de.specs.Calls.{State, Meets, Off, telling, latch, here, in_body, next_by, next_turn, next_call, next_puts, turn_puts, unless_latched}
use Rattle.de.specs.Made.{Moment, Made, NextAnswer}
use Rattle.runs.specs.Law.{all_bytes, running, phase, phase_after, first_for_good, RefusedAgrees, Agrees, Whole, hands_out, Cramped, Reads, IfRefused, ForGoodOrRoom, is_open}
use Rattle.runs.proofs.Stepped.{ForGoodOrWaits, Stepped, Stopped, Tight, can_give, must_wait}
use Rattle.runs.proofs.Stepping.{step_gives, step_stops}
use Rattle.runs.proofs.Ending.{step_none, step_done}
use Rattle.runs.proofs.Bodies.{Live, passing_of, Advanced, advance, stopped_inside, wait, stuck, count_left, same_body, Outlook, none_awaited, at_the_end, more_comes, outlook}
use Rattle.runs.proofs.Moments.{latch_none, latch_some, agrees_refused, as_told, latched_by}
use Rattle.runs.proofs.Turns.{Untried, again, out_of_turn, untried_free, TakenUp, untried, tried, known_of}
use Rattle.runs.proofs.Story.{goes_on, stands_still, Story, story_on, story_still, Kept, Tells, quiet, Ongoing, ongoing, stays, in_pdu_now, live_now, unstuck}

-- ---- what a call of next comes to

pub data NextCame (lends : Bool) (room : ℕ) (s t : State) (a : Answer) : Type 0 where
  one : (o : Extent) → s.pdu ≡ Some o → s.latched ≡ None → (e : Event) (c : Body) (x : List ℕ) → step lends (Some room) s.body ≡ gives (Some e) c x → next_puts s.latched lends room s ≡ x →
      a ≡ answer.Gave e → t ≡ in_body s c → NextCame lends room s t a
  none : (o : Extent) → s.pdu ≡ Some o → s.latched ≡ None → (c : Body) (x : List ℕ) → step lends (Some room) s.body ≡ gives None c x → a ≡ answer.Done → t ≡ in_body s c → NextCame lends room s t a
  refuses : (o : Extent) → s.pdu ≡ Some o → s.latched ≡ None → (f : Refusal) (c : Body) (x : List ℕ) → step lends (Some room) s.body ≡ stops f c x → a ≡ answer.Refused f →
      Off f (latch f (in_body s c)) t → NextCame lends room s t a
  tells_again : (f : Refusal) → a ≡ answer.Refused f → t ≡ telling f s → Untried s (is_open s.pdu) f → NextCame lends room s t a

next_came : {lends : Bool} {room : ℕ} {s t : State} {a : Answer} → Made (Meets (next_call lends room s)) NextAnswer a t → NextCame lends room s t a
next_came {lends} {room} {s} {t} {a} made = by_latch s.latched refl made.meets
  where
    answers : {r : Result (Option Event) Refused} → made.result ≡ r → NextAnswer r t a
    answers e = subst (λ r. NextAnswer r t a) e made.answers

    by_step : (o : Extent) → s.pdu ≡ Some o → s.latched ≡ None → (z : Out) → step lends (Some room) s.body ≡ z → next_puts s.latched lends room s ≡ puts z → Meets (next_by z s) made.result t →
        NextCame lends room s t a
    by_step o own loose (gives (Some e) c x) is put (comes, same) = one o own loose e c x is put (answers comes) same
    by_step o own loose (gives None c x) is put (comes, same) = none o own loose c x is (answers comes) same
    by_step o own loose (stops f c x) is put (comes, off) = refuses o own loose f c x is (as_told off.refused (answers comes)) off

    by_pdu : s.latched ≡ None → (p : Option Extent) → s.pdu ≡ p → Meets (next_turn p lends room s) made.result t → NextCame lends room s t a
    by_pdu loose None own (comes, same) = tells_again (here cause.OutOfTurn s) (as_told (ap (λ t. t.refused) same) (answers comes)) same (out_of_turn loose (ap is_open own) refl)
    by_pdu loose (Some o) own meets =
        by_step o own loose (step lends (Some room) s.body) refl (ap (λ l. next_puts l lends room s) loose ∙ ap (λ p. turn_puts p lends room s) own) meets

    by_latch : (o : Option Refusal) → s.latched ≡ o → Meets (unless_latched o s (next_turn s.pdu lends room s)) made.result t → NextCame lends room s t a
    by_latch None loose meets = by_pdu loose s.pdu refl meets
    by_latch (Some f) caught (comes, same) = tells_again f (as_told (ap (λ t. t.refused) same) (answers comes)) same (again caught)

-- ---- what it keeps

module _ {lends : Bool} {v : View} {h : List Moment} {s : State} (k : Kept lends v h s) (m : Moment) {room : ℕ} (is : m.call ≡ call.Next room) where
  calm : (a : Answer) (e : Extent) → phase_after (running e) m.call a ≡ running e
  calm a e = ap (λ c. phase_after (running e) c a) is

  one_kept : (g : Ongoing lends v h s) → s.latched ≡ None → (e : Event) (c : Body) (x buf : List ℕ) → step lends (Some room) s.body ≡ gives (Some e) c x → m.answer ≡ answer.Gave e →
      m.text ≡ fronted x buf → m.count ≡ c.reader.count →
      Kept lends v (h ++ (m ∷ [])) (in_body s c)
  one_kept g loose e c x buf gave a text counts = record {
    latch = latch_none h m loose adv.live.drawn g.unlatched (ap (first_for_good None) a);
    tale = inr (story_on g.story m (in_body s c) (st.says ∷ []) adv.taken_now
        (subst (λ a. Agrees lends v m a (st.says ∷ []) (g.story.start + length g.story.taken) (g.story.start + length adv.taken_now)) (sym a) (st.origin, ap (λ t. t ∷ []) shows, sym adv.here ∙ sym counts))
        (passing_of adv.live) refl (rw loose (let at = adv.here in omega arith)) (stays g m (in_body s c) (calm m.answer) refl (rw loose (goes_on adv.live))));
  }
    where
      st : Stepped lends (all_bytes v) s.body e c x
      st = step_gives (Some room) s.body e c x g.live.ready gave

      adv : Advanced lends v g.story.start g.story.size g.story.taken (g.story.es ++ (st.says ∷ [])) c
      adv = advance g.story.small g.live st

      shows : st.says ≡ shown (all_bytes v) m.text e
      shows = sym (rw text (st.shows buf))

  refused_kept : (g : Ongoing lends v h s) → s.latched ≡ None → (t : State) (f : Refusal) (c : Body) (x : List ℕ) → step lends (Some room) s.body ≡ stops f c x → m.answer ≡ answer.Refused f →
      Off f (latch f (in_body s c)) t → Kept lends v (h ++ (m ∷ [])) t
  refused_kept g loose t f c x stop a off = go st.kind
    where
      st : Stopped lends (all_bytes v) (Some room) s.body f c
      st = step_stops (Some room) s.body f c x g.live.ready stop

      agrees : (d : ℕ) → Agrees lends v m m.answer [] d d
      agrees d = agrees_refused lends v m d a (subst (λ k. RefusedAgrees k f [] d d) (sym is) (refl, refl))

      counts : t.body.reader.count ≡ c.reader.count
      counts = count_left f.cause c.reader t.body.reader off.body.reader

      go : ForGoodOrWaits lends (all_bytes v) (Some room) f s.body c → Kept lends v (h ++ (m ∷ [])) t
      go (inl latches) =
          let caught : t.latched ≡ Some f = off.latched ∙ latched_by s.latched latches in
          let stands = stuck (Some room) g.live st stop latches t.body off.body.opens off.body.events (rw counts (stopped_inside g.live st)) in
          record { latch = latch_some h m caught g.unlatched a latches; tale = inr (story_still g.story m t (agrees _) stands.passing off.last (rw caught stands.after) (stays g m t (calm m.answer) off.pdu (rw caught (stands_still stands)))) }
      go (inr (full, limited, waiting)) =
          let free : latching f.cause ≡ false = ap latching full in
          let still : t.latched ≡ None = off.latched ∙ ap (λ b. cond b (Some f) s.latched) free ∙ loose in
          let live = subst (λ b. Live lends v g.story.start g.story.size g.story.taken g.story.es b) (sym (same_body full off.body)) (wait g.live st waiting) in
          let count = live.count in
          record {
            latch = latch_none h m still live.drawn g.unlatched (ap (first_for_good None) a ∙ ap (λ b. cond b (Some f) None) free);
            tale = inr (story_still g.story m t (agrees _) (passing_of live) off.last (rw still (omega arith)) (stays g m t (calm m.answer) off.pdu (rw still (goes_on live))));
          }

  none_kept : (g : Ongoing lends v h s) → s.latched ≡ None → m.answer ≡ answer.Done → Kept lends v (h ++ (m ∷ [])) s
  none_kept g loose a = record {
    latch = latch_none h m loose g.drawn g.unlatched (ap (first_for_good None) a);
    tale = inr (story_still g.story m s (subst (λ a. Agrees lends v m a [] (g.story.start + length g.story.taken) (g.story.start + length g.story.taken)) (sym a) (refl, refl)) g.story.passing refl g.story.after
        (stays g m s (calm m.answer) refl (rw loose (goes_on g.live))));
  }

  pub next_kept : {t : State} → Made (Meets (next_call lends room s)) NextAnswer m.answer t → m.text ≡ fronted (next_puts s.latched lends room s) (replicate room 0) → m.count ≡ t.body.reader.count →
      Tells m t → Kept lends v (h ++ (m ∷ [])) t
  next_kept {t} made text counts tells = go (next_came made)
    where
      go : NextCame lends room s t m.answer → Kept lends v (h ++ (m ∷ [])) t
      go (one o own loose e c x gave put a same) =
          subst (λ t. Kept lends v (h ++ (m ∷ [])) t) (sym same)
          (one_kept (ongoing k loose own) loose e c x (replicate room 0) gave a (text ∙ ap (λ x. fronted x (replicate room 0)) put) (counts ∙ ap (λ t. t.body.reader.count) same))
      go (none o own loose c x gave a same) = subst (λ t. Kept lends v (h ++ (m ∷ [])) t) (sym (same ∙ ap (in_body s) (step_none lends (Some room) s.body c x gave).0)) (none_kept (ongoing k loose own) loose a)
      go (refuses o own loose f c x stop a off) = refused_kept (ongoing k loose own) loose t f c x stop a off
      go (tells_again f a same free) = quiet m f k same a (untried_free free) (calm (answer.Refused f)) (λ c i. subst (λ k. RefusedAgrees k f [] c c) (sym is) (refl, refl)) tells

  -- ---- when it is tried

  pub next_taken_up : {t : State} → Made (Meets (next_call lends room s)) NextAnswer m.answer t → TakenUp s t (is_open s.pdu) (IfRefused (ForGoodOrRoom lends) m.answer) m.answer
  next_taken_up {t} made = go (next_came made)
    where
      -- a reader that lends needs no room
      copies : (b : Bool) → (text_space b (Some room) ≡ None → ⊥) → b ≡ false
      copies true limited = absurd (limited refl)
      copies false limited = refl

      kind : (f : Refusal) {c : Body} → ForGoodOrWaits lends (all_bytes v) (Some room) f s.body c → ForGoodOrRoom lends f
      kind f (inl latches) = inl latches
      kind f (inr (full, limited, waiting)) = inr (copies lends limited, ap number_of full)

      go : NextCame lends room s t m.answer → TakenUp s t (is_open s.pdu) (IfRefused (ForGoodOrRoom lends) m.answer) m.answer
      go (one o own loose e c x gave put a same) = tried loose (ap is_open own) (λ f is. absurd (cc))
      go (none o own loose c x gave a same) = tried loose (ap is_open own) (λ f is. absurd (cc))
      go (refuses o own loose f c x stop a off) =
          let g = ongoing k loose own in
          tried loose (ap is_open own)
          (known_of (ForGoodOrRoom lends) a (kind f (step_stops (Some room) s.body f c x g.live.ready stop).kind))
      go (tells_again f a same why) = untried f a same why

-- ---- what it answers over a whole body

abbrev AnsweredBy : Out → Answer → Type 0
AnsweredBy (gives (Some e) c x) a = a ≡ answer.Gave e
AnsweredBy (gives None c x) a = a ≡ answer.Done
AnsweredBy (stops f c x) a = a ≡ answer.Refused f

answered_by : {lends : Bool} {room : ℕ} {s t : State} {a : Answer} {o : Extent} (z : Out) → s.latched ≡ None → s.pdu ≡ Some o → step lends (Some room) s.body ≡ z → NextCame lends room s t a →
    AnsweredBy z a
answered_by {a = a} z loose own at (one o is free e c x step put answer same) = subst (λ z. AnsweredBy z a) (sym step ∙ at) answer
answered_by {a = a} z loose own at (none o is free c x step answer same) = subst (λ z. AnsweredBy z a) (sym step ∙ at) answer
answered_by {a = a} z loose own at (refuses o is free f c x step answer off) = subst (λ z. AnsweredBy z a) (sym step ∙ at) answer
answered_by z loose own at (tells_again f answer same (again caught)) = absurd (cc)
answered_by z loose own at (tells_again f answer same (out_of_turn free shut is)) = let both = sym shut ∙ ap is_open own in absurd (cc)

tight_room : {lends : Bool} {room : ℕ} (w : Value) {es : List value.Event} (x : List value.Event) {t : value.Event} → events w ≡ es ++ (t ∷ x) → Tight lends (Some room) t → Cramped lends w es room
tight_room {room = room} w {es} x {t} told i =
    record { copies = i.copies; event = t; next = (x, told ∙ sym (append_assoc es (t ∷ []) x)); text = i.text; handed = i.handed; long = ltb-true room (length i.text) i.long }

room_tight : {lends : Bool} {room : ℕ} (w : Value) {es : List value.Event} (x : List value.Event) {t : value.Event} → events w ≡ es ++ (t ∷ x) → Cramped lends w es room → Tight lends (Some room) t
room_tight {room = room} w {es} x {t} told c =
    let (y, next) = c.next in
    let rest : t ∷ x ≡ c.event ∷ y = append_cancel_left es (t ∷ x) (c.event ∷ y) (sym told ∙ next ∙ append_assoc es (c.event ∷ []) y) in
    let same : c.event ≡ t = cc in
    record { copies = c.copies; text = c.text; handed = ap hands_out (sym same) ∙ c.handed; long = lt-ltb room (length c.text) c.long }

not_all : (w : Value) {es : List value.Event} (t : value.Event) (x : List value.Event) → events w ≡ es ++ (t ∷ x) → es ≡ events w → ⊥
not_all w t x told all = absurd (omega (arith, simp length-append at (ap length (all ∙ told))))

pub next_reads : {lends : Bool} {v : View} {h : List Moment} {s t : State} {a : Answer} {room : ℕ} (y : Story lends v h s) →
    phase h ≡ running (record { start = y.start; length = y.size }) → (w : Value) → Whole lends v y.start y.size w →
    Made (Meets (next_call lends room s)) NextAnswer a t →
    Reads lends w y.es (call.Next room) a
next_reads {lends} {v} {h} {s} {t} {a} {room} y on w whole made =
    let (own, i) = in_pdu_now y on in
    let loose = unstuck i w whole in
    let live = live_now i loose in
    go loose own live (outlook (Some room) live w whole)
  where
    go : s.latched ≡ None → s.pdu ≡ Some (record { start = y.start; length = y.size }) → Live lends v y.start y.size y.taken y.es s.body → Outlook lends (Some room) s.body y.es w →
        Reads lends w y.es (call.Next room) a
    go loose own live (at_the_end done all) =
        let calm = none_awaited (all_bytes v) s.body.unread s.body.opens live.ready.waits done in
        let says : a ≡ answer.Done = answered_by (gives None s.body []) loose own (step_done lends (Some room) s.body calm done) (next_came made) in
        record {
          done = λ e. all;
          ended = λ e. says;
          refused = λ f e. absurd (cc);
          cramped = λ c. let (x, next) = c.next in absurd (not_all w c.event x (next ∙ append_assoc y.es (c.event ∷ []) x) all);
        }
    go loose own live (more_comes t x (can_give e c z gave roomy) told) =
        let says : a ≡ answer.Gave e = answered_by (gives (Some e) c z) loose own gave (next_came made) in
        record {
          done = λ e. absurd (cc);
          ended = λ all. absurd (not_all w t x told all);
          refused = λ f e. absurd (cc);
          cramped = λ c. absurd (roomy (room_tight w x told c));
        }
    go loose own live (more_comes t x (must_wait f c z stop full tight) told) =
        let says : a ≡ answer.Refused f = answered_by (stops f c z) loose own stop (next_came made) in
        record {
          done = λ e. absurd (cc);
          ended = λ all. absurd (not_all w t x told all);
          refused = λ g e. let same : g ≡ f = cc in (ap (λ (g : Refusal). number_of g.cause) same ∙ ap number_of full, tight_room w x told tight);
          cramped = λ c. (f, says, ap number_of full);
        }

-- ---- where the value has ended

pub next_at_end : {lends : Bool} {v : View} {h : List Moment} {s t : State} {a : Answer} (room : ℕ) (y : Story lends v h s) → phase h ≡ running (record { start = y.start; length = y.size }) →
    Made (Meets (next_call lends room s)) NextAnswer a t → s.latched ≡ None → s.body.opens ≡ [] → a ≡ answer.Done
next_at_end {lends} {v} {s = s} room y on made loose done =
    let (own, i) = in_pdu_now y on in
    let calm = none_awaited (all_bytes v) s.body.unread s.body.opens (live_now i loose).ready.waits done in
    answered_by (gives None s.body []) loose own (step_done lends (Some room) s.body calm done) (next_came made)

pub next_only_there : (lends : Bool) (room : ℕ) (s : State) {t : State} {a : Answer} → Made (Meets (next_call lends room s)) NextAnswer a t → a ≡ answer.Done →
    s.body.opens ≡ []
next_only_there lends room s {t} {a} made done = go (next_came made)
  where
    go : NextCame lends room s t a → s.body.opens ≡ []
    go (one o own loose e c x gave put a same) = absurd (cc)
    go (none o own loose c x gave a same) = (step_none lends (Some room) s.body c x gave).1
    go (refuses o own loose f c x stop a off) = absurd (cc)
    go (tells_again f a same why) = absurd (cc)
