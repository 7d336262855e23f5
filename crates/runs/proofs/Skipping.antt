-- A call of skip: what it keeps, when it is tried at all, and what it answers over a whole body and where a value has ended.
use Rattle.std.proofs.Common.{◌≡◌, ℕ, ◌+◌, ◌≤◌, Bool, true, cond, ◌==◌, List, [], ◌∷◌, ◌++◌, length, drop, Some, None, Ok, Err, Option, Result, inr, refl, sym, ap, ◌∙◌, subst, append_assoc, arith}
use Rattle.std.proofs.lemmas.Bool.{eq-eqb, ne_eqb}
use Rattle.std.proofs.Math.Seq.{drop-append_seam}
use Rattle.read.specs.Reader.{View}
use Rattle.format.specs.Numbers.{latching}
use Rattle.format.specs.declared.refusal.Refusal.{Refusal}
use Rattle.format.specs.declared.refusal.Cause.TheVariants as cause
use Rattle.values.specs.Values.{Value, events, Event}
use Rattle.values.specs.Limits.{Limits, none}
use Rattle.room.specs.Open.{nesting}
use Rattle.de.specs.declared.event.Refused.{Refused}
use Rattle.de.specs.declared.pdu.Extent.{Extent}
use Rattle.de.specs.declared.entry.Call.TheVariants as call
use Rattle.de.specs.declared.entry.Answer.{Answer}
use Rattle.de.specs.declared.entry.Answer.TheVariants as answer
use Rattle.de.specs.Steps.{Body, gives, step}
use Rattle.de.specs.Calls.{State, telling, latch_by, here, Skip, SkipTold, SkipTurn, SkipBy, SkipCall}
use Rattle.de.specs.Made.{Moment, Made, SkipAnswer}
use Rattle.runs.specs.Law.{all_bytes, running, phase, phase_after, first_for_good, stretch, Stretched, RefusedAgrees, Agrees, Whole, Reads, IfRefused, ForGood, is_open}
use Rattle.runs.proofs.Taking.{Level, levels}
use Rattle.runs.proofs.Coming as coming
use Rattle.runs.proofs.Coming.{Completes}
use Rattle.runs.proofs.Stretching.{Runs, last, onward, stretch_of}
use Rattle.runs.proofs.Ending.{step_done}
use Rattle.runs.proofs.Bodies.{Live, passing_of, none_awaited, still_to_come}
use Rattle.runs.proofs.Moments.{latch_none, latch_some, as_told, latched_by}
use Rattle.runs.proofs.Turns.{Untried, again, out_of_turn, untried_free, untried_place, TakenUp, untried, tried, known_of}
use Rattle.runs.proofs.Story.{goes_on, stands_still, Story, story_on, Kept, Tells, quiet, Ongoing, ongoing, stays, in_pdu_now, live_now, unstuck}
use Rattle.runs.proofs.SkipEnds.{named_nesting, StretchPassed, nothing, something, SkipEnd, done, cut, skip_ends, none_skipped}

-- ---- what a call of skip comes to

pub data SkipCame (lends : Bool) (s t : State) (a : Answer) : Type 0 where
  passes : (o : Extent) → s.pdu ≡ Some o → s.latched ≡ None → (n : ℕ) → Skip lends s.body (Ok n) t.body → a ≡ answer.Skipped n → t.latched ≡ s.latched → t.pdu ≡ s.pdu → t.last ≡ s.last →
      SkipCame lends s t a
  refuses : (o : Extent) → s.pdu ≡ Some o → s.latched ≡ None → (f : Refusal) → Skip lends s.body (Err f) t.body → a ≡ answer.Refused f → t.latched ≡ latch_by f s.latched → t.pdu ≡ s.pdu →
      t.last ≡ s.last → SkipCame lends s t a
  tells_again : (f : Refusal) → a ≡ answer.Refused f → t ≡ telling f s → Untried s (is_open s.pdu) f → SkipCame lends s t a

skip_came : {lends : Bool} {s t : State} {a : Answer} → Made (SkipCall lends s) SkipAnswer a t → SkipCame lends s t a
skip_came {lends} {s} {t} {a} made = by_latch s.latched refl made.meets
  where
    answers : {r : Result ℕ Refused} → made.result ≡ r → SkipAnswer r t a
    answers e = subst (λ r. SkipAnswer r t a) e made.answers

    by_outcome : (o : Extent) → s.pdu ≡ Some o → s.latched ≡ None → t.pdu ≡ s.pdu → t.last ≡ s.last → (z : Result ℕ Refusal) → Skip lends s.body z t.body → SkipTold z made.result s t →
        SkipCame lends s t a
    by_outcome o own loose pdu end (Ok n) skip (comes, latched, told) = passes o own loose n skip (answers comes) latched pdu end
    by_outcome o own loose pdu end (Err f) skip (comes, latched, told) = refuses o own loose f skip (as_told told (answers comes)) latched pdu end

    by_pdu : s.latched ≡ None → (p : Option Extent) → s.pdu ≡ p → SkipTurn p lends s made.result t → SkipCame lends s t a
    by_pdu loose None own (comes, same) = tells_again (here cause.OutOfTurn s) (as_told (ap (λ t. t.refused) same) (answers comes)) same (out_of_turn loose (ap is_open own) refl)
    by_pdu loose (Some o) own skipped = by_outcome o own loose skipped.pdu skipped.last skipped.outcome skipped.body skipped.told

    by_latch : (o : Option Refusal) → s.latched ≡ o → SkipBy o lends s made.result t → SkipCame lends s t a
    by_latch None loose meets = by_pdu loose s.pdu refl meets
    by_latch (Some f) caught (comes, same) = tells_again f (as_told (ap (λ t. t.refused) same) (answers comes)) same (again caught)

-- ---- what it keeps

some_run : {L : Limits} {down : ℕ} {s t : List Level} {es : List Event} → Runs L down s es t → 1 ≤ length es
some_run (last h low) = omega arith
some_run (onward h deep r) = omega arith

stretched : (more : List Event) → ((x : List Event) → stretch 0 (more ++ x) ≡ length more) → Stretched more
stretched [] h = tt
stretched (e ∷ es) h = h

-- how far the last event that has passed is, and how many have
passed_right : {lends : Bool} {v : View} {start : ℕ} {b t : Body} {taken now : List ℕ} {more : List Event} {n count : ℕ} → StretchPassed lends v start (nesting b.opens) b t taken now more →
    n ≡ length more → count ≡ t.reader.count →
    (length more ≡ n) × Stretched more × (start + length now ≡ cond (n == 0) (start + length taken) count)
passed_right {start = start} {taken = taken} {n = n} {count = count} (nothing closed same) long at =
    (sym long, tt, ap (λ now. start + length now) same ∙ sym (ap (λ b. cond b (start + length taken) count) (eq-eqb n 0 long)))
passed_right {lends} {v} {start = start} {b = b} {taken = taken} {more = more} {n = n} {count = count} (something runs there) long at = (
  sym long,
  stretched more (stretch_of runs (sym (named_nesting (all_bytes v) b.opens))),
  sym there ∙ sym at ∙ sym (ap (λ b. cond b (start + length taken) count) (ne_eqb n 0 (λ e. (let some = some_run runs in omega arith)))),
)

calm : (m : Moment) → m.call ≡ call.Skip → (a : Answer) (e : Extent) → phase_after (running e) m.call a ≡ running e
calm m is a e = ap (λ c. phase_after (running e) c a) is

module _ {lends : Bool} {v : View} {h : List Moment} {s t : State} (k : Kept lends v h s) (m : Moment) (is : m.call ≡ call.Skip) where
  passes_kept : (g : Ongoing lends v h s) → s.latched ≡ None → (n : ℕ) → m.answer ≡ answer.Skipped n → t.latched ≡ s.latched → t.pdu ≡ s.pdu → t.last ≡ s.last → m.count ≡ t.body.reader.count →
      SkipEnd lends v g.story.start g.story.size g.story.taken g.story.es s.body (nesting s.body.opens) 0 t.body (Ok n) → Kept lends v (h ++ (m ∷ [])) t
  passes_kept g loose n a latched pdu end counts (done more now live long passed) =
      let still = latched ∙ loose in
      let count = live.count in
      record {
        latch = latch_none h m still live.drawn g.unlatched (ap (first_for_good None) a);
        tale = inr (story_on g.story m t more now
            (subst (λ a. Agrees lends v m a more (g.story.start + length g.story.taken) (g.story.start + length now)) (sym a) (passed_right passed (long ∙ omega arith) counts))
            (passing_of live) end (rw still (omega arith)) (stays g m t (calm m is m.answer) pdu (rw still (goes_on live))));
      }

  refused_kept : (g : Ongoing lends v h s) → s.latched ≡ None → (f : Refusal) → m.answer ≡ answer.Refused f → t.latched ≡ latch_by f s.latched → t.pdu ≡ s.pdu → t.last ≡ s.last →
      SkipEnd lends v g.story.start g.story.size g.story.taken g.story.es s.body (nesting s.body.opens) 0 t.body (Err f) → Kept lends v (h ++ (m ∷ [])) t
  refused_kept g loose f a latched pdu end (cut more now grows latches stands short) =
      record { latch = latch_some h m caught g.unlatched a latches; tale = inr (story_on g.story m t more now agrees stands.passing end (rw caught stands.after) (stays g m t (calm m is m.answer) pdu (rw caught (stands_still stands)))) }
    where
      caught : t.latched ≡ Some f
      caught = latched ∙ latched_by s.latched latches

      agrees : Agrees lends v m m.answer more (g.story.start + length g.story.taken) (g.story.start + length now)
      agrees = subst (λ a. Agrees lends v m a more (g.story.start + length g.story.taken) (g.story.start + length now)) (sym a)
          (subst (λ k. RefusedAgrees k f more (g.story.start + length g.story.taken) (g.story.start + length now)) (sym is)
          (short 0 (named_nesting (all_bytes v) s.body.opens ∙ omega arith), omega arith, stands.after))

  pub skip_kept : Made (SkipCall lends s) SkipAnswer m.answer t → m.count ≡ t.body.reader.count → Tells m t → Kept lends v (h ++ (m ∷ [])) t
  skip_kept made counts tells = go (skip_came made)
    where
      go : SkipCame lends s t m.answer → Kept lends v (h ++ (m ∷ [])) t
      go (passes o own loose n skip a latched pdu end) = let g = ongoing k loose own in passes_kept g loose n a latched pdu end counts (skip_ends g.story.small skip g.live (omega arith))
      go (refuses o own loose f skip a latched pdu end) = let g = ongoing k loose own in refused_kept g loose f a latched pdu end (skip_ends g.story.small skip g.live (omega arith))
      go (tells_again f a same why) =
          let place = untried_place why in
          quiet m f k same a (untried_free why) (calm m is (answer.Refused f)) (λ c i. subst (λ k. RefusedAgrees k f [] c c) (sym is) (refl, omega arith, omega arith)) tells

  -- ---- when it is tried

  pub skip_taken_up : Made (SkipCall lends s) SkipAnswer m.answer t → TakenUp s t (is_open s.pdu) (IfRefused ForGood m.answer) m.answer
  skip_taken_up made = go (skip_came made)
    where
      for_good : {start size : ℕ} {taken : List ℕ} {es : List Event} {b : Body} {down n : ℕ} {f : Refusal} → SkipEnd lends v start size taken es b down n t.body (Err f) → latching f.cause ≡ true
      for_good (cut more now grows latches stands short) = latches

      go : SkipCame lends s t m.answer → TakenUp s t (is_open s.pdu) (IfRefused ForGood m.answer) m.answer
      go (passes o own loose n skip a latched pdu end) = tried loose (ap is_open own) (λ f is. absurd (cc))
      go (refuses o own loose f skip a latched pdu end) =
          let g = ongoing k loose own in
          tried loose (ap is_open own) (known_of ForGood a (for_good (skip_ends g.story.small skip g.live (omega arith))))
      go (tells_again f a same why) = untried f a same why

-- ---- what it answers over a whole body

pub skip_reads : {lends : Bool} {v : View} {h : List Moment} {s t : State} {a : Answer} (y : Story lends v h s) → phase h ≡ running (record { start = y.start; length = y.size }) →
    (w : Value) → Whole lends v y.start y.size w →
    Made (SkipCall lends s) SkipAnswer a t →
    Reads lends w y.es call.Skip a
skip_reads {lends} {v} {h} {s} {t} {a} y on w whole made =
    let (own, i) = in_pdu_now y on in
    let loose = unstuck i w whole in
    go loose own (live_now i loose) (skip_came made)
  where
    to_come : (es x : List Event) → events w ≡ es ++ x → drop (length es) (events w) ≡ x
    to_come es x told = rw told (drop-append_seam es x)

    passed : {n : ℕ} → Live lends v y.start y.size y.taken y.es s.body → SkipEnd lends v y.start y.size y.taken y.es s.body (nesting s.body.opens) 0 t.body (Ok n) →
        n ≡ stretch 0 (drop (length y.es) (events w))
    passed first (done more now live long (nothing closed same)) =
        let (r, x, body, told, completes) = still_to_come (passing_of first) w whole.declared in
        let none_left : x ≡ [] = (coming.ended (subst (λ o. Completes none (levels (all_bytes v) o) r x) closed completes)).1 in
        long ∙ omega arith ∙ sym (ap (stretch 0) (to_come y.es x told ∙ none_left))
    passed first (done more now live long (something runs there)) =
        let (r, x, body, told, completes) = still_to_come (passing_of live) w whole.declared in
        let rest : drop (length y.es) (events w) ≡ more ++ x = to_come y.es (more ++ x) (told ∙ append_assoc y.es more x) in
        long ∙ omega arith ∙ sym (ap (stretch 0) rest ∙ stretch_of runs (sym (named_nesting (all_bytes v) s.body.opens)) x)

    go : s.latched ≡ None → s.pdu ≡ Some (record { start = y.start; length = y.size }) → Live lends v y.start y.size y.taken y.es s.body → SkipCame lends s t a →
        a ≡ answer.Skipped (stretch 0 (drop (length y.es) (events w)))
    go loose own live (passes o is free n skip says latched pdu end) = says ∙ ap answer.Skipped (passed live (skip_ends y.small skip live (omega arith)))
    go loose own live (refuses o is free f skip says latched pdu end) = absurd (never (skip_ends y.small skip live (omega arith)))
      where
        never : SkipEnd lends v y.start y.size y.taken y.es s.body (nesting s.body.opens) 0 t.body (Err f) → ⊥
        never (cut more now grows latches stands short) = stands.none_whole w whole
    go loose own live (tells_again f says same (again caught)) = absurd (cc)
    go loose own live (tells_again f says same (out_of_turn free shut is)) = let both = sym shut ∙ ap is_open own in absurd (cc)

-- ---- where the value has ended

pub skip_at_end : {lends : Bool} {v : View} {h : List Moment} {s t : State} {a : Answer} (y : Story lends v h s) → phase h ≡ running (record { start = y.start; length = y.size }) →
    Made (SkipCall lends s) SkipAnswer a t → s.latched ≡ None → s.body.opens ≡ [] → a ≡ answer.Skipped 0
skip_at_end {lends} {v} {s = s} {t = t} {a = a} y on made loose closed = let (own, i) = in_pdu_now y on in by own (ended (live_now i loose)) (skip_came made)
  where
    ended : Live lends v y.start y.size y.taken y.es s.body → step lends None s.body ≡ gives None s.body []
    ended live = step_done lends None s.body (none_awaited (all_bytes v) s.body.unread s.body.opens live.ready.waits closed) closed

    by : s.pdu ≡ Some (record { start = y.start; length = y.size }) → step lends None s.body ≡ gives None s.body [] → SkipCame lends s t a → a ≡ answer.Skipped 0
    by own here (passes o is free n skip says latched pdu end) = let same = none_skipped skip here in let zero : n ≡ 0 = cc in says ∙ ap answer.Skipped zero
    by own here (refuses o is free f skip says latched pdu end) = let same = none_skipped skip here in absurd (cc)
    by own here (tells_again f says same (again caught)) = absurd (cc)
    by own here (tells_again f says same (out_of_turn free shut is)) = let both = sym shut ∙ ap is_open own in absurd (cc)

pub skip_only_there : {lends : Bool} {v : View} {h : List Moment} {s t : State} {a : Answer} → Kept lends v h s → Made (SkipCall lends s) SkipAnswer a t → a ≡ answer.Skipped 0 → s.body.opens ≡ []
skip_only_there {lends} {v} {s = s} {t = t} {a = a} k made all = go (skip_came made)
  where
    ended : {start size : ℕ} {taken : List ℕ} {es : List Event} {b : Body} {down n : ℕ} → SkipEnd lends v start size taken es b down 0 t.body (Ok n) → n ≡ 0 → b.opens ≡ []
    ended (done more now live long (nothing closed same)) e = closed
    ended (done more now live long (something runs there)) e = absurd (let some = some_run runs in omega arith)

    go : SkipCame lends s t a → s.body.opens ≡ []
    go (passes o own loose n skip says latched pdu end) =
        let zero : n ≡ 0 = cc in
        let g = ongoing k loose own in
        ended (skip_ends g.story.small skip g.live (omega arith)) zero
    go (refuses o own loose f skip says latched pdu end) = absurd (cc)
    go (tells_again f says same why) = absurd (cc)
