-- A call of open: what it keeps, when it accepts, and when it is tried at all.
use Rattle.std.proofs.Common.{◌≡◌, ℕ, ◌+◌, Bool, true, false, List, [], ◌∷◌, ◌++◌, length, Some, None, Option, Result, ◌⊎◌, inl, inr, refl, sym, ap, ◌∙◌, subst, arith}
use Rattle.read.specs.Reader.{View, Sound}
use Rattle.format.specs.declared.refusal.Refusal.{Refusal}
use Rattle.format.specs.declared.refusal.Cause.TheVariants as cause
use Rattle.values.specs.Limits.{RoomForKeyBytes}
use Rattle.values.specs.Values.{Event}
use Rattle.bunser.specs.declared.Header.{Header}
use Rattle.bunser.specs.Outcome.{Outcome, got, bad}
use Rattle.bunser.specs.Reads.{header_read}
use Rattle.de.specs.declared.event.Refused.{Refused}
use Rattle.de.specs.declared.pdu.Extent.{Extent}
use Rattle.de.specs.declared.pdu.PduInfo.{PduInfo}
use Rattle.de.specs.declared.entry.Call.TheVariants as call
use Rattle.de.specs.declared.entry.Answer.{Answer}
use Rattle.de.specs.declared.entry.Answer.TheVariants as answer
use Rattle.de.specs.Calls.{State, Meets, Off, telling, latch, here, opened, unopened, open_by, open_turn, open_call, unless_latched}
use Rattle.de.specs.Made.{Moment, Made, OpenAnswer}
use Rattle.runs.specs.Law.{all_bytes, from, limits, Phase, none_yet, running, over, left, open_phase, phase, phase_after, open_pdu, first_for_good, for_good, RefusedAgrees, opens, count_after, HeaderAt, Opens, IfRefused, ForGood, none_open}
use Rattle.runs.proofs.Reached.{reached_first}
use Rattle.runs.proofs.Taking.{none_taken}
use Rattle.runs.proofs.Stepped.{Solid}
use Rattle.runs.proofs.Took.{solid_on}
use Rattle.runs.proofs.Reading.{Comes, Halted}
use Rattle.runs.proofs.Heading.{Headed, from_here, header_reads, header_there}
use Rattle.runs.proofs.Bodies.{Drawn, drawn_more, from_count, Live, passing_of, passing_still}
use Rattle.runs.proofs.Moments.{phase_last, drawn_of, latched_first, latch_none, latch_some, agrees_refused, as_told, latched_by}
use Rattle.runs.proofs.Turns.{Untried, again, out_of_turn, untried_free, TakenUp, untried, tried, known_of}
use Rattle.runs.proofs.Story.{goes_on, Stands, in_pdu, behind_it, off_it, Story, story_still, Untouched, untouched_on, Kept, pdu_told, Tells, quiet}

solid_first : {lends : Bool} {v : View} → Sound lends v → Solid lends (all_bytes v) v
solid_first s = record { octets = s.octets; kept_all = s.kept_all; whole = λ e. refl }

solid_drawn : {lends : Bool} {v w : View} → Sound lends v → Drawn lends v w → Solid lends (all_bytes v) w
solid_drawn s d = solid_on d.took (solid_first s)

-- a header stands before the reader where it stands in the bytes that were there at first
same_header : {v w : View} {n caps start size : ℕ} → from v n ≡ from w n → v.stop ≡ w.stop → HeaderAt v n caps start size → HeaderAt w n caps start size
same_header e s h = record {
  flags = h.flags;
  four = h.four;
  capabilities = h.capabilities;
  width = h.width;
  fits = h.fits;
  there = rw (← e) h.there;
  begins = h.begins;
  clear = rw (← s) h.clear;
  bounded = h.bounded;
}

same_bytes : {lends : Bool} {v w : View} → Drawn lends v w → from v w.count ≡ from w w.count
same_bytes {lends} {v} {w} d = from_count d ∙ sym (from_here w)

room_at_first : (lends : Bool) → RoomForKeyBytes (limits lends) 0
room_at_first true = tt
room_at_first false = omega arith

-- ---- what a call of open comes to

pub data OpenCame (lends : Bool) (s t : State) (a : Answer) : Type 0 where
  begins : s.latched ≡ None → s.pdu ≡ None → (e : Header) (w : View) → header_read lends s.body.reader ≡ got e w → a ≡ answer.Opened e → t ≡ opened s e w → OpenCame lends s t a
  refuses : s.latched ≡ None → s.pdu ≡ None → (f : Refusal) (w : View) → header_read lends s.body.reader ≡ bad f w → a ≡ answer.Refused f → Off f (latch f (unopened s w)) t → OpenCame lends s t a
  tells_again : (f : Refusal) → a ≡ answer.Refused f → t ≡ telling f s → Untried s (none_open s.pdu) f → OpenCame lends s t a

open_came : {lends : Bool} {s t : State} {a : Answer} → Made (Meets (open_call lends s)) OpenAnswer a t → OpenCame lends s t a
open_came {lends} {s} {t} {a} made = by_latch s.latched refl made.meets
  where
    answers : {r : Result PduInfo Refused} → made.result ≡ r → OpenAnswer r t a
    answers e = subst (λ r. OpenAnswer r t a) e made.answers

    by_read : s.latched ≡ None → s.pdu ≡ None → (o : Outcome Refusal Header) → header_read lends s.body.reader ≡ o → Meets (open_by o s) made.result t → OpenCame lends s t a
    by_read loose shut (got e w) read (gave, same) = begins loose shut e w read (answers gave) same
    by_read loose shut (bad f w) read (gave, off) = refuses loose shut f w read (as_told off.refused (answers gave)) off

    by_pdu : s.latched ≡ None → (p : Option Extent) → s.pdu ≡ p → Meets (open_turn p lends s) made.result t → OpenCame lends s t a
    by_pdu loose None shut meets = by_read loose shut (header_read lends s.body.reader) refl meets
    by_pdu loose (Some e) shut (gave, same) = tells_again (here cause.OutOfTurn s) (as_told (ap (λ t. t.refused) same) (answers gave)) same (out_of_turn loose (ap none_open shut) refl)

    by_latch : (o : Option Refusal) → s.latched ≡ o → Meets (unless_latched o s (open_turn s.pdu lends s)) made.result t → OpenCame lends s t a
    by_latch None loose meets = by_pdu loose s.pdu refl meets
    by_latch (Some f) caught (gave, same) = tells_again f (as_told (ap (λ t. t.refused) same) (answers gave)) same (again caught)

module _ {lends : Bool} {v : View} {h : List Moment} {s : State} (sound : Sound lends v) (k : Kept lends v h s) (m : Moment) (t : State) where
  -- what the read of the header comes to
  header_came : s.latched ≡ None → {o : Outcome Refusal Header} → header_read lends s.body.reader ≡ o → Comes (Headed lends s.body.reader) (Halted None s.body.reader) o
  header_came loose read = subst (Comes (Headed lends s.body.reader) (Halted None s.body.reader)) read (header_reads lends s.body.reader (solid_drawn sound (drawn_of k.latch loose)).octets)

  -- ---- what it keeps

  accepted_kept : s.latched ≡ None → m.call ≡ call.Open → (e : Header) (w : View) → header_read lends s.body.reader ≡ got e w → m.answer ≡ answer.Opened e →
      m.count ≡ (opened s e w).body.reader.count →
      Kept lends v (h ++ (m ∷ [])) (opened s e w)
  accepted_kept loose is e w read a counts = record {
    latch = latch_none h m refl drawn (sym (latched_first k.latch) ∙ loose) (ap (first_for_good None) a);
    tale = inr (record {
      start = e.start;
      size = e.length;
      taken = [];
      es = [];
      passed = rw at_start (opens h m a (counts ∙ headed.starts));
      passing = passing_of live;
      small = headed.header.bounded;
      last = refl;
      after = let starts = headed.starts in omega arith;
      stands = in_pdu (phase_last none_yet h m ∙ ap (λ c. phase_after (phase h) c m.answer) is ∙ ap (open_phase (phase h)) a) refl (goes_on live);
    });
  }
    where
      headed : Headed lends s.body.reader e w
      headed = header_came loose read

      drawn : Drawn lends v w
      drawn = drawn_more (drawn_of k.latch loose) headed.took

      at_start : e.start + length {A = ℕ} [] ≡ e.start
      at_start = omega arith

      live : Live lends v e.start e.length [] [] (opened s e w).body
      live = record {
        reached = reached_first;
        counts = refl;
        drawn = drawn;
        ready = record { solid = solid_drawn sound drawn; fit = tt; waits = tt; held = room_at_first lends };
        end = refl;
        front = [];
        fronts = none_taken;
        split = rw (← headed.starts) (from_count drawn);
        count = let starts = headed.starts in omega arith;
        inside = let starts = headed.starts in omega arith;
      }

  refused_kept : s.latched ≡ None → s.pdu ≡ None → m.call ≡ call.Open → (f : Refusal) (w : View) → header_read lends s.body.reader ≡ bad f w → m.answer ≡ answer.Refused f →
      Off f (latch f (unopened s w)) t → Tells m t → Kept lends v (h ++ (m ∷ [])) t
  refused_kept loose shut is f w read a off tells = record { latch = latch_some h m latched (sym (latched_first k.latch) ∙ loose) a un.latches; tale = go k.tale }
    where
      un : Halted None s.body.reader f w
      un = header_came loose read

      latched : t.latched ≡ Some f
      latched = off.latched ∙ latched_by s.latched un.latches

      gone : {start size : ℕ} {taken : List ℕ} {es : List Event} {p : Phase} → Stands lends v start size taken es s p → phase_after p m.call m.answer ≡ left (record { start = start; length = size })
      gone (in_pdu on o l) = absurd (cc)
      gone {p = p} (behind_it on n i) = ap (λ c. phase_after p c m.answer) is ∙ ap (λ p. open_phase p m.answer) on ∙ ap (open_phase (over _)) a
      gone {p = p} (off_it on n) = ap (λ c. phase_after p c m.answer) is ∙ ap (λ p. open_phase p m.answer) on ∙ ap (open_phase (left _)) a

      go : Untouched h s ⊎ Story lends v h s → Untouched (h ++ (m ∷ [])) t ⊎ Story lends v (h ++ (m ∷ [])) t
      go (inl u) = inl (untouched_on u m t a off.pdu off.body.events off.last tells)
      go (inr y) =
          let c = y.start + length y.taken in
          inr (story_still y m t (agrees_refused lends v m c a (subst (λ k. RefusedAgrees k f [] c c) (sym is) (refl, refl))) (passing_still y.passing off.body.opens off.body.events) off.last
          (rw latched (let after = rw loose at y.after in let place = un.after in omega arith)) (off_it (gone y.stands) (off.pdu ∙ shut)))

  pub open_kept : m.call ≡ call.Open → Made (Meets (open_call lends s)) OpenAnswer m.answer t → m.count ≡ t.body.reader.count → Tells m t → Kept lends v (h ++ (m ∷ [])) t
  open_kept is made counts tells = go (open_came made)
    where
      go : OpenCame lends s t m.answer → Kept lends v (h ++ (m ∷ [])) t
      go (begins loose shut e w read a same) = subst (λ t. Kept lends v (h ++ (m ∷ [])) t) (sym same) (accepted_kept loose is e w read a (counts ∙ ap (λ t. t.body.reader.count) same))
      go (refuses loose shut f w read a off) = refused_kept loose shut is f w read a off tells
      go (tells_again f a same free) = quiet m f k same a (untried_free free) (λ e. ap (λ c. phase_after (running e) c (answer.Refused f)) is) (λ c i. subst (λ k. RefusedAgrees k f [] c c) (sym is) (refl, refl)) tells

  -- ---- when it accepts

  pub opens_right : s.body.reader.count ≡ count_after v.count h → Made (Meets (open_call lends s)) OpenAnswer m.answer t → Opens v h m
  opens_right counts made = record { accepts = λ loose shut caps start size header. accepts loose shut caps start size header (open_came made); accepted = λ caps start size a. accepted caps start size a (open_came made) }
    where
      accepts : for_good h ≡ None → open_pdu (phase h) ≡ None → (caps start size : ℕ) → HeaderAt v (count_after v.count h) caps start size → OpenCame lends s t m.answer →
          m.answer ≡ answer.Opened (record { capabilities = caps; start = start; length = size })
      accepts unlatched none caps start size header came = by came
        where
          free : s.latched ≡ None
          free = latched_first k.latch ∙ unlatched

          there : (w : View) × (header_read lends s.body.reader ≡ got (record { capabilities = caps; start = start; length = size }) w)
          there =
              let drawn = drawn_of k.latch free in
              header_there lends s.body.reader caps start size (same_header {v = v} {w = s.body.reader} (same_bytes drawn) (sym drawn.took.stop) (rw counts header))

          by : OpenCame lends s t m.answer → m.answer ≡ answer.Opened (record { capabilities = caps; start = start; length = size })
          by (begins loose shut e w read a same) = let both = sym read ∙ there.1 in let header : e ≡ record { capabilities = caps; start = start; length = size } = cc in a ∙ ap answer.Opened header
          by (refuses loose shut f w read a off) = let both = sym read ∙ there.1 in absurd (cc)
          by (tells_again f a same (again caught)) = let both = sym free ∙ caught in absurd (cc)
          by (tells_again f a same (out_of_turn loose own is)) = let both = sym own ∙ ap none_open (pdu_told k ∙ none) in absurd (cc)

      accepted : (caps start size : ℕ) → m.answer ≡ answer.Opened (record { capabilities = caps; start = start; length = size }) → OpenCame lends s t m.answer →
          (for_good h ≡ None) × (open_pdu (phase h) ≡ None) × HeaderAt v (count_after v.count h) caps start size
      accepted caps start size a (begins loose shut e w read b same) =
          let drawn = drawn_of k.latch loose in
          let headed = header_came loose read in
          let header : e ≡ record { capabilities = caps; start = start; length = size } = cc in (
            sym (latched_first k.latch) ∙ loose,
            sym (pdu_told k) ∙ shut,
            rw (← counts)
                (subst (λ (e : Header). HeaderAt v s.body.reader.count e.capabilities e.start e.length) header (same_header {v = s.body.reader} {w = v} (sym (same_bytes drawn)) drawn.took.stop headed.header)),
          )
      accepted caps start size a (refuses loose shut f w read b off) = absurd (cc)
      accepted caps start size a (tells_again f b same free) = absurd (cc)

  -- ---- when it is tried

  pub open_taken_up : Made (Meets (open_call lends s)) OpenAnswer m.answer t → TakenUp s t (none_open s.pdu) (IfRefused ForGood m.answer) m.answer
  open_taken_up made = go (open_came made)
    where
      go : OpenCame lends s t m.answer → TakenUp s t (none_open s.pdu) (IfRefused ForGood m.answer) m.answer
      go (begins loose shut e w read a same) = tried loose (ap none_open shut) (λ f is. absurd (cc))
      go (refuses loose shut f w read a off) = let halted = header_came loose read in tried loose (ap none_open shut) (known_of ForGood a halted.latches)
      go (tells_again f a same why) = untried f a same why
