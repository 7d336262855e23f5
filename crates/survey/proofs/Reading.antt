-- A PDU that is read out: the calls before and behind the draws, and the law of all of them.
use Rattle.std.proofs.Common.{◌≡◌, ℕ, ◌+◌, Bool, true, false, cond, ◌==◌, ◌&&◌, ap₂, List, [], ◌∷◌, ◌++◌, length, arith, Some, None, Ok, Err, Option, Result, refl, sym, ap, ◌∙◌, subst, append-nil, append_assoc}
use Rattle.std.proofs.lemmas.Bool.{eqb-true}
use Rattle.read.specs.declared.slice.SliceRead.{SliceRead}
use Rattle.read.specs.Reader.{View, Sound}
use Rattle.read.specs.Slice.{slice_view, slice_sound}
use Rattle.format.specs.declared.refusal.Cause.TheVariants.{Token, Unfinished, Length}
use Rattle.format.specs.declared.refusal.Refusal.{Refusal}
use Rattle.bunser.specs.declared.Header.{Header}
use Rattle.bunser.specs.Outcome.{Outcome}
use Rattle.de.specs.declared.event.Refused.{Refused}
use Rattle.de.specs.declared.pdu.Extent.{Extent}
use Rattle.de.specs.declared.pdu.PduInfo.{PduInfo}
use Rattle.de.specs.declared.pdu.Closed.{Closed}
use Rattle.de.specs.declared.entry.Call.{Call}
use Rattle.de.specs.declared.entry.Call.TheVariants as call
use Rattle.de.specs.declared.entry.Answer.{Answer}
use Rattle.de.specs.declared.entry.Answer.TheVariants as answer
use Rattle.de.specs.Calls.{State, fresh, gave as gives_answer, told, Meets, open_by, open_turn, unless_latched, open_call, here, shut, refusing, finished, close_by, owns, close_own, close_call, tally}
use Rattle.de.specs.Made.{Moment, OpenAnswer, CloseAnswer, Logged, CallsMade, none_made, one_more, token}
use Rattle.runs.specs.Law.{Law}
use Rattle.runs.proofs.Lawful.{lawful}
use Rattle.survey.specs.declared.slot.Slot.{Slot}
use Rattle.survey.specs.declared.verdict.Verdict.{Verdict}
use Rattle.survey.specs.Verdicts.{acceptance, refusal_verdict}
use Rattle.survey.specs.Inside.{Fits, BodyInside}
use Rattle.de.proofs.Got.{IfGot, gave, refused}
use Rattle.survey.proofs.Inside.{Gives, header_fits}
use Rattle.survey.specs.Surveys.{table_view, Drawn, not_opened, to_the_end, Answers, ReadOut, Judged, Surveyed}
use Rattle.survey.proofs.Drawing.{as_told}

-- a call that leaves no text, seen from outside
abbrev pub moment_of : Call → Answer → State → Moment
moment_of c a t = record { call = c; answer = a; count = t.body.reader.count; events = (tally t).0; bytes = (tally t).1; text = [] }

abbrev pub extent_of : PduInfo → Extent
extent_of p = record { start = p.header.start; length = p.header.length }

open_logged : {s t : State} {a : Answer} (r : Result PduInfo Refused) → Meets (open_call true s) r t → OpenAnswer r t a → Logged true s (moment_of call.Open a t) t
open_logged r meets answers = record { made = (record { result = r; meets = meets; answers = answers }, refl); counts = refl; told_events = refl; told_bytes = refl }

-- of a token the two numbers alone are asked about
same_token : (p : PduInfo) (s : State) (o : Option Extent) → close_own o p s ≡ close_own o (token 0 (extent_of p)) s
same_token p s None = refl
same_token p s (Some e) = refl

close_logged : {s t : State} {a : Answer} (p : PduInfo) (r : Result Closed Refused) → Meets (close_call p s) r t → CloseAnswer r t a → Logged true s (moment_of (call.Close (extent_of p)) a t) t
close_logged {s} {t} p r meets answers = record {
  made = (record { result = r; meets = subst (λ m. Meets m r t) (same_token p s s.pdu) meets; answers = answers }, refl);
  counts = refl;
  told_events = refl;
  told_bytes = refl;
}

-- a close accepts where the declared body ends
close_whole : (p : PduInfo) (k : Closed) (s t : State) → Meets (close_call p s) (Ok k) t → t.body.reader.count ≡ p.header.start + p.header.length
close_whole p k s t meets = by_pdu s.pdu meets
  where
    owned : (e : Extent) (b : Bool) → (p.header.start == e.start) ≡ b → (b && (p.header.length == e.length)) ≡ true → (p.header.start ≡ e.start) × (p.header.length ≡ e.length)
    owned e true starts own = (eqb-true p.header.start e.start starts, eqb-true p.header.length e.length own)
    owned e false starts own = absurd (cc)

    by_count : (e : Extent) (b : Bool) → (s.body.reader.count == e.start + e.length) ≡ b → owns p e ≡ true →
        Meets (cond b (gives_answer (record { events = s.body.events; length = e.length }) (shut s)) (refusing (here (Length (e.start + e.length) s.body.reader.count) (shut s)) (shut s))) (Ok k) t →
        t.body.reader.count ≡ p.header.start + p.header.length
    by_count e true there own (comes, same) =
        let (start, long) = owned e (p.header.start == e.start) refl own in
        ap (λ (s : State). s.body.reader.count) same ∙ eqb-true s.body.reader.count (e.start + e.length) there ∙ sym (ap₂ (λ a b. a + b) start long)
    by_count e false there own (comes, same) = absurd (cc)

    by_end : (e : Extent) (b : Bool) → owns p e ≡ true →
        Meets (cond b (cond (s.body.reader.count == e.start + e.length) (gives_answer (record { events = s.body.events; length = e.length }) (shut s)) (refusing (here (Length (e.start + e.length) s.body.reader.count) (shut s)) (shut s)))
        (refusing (here Unfinished (shut s)) (shut s))) (Ok k) t → t.body.reader.count ≡ p.header.start + p.header.length
    by_end e true own meets = by_count e (s.body.reader.count == e.start + e.length) refl own meets
    by_end e false own (comes, same) = absurd (cc)

    by_latch : (e : Extent) (o : Option Refusal) → owns p e ≡ true → Meets (close_by o e (shut s)) (Ok k) t → t.body.reader.count ≡ p.header.start + p.header.length
    by_latch e (Some f) own (comes, same) = absurd (cc)
    by_latch e None own meets = by_end e (finished s.body) own meets

    by_owner : (e : Extent) (b : Bool) → owns p e ≡ b → Meets (cond b (close_by s.latched e (shut s)) (told (here Token s) s)) (Ok k) t → t.body.reader.count ≡ p.header.start + p.header.length
    by_owner e true own meets = by_latch e s.latched own meets
    by_owner e false own (comes, same) = absurd (cc)

    by_pdu : (o : Option Extent) → Meets (close_own o p s) (Ok k) t → t.body.reader.count ≡ p.header.start + p.header.length
    by_pdu None (comes, same) = absurd (cc)
    by_pdu (Some e) meets = by_owner e (owns p e) refl meets

calls_append : {s t u : State} {h k : List Moment} → CallsMade true s h t → CallsMade true t k u → CallsMade true s (h ++ k) u
calls_append {s} {t} {h = h} c none_made = subst (λ h. CallsMade true s h t) (sym (append-nil h)) c
calls_append {s} {u = u} {h = h} c (one_more {h = k} m d l) = subst (λ h. CallsMade true s h u) (append_assoc h k (m ∷ [])) (one_more m (calls_append c d) l)

-- a PDU that was opened lies in the table
opened_inside : (size : ℕ) (s a : State) (p : PduInfo) → Meets (open_call true s) (Ok p) a → Fits size s.body.reader → BodyInside size a.body
opened_inside size s a p meets fits = by_latch s.latched meets
  where
    by_header : {m : Outcome Refusal Header} → IfGot (Gives size) m → Meets (open_by m s) (Ok p) a → BodyInside size a.body
    by_header (gave {v = v} f) (comes, same) = subst (λ (s : State). BodyInside size s.body) (sym same) (f, tt)
    by_header refused (comes, off) = absurd (cc)

    by_turn : (o : Option Extent) → Meets (open_turn o true s) (Ok p) a → BodyInside size a.body
    by_turn (Some e) (comes, same) = absurd (cc)
    by_turn None meets = by_header (header_fits size s.body.reader fits) meets

    by_latch : (o : Option Refusal) → Meets (unless_latched o s (open_turn s.pdu true s)) (Ok p) a → BodyInside size a.body
    by_latch (Some f) (comes, same) = absurd (cc)
    by_latch None meets = by_turn s.pdu meets

-- ---- what is read

pub refused_at_once : {s t : State} {old : List Slot} (r : Refused) (f : Refusal) → Meets (open_call true s) (Err r) t → t.refused ≡ Some f → ReadOut s old (Err f) t old
refused_at_once {t = t} r f meets is = record {
  told = moment_of call.Open (answer.Refused f) t ∷ [];
  events = [];
  last = moment_of call.Open (answer.Refused f) t;
  reads = not_opened (moment_of call.Open (answer.Refused f) t) refl (f, refl);
  calls = one_more (moment_of call.Open (answer.Refused f) t) none_made (open_logged (Err r) meets (as_told is));
  answers = refl;
  count = refl;
  counted = refl;
  slots = refl;
  inside = λ size fits. tt;
}

abbrev opened_at : PduInfo → State → Moment
opened_at p a = moment_of call.Open (answer.Opened p.header) a

module _ {s a b t : State} {old new : List Slot} (p : PduInfo) (opened : Meets (open_call true s) (Ok p) a) (d : Drawn a old b new) where
  ends : (r : Result Closed Refusal) (x : Answer) → Answers r x → ((k : Closed) → x ≡ answer.Closed k → t.body.reader.count ≡ p.header.start + p.header.length) → Logged true b (moment_of (call.Close (extent_of p)) x t) t → ReadOut s old r t new
  ends r x answers whole logged = record {
    told = opened_at p a ∷ (d.told ++ (d.last ∷ n ∷ []));
    events = d.events;
    last = n;
    reads = to_the_end (opened_at p a) d.told d.events d.last n refl refl d.gives d.gives_none refl whole;
    calls = subst (λ h. CallsMade true s (opened_at p a ∷ h) t) (append_assoc d.told (d.last ∷ []) (n ∷ [])) (one_more n (calls_append (one_more (opened_at p a) none_made (open_logged (Ok p) opened refl)) d.calls) logged);
    answers = answers;
    count = refl;
    counted = refl;
    slots = d.slots;
    inside = λ size fits. d.inside size (opened_inside size s a p opened fits);
  }
    where
      n : Moment
      n = moment_of (call.Close (extent_of p)) x t

  pub accepted_at_end : (k : Closed) → Meets (close_call p b) (Ok k) t → ReadOut s old (Ok k) t new
  accepted_at_end k meets = ends (Ok k) (answer.Closed k) refl (λ _ e. close_whole p k b t meets) (close_logged p (Ok k) meets refl)

  pub refused_at_end : (r : Refused) (f : Refusal) → Meets (close_call p b) (Err r) t → t.refused ≡ Some f → ReadOut s old (Err f) t new
  refused_at_end r f meets is = ends (Err f) (answer.Refused f) refl (λ k e. absurd (cc)) (close_logged p (Err r) meets (as_told is))

-- ---- the law

pub calls_lawful : {v : View} {t : State} {h : List Moment} → Sound true v → CallsMade true (fresh v) h t → Law true v h
calls_lawful sound c = lawful sound c

-- a new decoder over a table
pub new_over : {s : State} (r : SliceRead) (table : List ℕ) → r.slice.now ≡ table → r.index ≡ 0 → r.peeked ≡ false → s ≡ fresh (slice_view r) → (s ≡ fresh (table_view table)) × Sound true (table_view table)
new_over r table bytes place free new = (new ∙ ap fresh same, subst (λ v. Sound true v) same (slice_sound r))
  where
    same : slice_view r ≡ table_view table
    same = rw (bytes, place, free) refl

-- the outcome in plain numbers
abbrev pub verdict_of : Result Closed Refusal → ℕ → ℕ → Verdict
verdict_of (Ok k) events taken = acceptance events taken
verdict_of (Err f) events taken = refusal_verdict f events taken

pub surveyed : {table : List ℕ} {s t : State} {old new : List Slot} {r : Result Closed Refusal} {v : Verdict} {events taken : ℕ} (d : ReadOut s old r t new) → (s ≡ fresh (table_view table)) × Sound true (table_view table) →
    events ≡ (tally t).0 → taken ≡ t.body.reader.count → v ≡ verdict_of r events taken → Surveyed table old v new
surveyed {table = table} {s = s} {t = t} {r = r} {v = v} {events = events} {taken = taken} d (new, sound) counted takes is = record {
  told = d.told;
  events = d.events;
  last = d.last;
  reads = d.reads;
  left = t;
  calls = made;
  lawful = calls_lawful sound made;
  judged = judged r d.answers (is ∙ ap (λ n. verdict_of r n taken) (counted ∙ sym d.counted) ∙ ap (verdict_of r d.last.events) (takes ∙ sym d.count));
  slots = d.slots;
  inside = d.inside (length table) (subst (λ (s : State). Fits (length table) s.body.reader) (sym new) (omega arith));
}
  where
    made : CallsMade true (fresh (table_view table)) d.told t
    made = subst (λ s. CallsMade true s d.told t) new d.calls

    judged : (r : Result Closed Refusal) → Answers r d.last.answer → v ≡ verdict_of r d.last.events d.last.count → Judged d.last.answer d.last v
    judged (Ok k) answers is = subst (λ a. Judged a d.last v) (sym answers) is
    judged (Err f) answers is = subst (λ a. Judged a d.last v) (sym answers) is
