-- A table is read by calls in their turn and with the right token: no refusal of it has the number of a call that is not.
use Rattle.std.proofs.Common.{◌≡◌, Bool, true, false, cond, inl, inr, List, [], ◌∷◌, Some, None, Option, refl, sym, ap, ◌∙◌, subst, arith}
use Rattle.format.specs.declared.refusal.ReadError.TheVariants.{End, Stop, Room, Short, Source, Magic, Byte, Negative, TooLong, NotText}
use Rattle.format.specs.declared.refusal.Cause.{Cause}
use Rattle.format.specs.declared.refusal.Cause.TheVariants.{OutOfTurn, Token, Read, Depth, KeyRoom, NoKeys, Unfinished, Length}
use Rattle.format.specs.declared.refusal.Refusal.{Refusal}
use Rattle.format.specs.Numbers.{latching, number_of}
use Rattle.de.specs.declared.pdu.Extent.{Extent}
use Rattle.de.specs.declared.entry.Call.TheVariants as call
use Rattle.de.specs.declared.entry.Answer.{Answer}
use Rattle.de.specs.declared.entry.Answer.TheVariants as answer
use Rattle.de.specs.Made.{Moment}
use Rattle.runs.specs.Law.{running, phase, open_pdu, first_for_good, for_good_from, for_good, IfRefused, ForGood, Turn, Again, CloseAsked}
use Rattle.survey.specs.declared.verdict.Verdict.{Verdict}
use Rattle.survey.specs.Surveys.{Judged}
use Rattle.survey.specs.Tables.{InTurn}

good_number : (c : Cause) → latching c ≡ true → InTurn (number_of c)
good_number OutOfTurn h = absurd (cc)
good_number Token h = absurd (cc)
good_number (Read Room) h = absurd (cc)
good_number (Read End) h = (λ e. omega arith, λ e. omega arith, λ e. omega arith)
good_number (Read Stop) h = (λ e. omega arith, λ e. omega arith, λ e. omega arith)
good_number (Read Short) h = (λ e. omega arith, λ e. omega arith, λ e. omega arith)
good_number (Read (Source f)) h = (λ e. omega arith, λ e. omega arith, λ e. omega arith)
good_number (Read (Magic bs)) h = (λ e. omega arith, λ e. omega arith, λ e. omega arith)
good_number (Read (Byte k b)) h = (λ e. omega arith, λ e. omega arith, λ e. omega arith)
good_number (Read Negative) h = (λ e. omega arith, λ e. omega arith, λ e. omega arith)
good_number (Read TooLong) h = (λ e. omega arith, λ e. omega arith, λ e. omega arith)
good_number (Read NotText) h = (λ e. omega arith, λ e. omega arith, λ e. omega arith)
good_number Depth h = (λ e. omega arith, λ e. omega arith, λ e. omega arith)
good_number KeyRoom h = (λ e. omega arith, λ e. omega arith, λ e. omega arith)
good_number NoKeys h = (λ e. omega arith, λ e. omega arith, λ e. omega arith)
good_number Unfinished h = (λ e. omega arith, λ e. omega arith, λ e. omega arith)
good_number (Length n m) h = (λ e. omega arith, λ e. omega arith, λ e. omega arith)

-- ---- what was refused for good is for good

AllGood : Option Refusal → Type 0
AllGood o = (f : Refusal) → o ≡ Some f → ForGood f

good_next : (o : Option Refusal) (a : Answer) → AllGood o → AllGood (first_for_good o a)
unfolding AllGood
good_next (Some g) a h = h
good_next None (answer.Refused g) h = by_latch (latching g.cause) refl
  where
    by_latch : (b : Bool) → latching g.cause ≡ b → AllGood (cond b (Some g) None)
    by_latch true e f is = let same : g ≡ f = cc in subst (λ (f : Refusal). latching f.cause ≡ true) same e
    by_latch false e f is = absurd (cc)
good_next None (answer.Opened k) h = h
good_next None (answer.Gave e) h = h
good_next None answer.Done h = h
good_next None (answer.Skipped n) h = h
good_next None (answer.Closed k) h = h

good_from : (o : Option Refusal) (h : List Moment) → AllGood o → AllGood (for_good_from o h)
good_from o [] g = g
good_from o (m ∷ h) g = good_from (first_for_good o m.answer) h (good_next o m.answer g)

all_good : (h : List Moment) → AllGood (for_good h)
unfolding AllGood
all_good h = good_from None h (λ f is. absurd (cc))

-- ---- the verdict

judged_in_turn : (n : Moment) (v : Verdict) → IfRefused ForGood n.answer → Judged n.answer n v → InTurn v.number
judged_in_turn n v good j = go n.answer refl j
  where
    go : (a : Answer) → n.answer ≡ a → Judged a n v → InTurn v.number
    go (answer.Closed k) is j = subst InTurn (sym (ap (λ (v : Verdict). v.number) j)) (λ e. omega arith, λ e. omega arith, λ e. omega arith)
    go (answer.Refused f) is j = subst InTurn (sym (ap (λ (v : Verdict). v.number) j)) (good_number f.cause (good f is))
    go (answer.Opened k) is j = absurd j
    go (answer.Gave e) is j = absurd j
    go (answer.Skipped k) is j = absurd j
    go answer.Done is j = absurd j

pub open_in_turn : (m : Moment) (v : Verdict) → m.call ≡ call.Open → Turn true None None m.call m.answer → Judged m.answer m v → InTurn v.number
open_in_turn m v is turn = judged_in_turn m v (subst (λ c. Turn true None None c m.answer) is turn)

pub close_in_turn : (h : List Moment) (e : Extent) (n : Moment) (v : Verdict) → phase h ≡ running e → n.call ≡ call.Close e → Turn true (open_pdu (phase h)) (for_good h) n.call n.answer → Judged n.answer n v → InTurn v.number
unfolding AllGood
close_in_turn h e n v runs is turn = judged_in_turn n v (own (subst (λ c. Turn true (open_pdu (phase h)) (for_good h) c n.answer) is turn))
  where
    good : (r : Option Refusal) → ((f : Refusal) → r ≡ Some f → ForGood f) → Again r n.answer → IfRefused ForGood n.answer
    good None all again g refused = again g refused
    good (Some f) all again g refused = let same : f ≡ g = let both = sym again ∙ refused in cc in subst ForGood same (all f refl)

    own : CloseAsked (open_pdu (phase h)) (for_good h) e n.answer → IfRefused ForGood n.answer
    own (inl (mine, again)) = good (for_good h) (all_good h) again
    own (inr (other, refused)) = absurd (other (ap open_pdu runs))
