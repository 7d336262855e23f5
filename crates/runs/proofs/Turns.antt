-- When a call is tried at all, and what is left where it is not: a refusal for good comes again, or the call is out of turn.
use Rattle.std.proofs.Common.{◌≡◌, ◌<◌, ◌≤◌, Bool, true, false, Some, None, ap, sym, subst, subst₂, arith}
use Rattle.format.specs.Numbers.{latching, number_of}
use Rattle.format.specs.declared.refusal.Refusal.{Refusal}
use Rattle.format.specs.declared.refusal.ReadError.TheVariants as error
use Rattle.format.specs.declared.refusal.Cause.{Cause}
use Rattle.format.specs.declared.refusal.Cause.TheVariants as cause
use Rattle.de.specs.declared.entry.Answer.{Answer}
use Rattle.de.specs.declared.entry.Answer.TheVariants as answer
use Rattle.de.specs.Calls.{State, here, telling, up_to}
use Rattle.runs.specs.Law.{IfRefused, ForGood, Asked}

-- why a call is refused before anything is read
pub data Untried (s : State) (in_turn : Bool) (f : Refusal) : Type 0 where
  again : s.latched ≡ Some f → Untried s in_turn f
  out_of_turn : s.latched ≡ None → in_turn ≡ false → f ≡ here cause.OutOfTurn s → Untried s in_turn f

-- such a refusal is for good only where it comes again
pub untried_free : {s : State} {in_turn : Bool} {f : Refusal} → Untried s in_turn f → s.latched ≡ None → latching f.cause ≡ false
untried_free (again caught) loose = absurd (cc)
untried_free (out_of_turn loose w is) e = ap (λ (f : Refusal). latching f.cause) is

pub untried_place : {s : State} {in_turn : Bool} {f : Refusal} → Untried s in_turn f → up_to s.latched s ≤ f.place
untried_place (again caught) = rw caught (omega arith)
untried_place (out_of_turn loose w is) = rw (loose, is) (omega arith)

-- a call is refused before anything is read, or it is tried, and this is known of its answer
pub data TakenUp (s t : State) (in_turn : Bool) (known : Type 0) (a : Answer) : Type 0 where
  untried : (f : Refusal) → a ≡ answer.Refused f → t ≡ telling f s → Untried s in_turn f → TakenUp s t in_turn known a
  tried : s.latched ≡ None → in_turn ≡ true → known → TakenUp s t in_turn known a

pub asked : {s t : State} {in_turn : Bool} {known : Type 0} {a : Answer} → TakenUp s t in_turn known a → Asked s.latched in_turn known a
asked {in_turn = in_turn} {known = known} {a = a} (untried f is same (again caught)) = subst (λ r. Asked r in_turn known a) (sym caught) is
asked {known = known} {a = a} (untried f is same (out_of_turn loose off here)) = subst₂ (λ r b. Asked r b known a) (sym loose) (sym off) (f, is, ap (λ (f : Refusal). number_of f.cause) here)
asked {known = known} {a = a} (tried loose on k) = subst₂ (λ r b. Asked r b known a) (sym loose) (sym on) k

-- ---- what the number of a refusal says

-- a refusal for good has none of the numbers of a call out of turn and of another token
pub good_number : (c : Cause) → latching c ≡ true → 3 ≤ number_of c
good_number cause.OutOfTurn h = absurd (cc)
good_number cause.Token h = absurd (cc)
good_number (cause.Read error.Room) h = absurd (cc)
good_number (cause.Read _) h = omega arith
good_number _ h = omega arith

-- what is known of one refusal is known of the answer
pub known_of : {a : Answer} {f : Refusal} (P : Refusal → Type 0) → a ≡ answer.Refused f → P f → IfRefused P a
known_of {f = f} P a p g is = let same : f ≡ g = cc in subst P same p

-- what a call leaves that is refused by 1 or 2, or because a call before it was refused for good
pub record LeavesAll (s t : State) (a : Answer) : Type 0 where
  pub by_number : (f : Refusal) → a ≡ answer.Refused f → number_of f.cause < 3 → (f.place ≡ s.body.reader.count) × (t.body ≡ s.body)
  pub for_good : (f : Refusal) → s.latched ≡ Some f → t.body ≡ s.body

pub leaves_all : {s t : State} {in_turn : Bool} {known : Type 0} {a : Answer} → ((f : Refusal) → s.latched ≡ Some f → ForGood f) → (known → IfRefused (λ f. 3 ≤ number_of f.cause) a) →
    TakenUp s t in_turn known a → LeavesAll s t a
leaves_all {s} {t} {in_turn} {known} {a} latches many up = record { by_number = λ f is few. by_number f is few up; for_good = λ f caught. for_good f caught up }
  where
    by_number : (f : Refusal) → a ≡ answer.Refused f → number_of f.cause < 3 → TakenUp s t in_turn known a → (f.place ≡ s.body.reader.count) × (t.body ≡ s.body)
    by_number f is few (untried g this same (again caught)) =
        let known = known_of (λ f. 3 ≤ number_of f.cause) this (good_number g.cause (latches g caught)) f is in
        absurd (omega arith)
    by_number f is few (untried g this same (out_of_turn loose off at)) = (known_of (λ f. f.place ≡ s.body.reader.count) this (ap (λ (f : Refusal). f.place) at) f is, ap (λ t. t.body) same)
    by_number f is few (tried loose on known) = let far = many known f is in absurd (omega arith)

    for_good : (f : Refusal) → s.latched ≡ Some f → TakenUp s t in_turn known a → t.body ≡ s.body
    for_good f caught (untried g this same why) = ap (λ t. t.body) same
    for_good f caught (tried loose on known) = absurd (cc)
