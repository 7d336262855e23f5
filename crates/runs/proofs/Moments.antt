-- What one more moment makes of what is open and of the first refusal for good.
use Rattle.std.proofs.Common.{◌≡◌, ℕ, Bool, true, false, cond, List, [], ◌∷◌, ◌++◌, Some, None, Option, refl, sym, ap, ◌∙◌, subst}
use Rattle.read.specs.Reader.{View}
use Rattle.format.specs.Numbers.{latching}
use Rattle.format.specs.declared.refusal.Refusal.{Refusal}
use Rattle.de.specs.declared.entry.Answer.{Answer}
use Rattle.de.specs.declared.entry.Answer.TheVariants as answer
use Rattle.de.specs.Calls.{latch_by}
use Rattle.de.specs.Made.{Moment, AsTold}
use Rattle.runs.specs.Law.{Phase, phase_after, phase_from, first_for_good, for_good_from, for_good, Agrees, RefusedAgrees}
use Rattle.runs.proofs.Bodies.{Drawn}

pub last_same : {A : Type 0} (xs ys : List A) {x y : A} → xs ++ (x ∷ []) ≡ ys ++ (y ∷ []) → (xs ≡ ys) × (x ≡ y)
last_same [] [] e = (refl, cc)
last_same [] (b ∷ []) e = absurd (cc)
last_same [] (b ∷ c ∷ ys) e = absurd (cc)
last_same (a ∷ []) [] e = absurd (cc)
last_same (a ∷ b ∷ xs) [] e = absurd (cc)
last_same (a ∷ xs) (b ∷ ys) {x} {y} e =
    let rest : xs ++ (x ∷ []) ≡ ys ++ (y ∷ []) = cc in
    let (same, lasts) = last_same xs ys rest in
    (cc, lasts)

-- ---- after one more moment

pub phase_last : (p : Phase) (h : List Moment) (m : Moment) → phase_from p (h ++ (m ∷ [])) ≡ phase_after (phase_from p h) m.call m.answer
phase_last p [] m = refl
phase_last p (x ∷ h) m = phase_last (phase_after p x.call x.answer) h m

for_good_last : (o : Option Refusal) (h : List Moment) (m : Moment) → for_good_from o (h ++ (m ∷ [])) ≡ first_for_good (for_good_from o h) m.answer
for_good_last o [] m = refl
for_good_last o (x ∷ h) m = for_good_last (first_for_good o x.answer) h m

-- ---- a refusal

pub as_told : {o : Option Refusal} {f : Refusal} {a : Answer} → o ≡ Some f → AsTold o a → a ≡ answer.Refused f
as_told {a = a} e told = subst (λ o. AsTold o a) e told

pub agrees_refused : (lends : Bool) (v : View) (m : Moment) {f : Refusal} (c : ℕ) → m.answer ≡ answer.Refused f → RefusedAgrees m.call f [] c c → Agrees lends v m m.answer [] c c
agrees_refused lends v m c a agrees = subst (λ a. Agrees lends v m a [] c c) (sym a) agrees

-- ---- whether a call was refused for good

-- what latched is the first refusal for good, and the bytes to come are known until then
pub data Latch (lends : Bool) (v : View) (h : List Moment) (w : View) : Option Refusal → Type 0 where
  uncaught : Drawn lends v w → for_good h ≡ None → Latch lends v h w None
  caught : {f : Refusal} → latching f.cause ≡ true → for_good h ≡ Some f → Latch lends v h w (Some f)

pub drawn_of : {lends : Bool} {v w : View} {h : List Moment} {o : Option Refusal} → Latch lends v h w o → o ≡ None → Drawn lends v w
drawn_of (uncaught d u) e = d
drawn_of (caught l n) e = absurd (cc)

pub latched_first : {lends : Bool} {v w : View} {h : List Moment} {o : Option Refusal} → Latch lends v h w o → o ≡ for_good h
latched_first (uncaught d u) = sym u
latched_first (caught l n) = sym n

pub latches_of : {lends : Bool} {v w : View} {h : List Moment} {o : Option Refusal} {f : Refusal} → Latch lends v h w o → o ≡ Some f → latching f.cause ≡ true
latches_of (uncaught d u) e = absurd (cc)
latches_of {f = g} (caught {f} l n) e = let same : f ≡ g = cc in subst (λ (f : Refusal). latching f.cause ≡ true) same l

-- no call was refused for good, nor is this one
pub latch_none : {lends : Bool} {v w : View} (h : List Moment) (m : Moment) {o : Option Refusal} → o ≡ None → Drawn lends v w → for_good h ≡ None → first_for_good None m.answer ≡ None →
    Latch lends v (h ++ (m ∷ [])) w o
latch_none h m e d u k = rw e (uncaught d (for_good_last None h m ∙ ap (λ o. first_for_good o m.answer) u ∙ k))

-- this is the first
pub latch_some : {lends : Bool} {v w : View} (h : List Moment) (m : Moment) {o : Option Refusal} {f : Refusal} → o ≡ Some f → for_good h ≡ None → m.answer ≡ answer.Refused f →
    latching f.cause ≡ true →
    Latch lends v (h ++ (m ∷ [])) w o
latch_some h m {f = f} e u a l = rw e (caught l (for_good_last None h m ∙ ap (λ o. first_for_good o m.answer) u ∙ ap (first_for_good None) a ∙ ap (λ b. cond b (Some f) None) l))

-- a refusal that changes nothing
pub latch_still : {lends : Bool} {v w : View} {h : List Moment} (m : Moment) {o : Option Refusal} {f : Refusal} → Latch lends v h w o → m.answer ≡ answer.Refused f →
    (o ≡ None → latching f.cause ≡ false) → Latch lends v (h ++ (m ∷ [])) w o
latch_still {h = h} m {f = f} (uncaught d u) a k =
    uncaught d (for_good_last None h m ∙ ap (λ o. first_for_good o m.answer) u ∙ ap (first_for_good None) a ∙ ap (λ b. cond b (Some f) None) (k refl))
latch_still {h = h} m (caught {f} l n) a k = caught l (for_good_last None h m ∙ ap (λ o. first_for_good o m.answer) n)

pub latched_by : {f : Refusal} (o : Option Refusal) → latching f.cause ≡ true → latch_by f o ≡ Some f
latched_by {f} o l = ap (λ b. cond b (Some f) o) l
