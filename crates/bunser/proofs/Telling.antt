-- How what is told of a read goes into what is told of a longer one.
use Rattle.std.proofs.Common.{◌≡◌, ℕ, Bool, true, false, cond, IsErrAnd, Option, Ok, Err, Result, sym, refl, ap, subst, arith}
use Rattle.read.specs.Reader.{View}
use Rattle.read.proofs.Slices.{nothing_lost}
use Rattle.format.specs.declared.refusal.ReadError.{ReadError}
use Rattle.format.specs.declared.refusal.ReadError.TheVariants.{End, Stop, Room, Short, Source, Magic, Byte, Negative, TooLong, NotText}
use Rattle.format.specs.declared.refusal.Refusal.{Refusal}
use Rattle.bunser.specs.declared.Bunser.{Bunser}
use Rattle.bunser.specs.Outcome.{Outcome, got, bad, and_then, at, placed, placed_result, ReadLeaves, TellsBy, Tells, TellsAt, BodyRead}
use Rattle.bunser.specs.Reads.{told_as}

pub ok_err : {A E : Type 0} {a : A} {e : E} {P : Type 0} → ◌≡◌ {A = Result A E} (Ok a) (Err e) → P
ok_err e = let z : ◌≡◌ {A = ℕ} 0 1 = cc in absurd (omega arith)

pub err_is : {B E : Type 0} (r : Result B E) (e : E) → IsErrAnd r (λ f. f ≡ e) → r ≡ Err e
err_is (Ok x) e h = absurd h
err_is (Err f) e h = ap Err h

module _ {E : Type 0} (leaves : E → View → View → Type 0) where
  pub told_ok : {A : Type 0} (m : Outcome E A) (a : A) (w : View) → TellsBy leaves m (Ok a) w → m ≡ got a w
  told_ok (got b v) a w (e, f) = let k : b ≡ a = cc in let l : v ≡ w = cc in cc
  told_ok (bad n v) a w (e, f) = ok_err e

  pub then_ok : {A B : Type 0} (m : Outcome E A) (f : A → View → Outcome E B) (a : A) (w : View) (r : Result B E) (u : View) →
      TellsBy leaves m (Ok a) w → TellsBy leaves (f a w) r u → TellsBy leaves (and_then m f) r u
  then_ok m f a w r u h k = subst (λ m. TellsBy leaves (and_then m f) r u) (sym (told_ok m a w h)) k

  pub then_err : {A B : Type 0} (m : Outcome E A) (f : A → View → Outcome E B) (e : E) (w : View) → TellsBy leaves m (Err e) w → TellsBy leaves (and_then m f) (Err e) w
  then_err (got b v) f e w (h, k) = ok_err (sym h)
  then_err (bad n v) f e w (h, k) = let z : n ≡ e = cc in (ap Err (sym z), k)

  -- a `?`
  pub then_stop : {A B : Type 0} (m : Outcome E A) (f : A → View → Outcome E B) (e : E) (w : View) (r : Result B E) →
      TellsBy leaves m (Err e) w → IsErrAnd r (λ f. f ≡ e) → TellsBy leaves (and_then m f) r w
  then_stop m f e w r h k = subst (λ z. TellsBy leaves (and_then m f) z w) (sym (err_is r e k)) (then_err m f e w h)

  -- the same of a read of a body
  pub body_stop : {A B R : Type 0} {view : R → View} {b c : Bunser R} (m : Option ℕ → View → Outcome E A) (f : Option ℕ → View → A → View → Outcome E B) (e : E) (r : Result B E) →
      BodyRead view b c (λ end v. TellsBy leaves (m end v) (Err e)) → IsErrAnd r (λ f. f ≡ e) → BodyRead view b c (λ end v. TellsBy leaves (and_then (m end v) (f end v)) r)
  body_stop {view = view} {b = b} {c = c} m f e r h by = record { reads = then_stop (m b.end (view b.read)) (f b.end (view b.read)) e (view c.read) r h.reads by; same = h.same }

-- a read that begins at a place
pub told_placed : {A : Type 0} (m : Outcome ReadError A) (p q : ℕ) (r : Result A ReadError) (s : Result A Refusal) (w : View) → p ≡ q → Tells m r w → s ≡ placed_result p r → TellsAt (placed q m) s w
told_placed m p q r s w same h is = subst (λ q. TellsAt (placed q m) s w) same (subst (λ s. TellsAt (placed p m) s w) (sym is) (go m r h))
  where
    go : {A : Type 0} (m : Outcome ReadError A) (r : Result A ReadError) → Tells m r w → TellsAt (placed p m) (placed_result p r) w
    go (got a v) (Ok x) (e, h) = let k : x ≡ a = cc in (ap Ok k, h)
    go (got a v) (Err x) (e, h) = ok_err (sym e)
    go (bad f v) (Ok x) (e, h) = ok_err e
    go (bad f v) (Err x) (e, h) = let k : x ≡ f = cc in (ap (λ y. Err (at y p)) k, h)

pub on_true : {E A : Type 0} (leaves : E → View → View → Type 0) (b : Bool) (m n : Outcome E A) (r : Result A E) (w : View) → b ≡ true → TellsBy leaves m r w → TellsBy leaves (cond b m n) r w
on_true leaves true m n r w e h = h
on_true leaves false m n r w e h = let z : ◌≡◌ {A = ℕ} 0 1 = cc in absurd (omega arith)

pub on_false : {E A : Type 0} (leaves : E → View → View → Type 0) (b : Bool) (m n : Outcome E A) (r : Result A E) (w : View) → b ≡ false → TellsBy leaves n r w → TellsBy leaves (cond b m n) r w
on_false leaves true m n r w e h = let z : ◌≡◌ {A = ℕ} 0 1 = cc in absurd (omega arith)
on_false leaves false m n r w e h = h

-- a refusal that takes nothing leaves the reader as it was
pub unmoved : (e : ReadError) (v : View) → ReadLeaves e v v
unmoved End v = refl
unmoved Stop v = refl
unmoved Room v = refl
unmoved Short v = nothing_lost v
unmoved (Source code) v = nothing_lost v
unmoved (Magic bytes) v = refl
unmoved (Byte kind b) v = refl
unmoved Negative v = refl
unmoved TooLong v = refl
unmoved NotText v = refl

-- a result that takes nothing from the reader
pub told_result : {A : Type 0} (s r : Result A ReadError) (w : View) → r ≡ s → Tells (told_as s w) r w
told_result (Ok a) r w is = (is, refl)
told_result (Err e) r w is = (is, unmoved e w)
