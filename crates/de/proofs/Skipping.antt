-- What a skip does from here is what it does from where it began.
use Rattle.std.proofs.Common.{◌≡◌, ℕ, ◌<◌, ◌≤◌, Bool, true, false, List, IsErrAnd, Some, None, Ok, Err, Result, refl, sym, ap, ◌∙◌}
use Rattle.format.specs.declared.refusal.Refusal.{Refusal}
use Rattle.bunser.proofs.Telling.{ok_err, err_is}
use Rattle.room.specs.Open.{nesting}
use Rattle.de.specs.declared.event.Event.{Event}
use Rattle.de.specs.Steps.{Body, Out, gives, stops, counted, step}
use Rattle.de.specs.Calls.{PassesOver, Skips, over, stuck, last, onward}
use Rattle.de.proofs.Falling.{left, step_falls}

-- what the rest of a skip does from here, where so many have passed, is what the skip does
abbrev pub Onward : Bool → ℕ → Body → ℕ → Body → Type 0
Onward lends down b n c = (r : Result ℕ Refusal) (t : Body) → Skips lends down n c r t → Skips lends down 0 b r t

module _ (lends : Bool) (down n : ℕ) (b c : Body) where
  -- an event has passed
  pub record Passed : Type 0 where
    pub event : Event
    pub front : List ℕ
    pub gave : step lends None b ≡ gives (Some event) c front

  pub has_passed : PassesOver lends (step lends None b) (Ok true) c → Passed
  has_passed h = go (step lends None b) refl h
    where
      go : (m : Out) → step lends None b ≡ m → PassesOver lends m (Ok true) c → Passed
      go (gives (Some e) d x) q (y, z) = record { event = e; front = x; gave = q ∙ ap (λ d. gives (Some e) d x) (sym z) }
      go (gives None d x) q (y, z) = absurd (cc)
      go (stops f d x) q (y, z) = ok_err y

  pub skip_over : PassesOver lends (step lends None b) (Ok false) c → Skips lends down n b (Ok n) c
  skip_over h = go (step lends None b) refl h
    where
      go : (m : Out) → step lends None b ≡ m → PassesOver lends m (Ok false) c → Skips lends down n b (Ok n) c
      go (gives (Some e) d x) q (y, z) = absurd (cc)
      go (gives None d x) q (y, z) = over q refl z
      go (stops f d x) q (y, z) = ok_err y

  pub skip_stuck : (f : Refusal) (r : Result ℕ Refusal) → PassesOver lends (step lends None b) (Err f) c → IsErrAnd r (λ g. g ≡ f) → Skips lends down n b r c
  skip_stuck f r h e = go (step lends None b) refl h
    where
      go : (m : Out) → step lends None b ≡ m → PassesOver lends m (Err f) c → Skips lends down n b r c
      go (gives (Some x) d y) q (p, z) = ok_err (sym p)
      go (gives None d y) q (p, z) = ok_err (sym p)
      go (stops g d y) q (p, z) = let same : f ≡ g = cc in stuck q (err_is r f e ∙ ap Err same) z

  pub skip_last : PassesOver lends (step lends None b) (Ok true) c → nesting c.opens ≤ down → (m : ℕ) → m ≡ counted n → Skips lends down n b (Ok m) c
  skip_last h le m is = let p = has_passed h in last p.gave le (ap Ok is) refl

  pub skip_onward : PassesOver lends (step lends None b) (Ok true) c → down < nesting c.opens → (m : ℕ) → m ≡ counted n → (r : Result ℕ Refusal) (t : Body) → Skips lends down m c r t → Skips lends down n b r t
  skip_onward h lt m is r t k = let p = has_passed h in onward p.gave lt is k

  pub skip_falls : PassesOver lends (step lends None b) (Ok true) c → left c < left b
  skip_falls h = let p = has_passed h in step_falls lends None b p.event c p.front p.gave
