-- How an integer is told from its bytes.
use Rattle.std.proofs.Common.{◌≡◌, ℕ, Bool, List, length, take, IsErrAnd, None, Ok, Err, Option, Result, ap, ◌∙◌, arith, length-take}
use Rattle.read.specs.Reader.{View, advanced}
use Rattle.format.specs.declared.refusal.ReadError.{ReadError}
use Rattle.bunser.specs.Outcome.{asked, answer, Tells}
use Rattle.bunser.specs.Reads.{array_read}
use Rattle.bunser.proofs.Asking.{granted, given, give, answer_stop}

-- what is read of n bytes, where `number` says what the bytes are
module _ {A : Type 0} (lends : Bool) (end : Option ℕ) (n : ℕ) (v u : View) (number : List ℕ → A) where
  pub number_told : (read : List ℕ → A) → ((bs : List ℕ) → length bs ≡ n → read bs ≡ number bs) → (bytes : List ℕ) (a : A) →
      Tells (array_read lends end n v) (Ok bytes) u → a ≡ read bytes → Tells (answer (asked end v None n) v (number (take n v.coming)) (advanced lends n v)) (Ok a) u
  number_told read same bytes a h is =
      let g = given (asked end v None n) v (take n v.coming) (advanced lends n v) bytes u h in
      let there = granted end v None n g.granted_it in
      let long : length bytes ≡ n = ap length g.value ∙ rw length-take (omega arith) in
      give (asked end v None n) v (number (take n v.coming)) (advanced lends n v) a u (record { granted_it = g.granted_it; value = is ∙ same bytes long ∙ ap number g.value; left = g.left })

  pub number_stop : (e : ReadError) (r : Result A ReadError) → Tells (array_read lends end n v) (Err e) u → IsErrAnd r (λ f. f ≡ e) →
      Tells (answer (asked end v None n) v (number (take n v.coming)) (advanced lends n v)) r u
  number_stop e r h k = answer_stop (asked end v None n) v (take n v.coming) (number (take n v.coming)) (advanced lends n v) e u r h k
