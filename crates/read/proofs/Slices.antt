-- What a reader that stays as it was has lost.
use Rattle.std.proofs.Common.{◌≡◌, ℕ, Bool, true, false, List, [], ◌∷◌, refl}
use Rattle.read.specs.Reader.{View, thinned, Spent}

none_lost : (p : Bool) (xs : List ℕ) → xs ≡ thinned 0 p xs
none_lost false xs = refl
none_lost true [] = refl
none_lost true (x ∷ xs) = refl

-- a reader that stays as it was has lost nothing
pub nothing_lost : (v : View) → Spent v v
nothing_lost v = record { lost = 0; coming = none_lost v.peeked v.coming; ending = refl; count = refl; stop = refl; peeked = refl; kept = refl }
