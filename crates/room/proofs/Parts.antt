-- Parts of lists.
use Rattle.std.proofs.Common.{◌≡◌, ℕ, zero, suc, ◌+◌, ◌≤◌, List, [], ◌∷◌, take, drop, refl, ap, arith}

-- a part of the front is a part of the whole
pub front_part : {X : Type 0} (h n j : ℕ) (xs : List X) → h + n ≤ j → take n (drop h (take j xs)) ≡ take n (drop h xs)
front_part zero zero j xs le = refl
front_part zero (suc n) zero xs le = absurd (omega arith)
front_part zero (suc n) (suc j) [] le = refl
front_part zero (suc n) (suc j) (x ∷ xs) le = ap (λ l. x ∷ l) (front_part zero n j xs (omega arith))
front_part (suc h) n zero xs le = absurd (omega arith)
front_part (suc h) n (suc j) [] le = refl
front_part (suc h) n (suc j) (x ∷ xs) le = front_part h n j xs (omega arith)
