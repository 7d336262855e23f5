-- The number that bytes are, the lowest first.
use Rattle.std.proofs.Common.{◌≡◌, ℕ, zero, suc, ◌+◌, ◌*◌, ◌^◌, List, [], ◌∷◌, length, get_or, sym, refl, ap, ◌∙◌, pow-suc, mul_assoc, mul_comm, arith}
use Rattle.std.specs.Int.{byte_worth, sum_through}
use Rattle.format.specs.Integers.{little_endian}

shifted : (f : ℕ → ℕ) (k : ℕ) → sum_through f (suc k) ≡ f 0 + sum_through (λ i. f (suc i)) k
shifted f zero = refl
shifted f (suc k) = let rest = shifted f k in omega arith

scaled : (f g : ℕ → ℕ) → ((i : ℕ) → f i ≡ 256 * g i) → (k : ℕ) → sum_through f k ≡ 256 * sum_through g k
scaled f g each zero = each 0
scaled f g each (suc k) = let rest = scaled f g each k in let last = each (suc k) in omega arith

-- one place up a byte is worth 256 times as much
worth_more : (i b : ℕ) → byte_worth (suc i) b ≡ 256 * byte_worth i b
worth_more zero b = mul_comm b 256
worth_more (suc i) b = ap (λ p. b * p) (pow-suc 256 (suc i)) ∙ sym (mul_assoc b (256 ^ suc i) 256) ∙ mul_comm (b * 256 ^ suc i) 256

-- as the standard library sums the worths of bytes
pub le_sum : (k : ℕ) (bs : List ℕ) → length bs ≡ suc k → sum_through (λ i. byte_worth i (get_or bs i 0)) k ≡ little_endian bs
le_sum k [] e = absurd (omega arith)
le_sum zero (b ∷ []) e = omega arith
le_sum zero (b ∷ c ∷ bs) e = absurd (omega arith)
le_sum (suc k) (b ∷ bs) e =
    shifted (λ i. byte_worth i (get_or (b ∷ bs) i 0)) k
    ∙ ap (λ n. b + n) (scaled (λ i. byte_worth (suc i) (get_or bs i 0)) (λ i. byte_worth i (get_or bs i 0)) (λ i. worth_more i (get_or bs i 0)) k)
    ∙ ap (λ n. b + 256 * n) (le_sum k bs (omega arith))
