-- Bytes and the numbers that they stand for: what is read of bytes is encoded by just these bytes.
use Rattle.std.proofs.Common.{◌≡◌, ℕ, suc, ◌+◌, ◌-◌, ◌*◌, ◌/◌, ◌%◌, ◌^◌, ◌<◌, Bool, true, false, cond, ltb, List, [], ◌∷◌, length, ℤ, pos, negsuc, pow-suc, sym, refl, ap, ◌∙◌, subst, arith}
use Rattle.std.proofs.lemmas.Bool.{ltb-true, ltb-false}
use Rattle.source.specs.Bytes.{Octets}
use Rattle.source.specs.Sound.{octets_rest}
use Rattle.format.specs.Integers.{bytes_of, half_of, little_endian, twos_complement}
use Rattle.format.specs.declared.width.Width.{Width}
use Rattle.values.specs.Values.{Bytes, digits, bits_of, Fits}
use Rattle.runs.proofs.Counts.{whole_of}

-- the two forms in which it is said that numbers are bytes
pub octets_are_bytes : (xs : List ℕ) → Octets xs → Bytes xs
octets_are_bytes [] h = tt
octets_are_bytes (x ∷ xs) h = (h 0, octets_are_bytes xs (octets_rest x xs h))

-- bytes are the digits of their number
pub digits_of_bytes : (xs : List ℕ) → Octets xs → digits (length xs) (little_endian xs) ≡ xs
digits_of_bytes [] h = refl
digits_of_bytes (x ∷ xs) h =
    let small : x < 256 = h 0 in
    let low : (x + 256 * little_endian xs) % 256 ≡ x = omega arith in
    let high : (x + 256 * little_endian xs) / 256 ≡ little_endian xs = omega arith in
    rw (low, high, digits_of_bytes xs (octets_rest x xs h)) refl

pub bytes_below : (xs : List ℕ) → Octets xs → little_endian xs < 256 ^ length xs
bytes_below [] h = omega arith
bytes_below (x ∷ xs) h =
    let small : x < 256 = h 0 in
    let rest = bytes_below xs (octets_rest x xs h) in
    rw (pow-suc 256 (length xs)) (omega arith)

-- the bits of a number by two's complement are those that it was read from, and it fits
record Complement (w : Width) (n : ℕ) (z : ℤ) : Type 0 where
  bits : bits_of w z ≡ n
  fits : Fits w z

complement : (w : Width) (n : ℕ) → n < 2 * half_of w → Complement w n (twos_complement w n)
complement w n h = go (ltb n (half_of w)) refl
  where
    go : (b : Bool) → ltb n (half_of w) ≡ b → Complement w n (cond b (pos n) (negsuc (2 * half_of w - suc n)))
    go true e = record { bits = refl; fits = ltb-true n (half_of w) e }
    go false e = let k = ltb-false n (half_of w) e in record { bits = omega arith; fits = omega arith }

-- so many bytes as a width takes
module _ (w : Width) (xs : List ℕ) (long : length xs ≡ bytes_of w) (octets : Octets xs) where
  read_complement : Complement w (little_endian xs) (twos_complement w (little_endian xs))
  read_complement = complement w (little_endian xs) (subst (λ k. little_endian xs < k) (ap (λ k. 256 ^ k) long ∙ whole_of w) (bytes_below xs octets))

  pub int_digits : digits (bytes_of w) (bits_of w (twos_complement w (little_endian xs))) ≡ xs
  int_digits = ap (digits (bytes_of w)) read_complement.bits ∙ ap (λ k. digits k (little_endian xs)) (sym long) ∙ digits_of_bytes xs octets

  pub int_fits : Fits w (twos_complement w (little_endian xs))
  int_fits = read_complement.fits
