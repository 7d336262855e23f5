-- Integers: the tag of each width, and what the bytes behind it mean.
use Rattle.std.specs.Prelude.{ℕ, suc, ◌+◌, ◌-◌, ◌*◌, cond, List, [], ◌∷◌, ℤ, pos, negsuc, Some, None, Option, ◌==◌, nat_lt}
use Rattle.format.specs.declared.width.Width.{Width}
use Rattle.format.specs.declared.width.Width.TheVariants.{W8, W16, W32, W64}

abbrev pub width_of : ℕ → Option Width
width_of t = cond (t == 3) (Some W8) (cond (t == 4) (Some W16) (cond (t == 5) (Some W32) (cond (t == 6) (Some W64) None)))

abbrev pub bytes_of : Width → ℕ
bytes_of W8 = 1
bytes_of W16 = 2
bytes_of W32 = 4
bytes_of W64 = 8

-- half of the numbers that the bytes can hold: 2 ^ 7, 2 ^ 15, 2 ^ 31, 2 ^ 63
abbrev pub half_of : Width → ℕ
half_of W8 = 128
half_of W16 = 32768
half_of W32 = 2147483648
half_of W64 = 9223372036854775808

-- little-endian: the first byte is the lowest
abbrev pub little_endian : List ℕ → ℕ
little_endian [] = 0
little_endian (b ∷ bs) = b + 256 * little_endian bs

-- two's complement: from half on a number stands for itself less the whole
abbrev pub twos_complement : Width → ℕ → ℤ
twos_complement w n = cond (nat_lt n (half_of w)) (pos n) (negsuc (2 * half_of w - suc n))
