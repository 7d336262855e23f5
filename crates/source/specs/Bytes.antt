-- What a list of bytes is: numbers below 256.
use Rattle.std.specs.Prelude.{ℕ, ◌<◌, List, slice_index}

abbrev pub Octets : List ℕ → Type 0
Octets xs = (i : ℕ) → slice_index xs i < 256
