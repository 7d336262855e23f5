-- That the meanings of the readers are sound: proofs that the readers hand to their trait.
use Rattle.std.specs.Prelude.{◌≡◌, ℕ, ◌+◌, ◌≤◌, Bool, true, false, List, [], ◌++◌, length, is_some, Some, None, Option, option_to_list, refl}
use Rattle.std.proofs.Common.{arith}
use Rattle.source.specs.Bytes.{Octets}
use Rattle.source.specs.Feed.{Feed}
use Rattle.source.specs.Feed as feed
use Rattle.source.specs.Sound.{octets_none, octets_append}
use Rattle.read.specs.Reader.{View, Sound, fenced}

-- a source, with a byte held back or none, and a stop at 2 ^ 60 + 16
abbrev pub io_view : Feed → Option ℕ → ℕ → View
io_view f o n = record { coming = option_to_list o ++ f.bytes; ending = f.ending; count = n; stop = Some 1152921504606846992; peeked = is_some o; kept = [] }

held_first : (o : Option ℕ) (xs : List ℕ) → is_some o ≡ true → 1 ≤ length (option_to_list o ++ xs)
held_first (Some b) xs e = omega arith
held_first None xs e = absurd (cc)

pub io_sound : (f : Feed) (o : Option ℕ) (n : ℕ) → feed.Sound f → Octets (option_to_list o) → n + length (option_to_list o) ≤ 1152921504606846992 → Sound false (io_view f o n)
io_sound f o n sound octet before = record {
  octets = octets_append (option_to_list o) f.bytes octet sound.octets;
  kept_octets = octets_none;
  kept_all = refl;
  held_there = held_first o f.bytes;
  coded = sound.coded;
  counted = omega arith;
}

pub fence_sound : (lends : Bool) (n : ℕ) (v : View) → Sound lends v → Sound lends (fenced n v)
fence_sound lends n v h = record { octets = h.octets; kept_octets = h.kept_octets; kept_all = h.kept_all; held_there = h.held_there; coded = h.coded; counted = h.counted }
