-- That the feeds of the sources are sound: proofs that the sources hand to their trait.
use Rattle.std.specs.Prelude.{ℕ, zero, suc, ◌+◌, ◌<◌, List, [], ◌∷◌, ◌++◌, take, drop, Some, None, Option}
use Rattle.std.proofs.Common.{arith, get_or-drop}
use Rattle.source.specs.Bytes.{Octets}
use Rattle.source.specs.declared.fault.SourceFault.{SourceFault}
use Rattle.source.specs.Feed.{Feed, Coded, Sound, behind, chained}

pub octets_none : Octets []
octets_none i = omega arith

pub octets_drop : (n : ℕ) (xs : List ℕ) → Octets xs → Octets (drop n xs)
octets_drop n xs h i = rw (get_or-drop n xs i 0) (h (n + i))

pub octets_take : (n : ℕ) (xs : List ℕ) → Octets xs → Octets (take n xs)
octets_take zero xs h i = omega arith
octets_take (suc n) [] h i = omega arith
octets_take (suc n) (x ∷ xs) h zero = h 0
octets_take (suc n) (x ∷ xs) h (suc i) = octets_take n xs (λ j. h (suc j)) i

pub octets_first : (x : ℕ) (xs : List ℕ) → Octets (x ∷ xs) → x < 256
octets_first x xs h = h 0

pub octets_rest : (x : ℕ) (xs : List ℕ) → Octets (x ∷ xs) → Octets xs
octets_rest x xs h i = h (suc i)

pub octets_append : (xs ys : List ℕ) → Octets xs → Octets ys → Octets (xs ++ ys)
octets_append [] ys h k i = k i
octets_append (x ∷ xs) ys h k zero = h 0
octets_append (x ∷ xs) ys h k (suc i) = octets_append xs ys (octets_rest x xs h) k i

pub clean_coded : Coded None
clean_coded f e = cc

pub chain_sound : (f g : Feed) → Sound f → Sound g → Sound (chained f g)
chain_sound f g h k = record { octets = octets_append f.bytes _ h.octets (bytes f.ending); coded = coded f.ending h.coded }
  where
    bytes : (e : Option SourceFault) → Octets (behind e g).bytes
    bytes None = k.octets
    bytes (Some f) = octets_none

    coded : (e : Option SourceFault) → Coded e → Coded (behind e g).ending
    coded None h = k.coded
    coded (Some f) h = h
