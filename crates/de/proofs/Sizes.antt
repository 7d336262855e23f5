-- The table of sizes, computed once at each of the 256 bytes.
use Rattle.std.proofs.Common.{◌≡◌, ℕ, ◌<◌, List, [], ◌∷◌, ◌++◌, get_or, map, replicate, sym, refl, ap, ◌∙◌, zero-add}
use Rattle.std.specs.List.{range_with_len}
use Rattle.std.proofs.lemmas.List.FromFn.{get_or-map-range_with_len}
use Rattle.format.specs.Tags.{tag_of}
use Rattle.de.specs.AtHand.{fixed_size}

abbrev pub sizes : List ℕ
sizes = (0 ∷ 0 ∷ 0 ∷ 2 ∷ 3 ∷ 5 ∷ 9 ∷ 9 ∷ 1 ∷ 1 ∷ 1 ∷ 0 ∷ 1 ∷ []) ++ replicate 243 0

computed : map (λ byte. fixed_size (tag_of byte)) (range_with_len 0 256) ≡ sizes
computed = refl

pub size_at : (byte : ℕ) → byte < 256 → get_or sizes byte 0 ≡ fixed_size (tag_of byte)
size_at byte h =
    sym (ap (λ table. get_or table byte 0) computed) ∙ get_or-map-range_with_len (λ b. fixed_size (tag_of b)) 0 256 byte byte 0 h (zero-add byte)
