-- One character, byte by byte.
use Rattle.std.proofs.Common.{◌≡◌, ℕ, suc, ◌+◌, ◌-◌, ◌<◌, ◌≤◌, Bool, true, ◌&&◌, List, [], ◌∷◌, ◌++◌, length, get_or, take, drop, Some, sym, refl, ap, ◌∙◌, arith}
use Rattle.std.proofs.Math.Bool.{and_assoc}
use Rattle.std.proofs.lemmas.List.{take_rest}
use Rattle.std.specs.List.{list_all}
use Rattle.utf8.specs.Utf8.{Await, character, broken, range, within, further, utf8_after, utf8, size, allows}

-- as many bytes from 80 to bf as are wanted, and then the rest of the text
continued : (bs rest : List ℕ) → utf8_after (further (length bs)) (bs ++ rest) ≡ (list_all (within 0x80 0xbf) bs && utf8_after character rest)
continued [] rest = refl
continued (b ∷ bs) rest = ap (λ x. within 0x80 0xbf b && x) (continued bs rest) ∙ sym (and_assoc (within 0x80 0xbf b) (list_all (within 0x80 0xbf) bs) (utf8_after character rest))

-- a character of one byte
pub alone : (w : Await) (bs rest : List ℕ) → size w ≡ Some (length bs + 1) → length bs < 1 → utf8_after w (bs ++ rest) ≡ utf8 rest
unfolding utf8
alone w (b ∷ bs) rest e few = absurd (omega arith)
alone broken [] rest e few = cc
alone character [] rest e few = refl
alone (range lo hi k) [] rest e few = cc

-- a character of two bytes or more, of which the second may stand where it does
pub followed : (w : Await) (bs rest : List ℕ) (all : Bool) → size w ≡ Some (length bs + 1) → 1 ≤ length bs → allows w (get_or bs 0 0) ≡ true → all ≡ list_all (within 0x80 0xbf) (take (length bs - 1) (drop 1 bs)) → utf8_after w (bs ++ rest) ≡ (all && utf8 rest)
unfolding utf8
followed w [] rest all e many may are = absurd (omega arith)
followed broken (b ∷ bs) rest all e many may are = cc
followed character (b ∷ bs) rest all e many may are = let one : 1 ≡ length (b ∷ bs) + 1 = cc in absurd (omega arith)
followed (range lo hi k) (b ∷ bs) rest all e many may are =
    let width : suc (suc k) ≡ length (b ∷ bs) + 1 = cc in
    let wanted : k ≡ length bs = omega arith in
    ap (λ x. x && utf8_after (further k) (bs ++ rest)) may ∙ ap (λ n. utf8_after (further n) (bs ++ rest)) wanted ∙ continued bs rest
    ∙ ap (λ x. x && utf8_after character rest) (sym (are ∙ ap (list_all (within 0x80 0xbf)) (take_rest (b ∷ bs) 1)))
