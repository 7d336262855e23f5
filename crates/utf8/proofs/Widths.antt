-- The table of widths, computed once at each of the 256 bytes.
use Rattle.std.proofs.Common.{◌≡◌, ℕ, suc, ◌<◌, List, ◌++◌, get_or, map, replicate, Some, None, sym, refl, ap, ◌∙◌, zero-add, arith}
use Rattle.std.specs.List.{range_with_len}
use Rattle.std.proofs.lemmas.List.FromFn.{get_or-map-range_with_len}
use Rattle.utf8.specs.Utf8.{Await, character, broken, range, first, size, announced}

-- as an entry has it: 0 for none
abbrev width : Await → ℕ
width broken = 0
width character = 1
width (range lo hi k) = suc (suc k)

-- the table, run by run
abbrev pub widths : List ℕ
widths = replicate 128 1 ++ (replicate 66 0 ++ (replicate 30 2 ++ (replicate 16 3 ++ (replicate 5 4 ++ replicate 11 0))))

computed : map (λ byte. width (first byte)) (range_with_len 0 256) ≡ widths
computed = refl

entry : (byte : ℕ) → byte < 256 → get_or widths byte 0 ≡ width (first byte)
entry byte h =
    sym (ap (λ table. get_or table byte 0) computed) ∙ get_or-map-range_with_len (λ b. width (first b)) 0 256 byte byte 0 h (zero-add byte)

none_at : (w : Await) → width w ≡ 0 → None ≡ size w
none_at broken e = refl
none_at character e = absurd (omega arith)
none_at (range lo hi k) e = absurd (omega arith)

some_at : (w : Await) (n : ℕ) → n ≡ width w → 0 < n → Some n ≡ size w
some_at broken n e h = absurd (omega arith)
some_at character n e h = ap (λ k. Some k) e
some_at (range lo hi k) n e h = ap (λ m. Some m) e

pub no_width : (byte : ℕ) → byte < 256 → get_or widths byte 0 ≡ 0 → None ≡ announced byte
no_width byte h e = none_at (first byte) (sym (entry byte h) ∙ e)

pub a_width : (byte n : ℕ) → byte < 256 → n ≡ get_or widths byte 0 → 0 < n → Some n ≡ announced byte
a_width byte n h e some = some_at (first byte) n (e ∙ entry byte h) some
