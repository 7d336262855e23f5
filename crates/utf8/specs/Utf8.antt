-- Well-formed UTF-8, as Table 3-7 of the Unicode Standard has it.
use Rattle.std.specs.Prelude.{ℕ, zero, suc, Bool, true, false, if◌then◌else◌, ◌&&◌, List, [], ◌∷◌, nat_le, Option, Some, None}

abbrev pub within : ℕ → ℕ → ℕ → Bool
within lo hi b = nat_le lo b && nat_le b hi

-- what may follow: any character, or a byte from lo to hi and then so many from 80 to bf, or nothing
pub data Await : Type 0 where
  character broken : Await
  range : ℕ → ℕ → ℕ → Await

-- the rows of the table, by the first byte
abbrev pub first : ℕ → Await
first b =
    if within 0x00 0x7f b then character
    else if within 0xc2 0xdf b then range 0x80 0xbf 0
    else if within 0xe0 0xe0 b then range 0xa0 0xbf 1
    else if within 0xe1 0xec b then range 0x80 0xbf 1
    else if within 0xed 0xed b then range 0x80 0x9f 1
    else if within 0xee 0xef b then range 0x80 0xbf 1
    else if within 0xf0 0xf0 b then range 0x90 0xbf 2
    else if within 0xf1 0xf3 b then range 0x80 0xbf 2
    else if within 0xf4 0xf4 b then range 0x80 0x8f 2
    else broken

abbrev pub further : ℕ → Await
further zero = character
further (suc k) = range 0x80 0xbf k

abbrev pub utf8_after : Await → List ℕ → Bool
utf8_after character [] = true
utf8_after character (b ∷ bs) = utf8_after (first b) bs
utf8_after (range lo hi k) [] = false
utf8_after (range lo hi k) (b ∷ bs) = within lo hi b && utf8_after (further k) bs
utf8_after broken [] = false
utf8_after broken (b ∷ bs) = false

unfoldable pub utf8 : List ℕ → Bool
utf8 bs = utf8_after character bs

-- how many bytes a character has that begins with this one, none where no character does
abbrev pub size : Await → Option ℕ
size broken = None
size character = Some 1
size (range lo hi k) = Some (suc (suc k))

abbrev pub announced : ℕ → Option ℕ
announced b = size (first b)

-- whether the character that has begun goes on with this byte
abbrev pub allows : Await → ℕ → Bool
allows broken b = false
allows character b = false
allows (range lo hi k) b = within lo hi b
