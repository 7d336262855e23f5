-- Plain cells by their bytes alone.
use Rattle.std.specs.Prelude.{◌≡◌, ℕ, ◌+◌, ◌≤◌, cond, List, [], ◌∷◌, length, drop, Some, None, Ok, Err, Option, Result, ◌==◌, nat_lt, slice_index}
use Rattle.utf8.specs.Utf8.{utf8}
use Rattle.read.specs.Reader.{part_of}
use Rattle.format.specs.Integers.{bytes_of}
use Rattle.format.specs.Tags.{tag_of}
use Rattle.format.specs.declared.tags.Tag.{Tag}
use Rattle.format.specs.declared.tags.Tag.TheVariants as tag
use Rattle.format.specs.declared.tags.NoTag.{NoTag}

-- the length of the text whose tag is the first of these, where it is written in one byte
abbrev pub short_len : List ℕ → Option ℕ
short_len xs = cond (nat_lt 2 (length xs)) (cond (slice_index xs 1 == 0x03) (cond (nat_lt (slice_index xs 2) 128) (Some (slice_index xs 2)) None) None) None

-- how many bytes such a text has, which may be anything
abbrev pub size_behind : Option ℕ → Option ℕ
size_behind (Some n) = Some (3 + n)
size_behind None = None

-- or which has to be UTF-8
abbrev pub size_of_utf8 : ℕ → Option (List ℕ) → Option ℕ
size_of_utf8 n (Some text) = cond (utf8 text) (Some (3 + n)) None
size_of_utf8 n None = None

abbrev pub size_if_utf8 : Option ℕ → List ℕ → Option ℕ
size_if_utf8 (Some n) xs = size_of_utf8 n (part_of xs 3 n)
size_if_utf8 None xs = None

abbrev pub utf8_size : List ℕ → Option ℕ
utf8_size xs = size_if_utf8 (short_len xs) xs

-- how many bytes a cell has whose tag alone says so, and else 0
abbrev pub fixed_size : Result Tag NoTag → ℕ
fixed_size (Ok (tag.Int w)) = 1 + bytes_of w
fixed_size (Ok tag.Real) = 9
fixed_size (Ok tag.True) = 1
fixed_size (Ok tag.False) = 1
fixed_size (Ok tag.Null) = 1
fixed_size (Ok tag.Skip) = 1
fixed_size (Ok tag.ByteString) = 0
fixed_size (Ok tag.Utf8String) = 0
fixed_size (Ok tag.Array) = 0
fixed_size (Ok tag.Object) = 0
fixed_size (Ok tag.Template) = 0
fixed_size (Err e) = 0

-- how many bytes the text has that begins here
abbrev pub text_size : Result Tag NoTag → List ℕ → Option ℕ
text_size (Ok tag.ByteString) xs = size_behind (short_len xs)
text_size (Ok tag.Utf8String) xs = utf8_size xs
text_size (Ok (tag.Int w)) xs = None
text_size (Ok tag.Real) xs = None
text_size (Ok tag.True) xs = None
text_size (Ok tag.False) xs = None
text_size (Ok tag.Null) xs = None
text_size (Ok tag.Skip) xs = None
text_size (Ok tag.Array) xs = None
text_size (Ok tag.Object) xs = None
text_size (Ok tag.Template) xs = None
text_size (Err e) xs = None

abbrev pub size_by : Result Tag NoTag → List ℕ → Option ℕ
size_by r xs = cond (fixed_size r == 0) (text_size r xs) (Some (fixed_size r))

-- how many bytes the cell has that begins here, where it is a plain one
abbrev pub plain_size : List ℕ → Option ℕ
plain_size [] = None
plain_size (t ∷ xs) = size_by (tag_of t) (t ∷ xs)

-- so many plain cells begin here, which have so many bytes
pub data PlainCells (xs : List ℕ) : ℕ → ℕ → Type 0 where
  none : PlainCells xs 0 0
  more : {k s c : ℕ} → PlainCells xs k s → plain_size (drop s xs) ≡ Some c → s + c ≤ length xs → PlainCells xs (k + 1) (s + c)
