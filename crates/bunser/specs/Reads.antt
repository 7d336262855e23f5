-- What each read gives and leaves of the reader's meaning, or how it refuses.
use Rattle.std.specs.Prelude.{ℕ, ◌+◌, Bool, cond, ◌&&◌, List, [], length, take, replicate, ℤ, pos, negsuc, Some, None, Ok, Err, Option, Result, ◌==◌, slice_index}
use Rattle.read.specs.declared.Taken.{Taken}
use Rattle.read.specs.declared.Taken.TheVariants.{Lent, Copied}
use Rattle.read.specs.Reader.{View, past, held, advanced, discarded, lies, lent_part}
use Rattle.format.specs.Integers.{width_of, bytes_of, little_endian, twos_complement}
use Rattle.format.specs.declared.width.Width.{Width}
use Rattle.format.specs.declared.refusal.ReadError.{ReadError}
use Rattle.format.specs.declared.refusal.ReadError.TheVariants.{End, Stop, Room, Short, Source, Magic, Byte, Negative, TooLong, NotText}
use Rattle.format.specs.declared.refusal.Kind.TheVariants.{Integer}
use Rattle.format.specs.declared.refusal.Refusal.{Refusal}
use Rattle.bunser.specs.declared.Header.{Header}
use Rattle.bunser.specs.Outcome.{Outcome, got, bad, and_then, at, placed, asked, answer}

-- ---- bytes

-- the next byte is shown
abbrev pub peek_read : Option ℕ → View → Outcome ReadError ℕ
peek_read end v = answer (asked end v None 1) v (slice_index v.coming 0) (held v)

-- n bytes are taken, and lie where the kind of reader puts them
abbrev pub bytes_read : Bool → Option ℕ → Option ℕ → ℕ → View → Outcome ReadError Taken
bytes_read lends end space n v = answer (asked end v space n) v (lies lends v) (advanced lends n v)

-- what such a read puts to the front of a copying reader's buffer
abbrev pub fronts : Option ReadError → ℕ → View → List ℕ
fronts None n v = take n v.coming
fronts (Some Short) n v = replicate n 0
fronts (Some (Source code)) n v = replicate n 0
fronts (Some End) n v = []
fronts (Some Stop) n v = []
fronts (Some Room) n v = []
fronts (Some (Magic bytes)) n v = []
fronts (Some (Byte kind b)) n v = []
fronts (Some Negative) n v = []
fronts (Some TooLong) n v = []
fronts (Some NotText) n v = []

-- n bytes are taken and given
abbrev pub array_read : Bool → Option ℕ → ℕ → View → Outcome ReadError (List ℕ)
array_read lends end n v = answer (asked end v None n) v (take n v.coming) (advanced lends n v)

-- the bytes that were lent, or those that stand there
abbrev pub kept_or : Option (List ℕ) → List ℕ → List ℕ
kept_or (Some xs) ys = xs
kept_or None ys = ys

abbrev pub lent_or : Bool → View → Taken → List ℕ → List ℕ
lent_or lends v (Lent p) ys = kept_or (lent_part lends v p (length ys)) ys
lent_or lends v Copied ys = ys

-- ---- integers

-- the bytes behind an integer's tag, in one read
abbrev pub int_read : Bool → Option ℕ → Width → View → Outcome ReadError ℤ
int_read lends end w v = answer (asked end v None (bytes_of w)) v (twos_complement w (little_endian (take (bytes_of w) v.coming))) (advanced lends (bytes_of w) v)

-- the eight bytes behind a real's tag, as one number
abbrev pub real_read : Bool → Option ℕ → View → Outcome ReadError ℕ
real_read lends end v = answer (asked end v None 8) v (little_endian (take 8 v.coming)) (advanced lends 8 v)

-- the width of the integer that a tag begins
abbrev pub int_width_by : Option Width → ℕ → Result Width ReadError
int_width_by (Some w) t = Ok w
int_width_by None t = Err (Byte Integer t)

abbrev pub int_width : ℕ → Result Width ReadError
int_width t = int_width_by (width_of t) t

-- the tag is taken once it is known to begin an integer
abbrev pub behind_tag : Bool → Option ℕ → Result Width ReadError → View → Outcome ReadError ℤ
behind_tag lends end (Ok w) v = int_read lends end w (discarded lends v)
behind_tag lends end (Err e) v = bad e v

unfoldable pub tagged_int_read : Bool → Option ℕ → View → Outcome ReadError ℤ
tagged_int_read lends end v = and_then (peek_read end v) (λ t w. behind_tag lends end (int_width t) w)

-- a count or a length is not negative
abbrev pub count_of : ℤ → Result ℕ ReadError
count_of (pos n) = Ok n
count_of (negsuc n) = Err Negative

abbrev pub told_as : {A : Type 0} → Result A ReadError → View → Outcome ReadError A
told_as (Ok a) v = got a v
told_as (Err e) v = bad e v

unfoldable pub count_read : Bool → Option ℕ → View → Outcome ReadError ℕ
count_read lends end v = and_then (tagged_int_read lends end v) (λ z w. told_as (count_of z) w)

-- ---- the header

abbrev pub magical : List ℕ → Bool
magical bs = slice_index bs 0 == 0 && slice_index bs 1 == 2

-- the magic is 00 02, and is taken either way
abbrev pub is_magic : ℕ → List ℕ → View → Outcome Refusal Unit
is_magic p bs v = cond (magical bs) (got tt v) (bad (at (Magic bs) p) v)

unfoldable pub magic_read : Bool → Option ℕ → View → Outcome Refusal Unit
magic_read lends end v = and_then (placed v.count (array_read lends end 2 v)) (is_magic v.count)

-- four bytes of flags, as one number
abbrev pub flags_read : Bool → Option ℕ → View → Outcome ReadError ℕ
flags_read lends end v = answer (asked end v None 4) v (little_endian (take 4 v.coming)) (advanced lends 4 v)

unfoldable pub capabilities_read : Bool → Option ℕ → View → Outcome Refusal ℕ
capabilities_read lends end v = placed v.count (flags_read lends end v)

-- the body begins here, and ends by 2 ^ 60
abbrev pub bounded : ℕ → ℕ → ℕ → View → Outcome Refusal Header
bounded p caps n v = cond (past (Some 1152921504606846976) (v.count + n)) (bad (at TooLong p) v) (got (record { capabilities = caps; start = v.count; length = n }) v)

unfoldable pub length_read : Bool → Option ℕ → ℕ → View → Outcome Refusal Header
length_read lends end caps v = and_then (placed v.count (count_read lends end v)) (bounded v.count caps)

-- a header stands before its body, where no end is declared yet
unfoldable pub header_read : Bool → View → Outcome Refusal Header
header_read lends v = and_then (magic_read lends None v) (λ _ w. and_then (capabilities_read lends None w) (length_read lends None))

-- the end that then holds for the reads of the body
abbrev pub end_of : Result Header Refusal → Option ℕ
end_of (Ok h) = Some (h.start + h.length)
end_of (Err f) = None
