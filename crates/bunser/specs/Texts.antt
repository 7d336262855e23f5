-- Texts: bytes in one read that have to be UTF-8, and where the bytes lie afterwards.
use Rattle.std.specs.Prelude.{ℕ, Bool, true, false, cond, ◌||◌, List, take, replicate, Some, None, Option, ◌==◌}
use Rattle.utf8.specs.Utf8.{utf8}
use Rattle.read.specs.declared.Taken.{Taken}
use Rattle.read.specs.declared.Taken.TheVariants.{Lent, Copied}
use Rattle.read.specs.Reader.{View, discarded, part_of, lent_part}
use Rattle.format.specs.declared.refusal.ReadError.{ReadError}
use Rattle.format.specs.declared.refusal.ReadError.TheVariants.{Byte, NotText}
use Rattle.format.specs.declared.refusal.Kind.{Kind}
use Rattle.format.specs.declared.refusal.Refusal.{Refusal}
use Rattle.bunser.specs.declared.text.TextKind.{TextKind}
use Rattle.bunser.specs.declared.text.TextKind.TheVariants as kind
use Rattle.bunser.specs.declared.text.Span.{Span}
use Rattle.bunser.specs.declared.text.Reference.{Reference}
use Rattle.bunser.specs.declared.text.Reference.TheVariants as reference
use Rattle.bunser.specs.Outcome.{Outcome, got, bad, and_then, at, placed}
use Rattle.bunser.specs.Reads.{peek_read, bytes_read, fronts, count_read}

-- ---- what has to be UTF-8

abbrev pub checked : TextKind → Bool
checked kind.Bytes = false
checked kind.Text = true
checked kind.Key = true

abbrev pub textual : Bool → Taken → View → Outcome ReadError Taken
textual true t w = got t w
textual false t w = bad NotText w

-- a text of n bytes is taken, and then has to be UTF-8
unfoldable pub text_read : Bool → Option ℕ → Option ℕ → ℕ → View → Outcome ReadError Taken
text_read lends end space n v = and_then (bytes_read lends end space n v) (textual (utf8 (take n v.coming)))

-- what such a read puts to the front of a copying reader's buffer: what the read of its bytes puts
-- there, or zeros where the bytes are not UTF-8
abbrev pub text_fronts : Option ReadError → Bool → ℕ → View → List ℕ
text_fronts (Some e) b n v = fronts (Some e) n v
text_fronts None true n v = fronts None n v
text_fronts None false n v = replicate n 0

-- ---- keys

-- a key begins as a byte string or as a UTF-8 string does
abbrev pub begins_key : ℕ → Bool
begins_key t = t == 0x02 || t == 0x0d

-- a count, placed at its tag
abbrev pub placed_count : Bool → Option ℕ → View → Outcome Refusal ℕ
placed_count lends end v = placed v.count (count_read lends end v)

abbrev pub behind_key_tag : Bool → Option ℕ → Kind → ℕ → View → Outcome Refusal ℕ
behind_key_tag lends end kind t v = cond (begins_key t) (placed_count lends end (discarded lends v)) (bad (at (Byte kind t) v.count) v)

-- the length of a key's text: the tag is taken once it is known to begin a key
unfoldable pub key_length_read : Bool → Option ℕ → Kind → View → Outcome Refusal ℕ
key_length_read lends end kind v = and_then (placed v.count (peek_read end v)) (behind_key_tag lends end kind)

-- ---- where the bytes lie

-- as a part of the input or of the text buffer
abbrev spanned_at : Taken → ℕ → List ℕ → List ℕ → Option (List ℕ)
spanned_at (Lent p) n input buf = part_of input p n
spanned_at Copied n input buf = part_of buf 0 n

abbrev pub spanned : Span → List ℕ → List ℕ → Option (List ℕ)
spanned s input buf = spanned_at s.taken s.len input buf

-- as a part of what the reader keeps or of the text buffer
abbrev pub referred_at : Bool → View → Taken → ℕ → List ℕ → Option (List ℕ)
referred_at lends v (Lent p) n buf = lent_part lends v p n
referred_at lends v Copied n buf = part_of buf 0 n

abbrev pub referred : Bool → View → Span → List ℕ → Option (List ℕ)
referred lends v s buf = referred_at lends v s.taken s.len buf

abbrev pub is_lent : Taken → Bool
is_lent (Lent p) = true
is_lent Copied = false

abbrev pub bytes_of : Reference → List ℕ
bytes_of (reference.Borrowed s) = s.now
bytes_of (reference.Copied s) = s.now

abbrev pub is_borrowed : Reference → Bool
is_borrowed (reference.Borrowed s) = true
is_borrowed (reference.Copied s) = false

-- bytes that are there and UTF-8
abbrev pub is_text : Option (List ℕ) → Bool
is_text (Some xs) = utf8 xs
is_text None = false
