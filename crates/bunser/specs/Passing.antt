-- A text that is passed over: a reader that copies draws it in pieces of 64 bytes.
use Rattle.std.specs.Prelude.{ℕ, ◌*◌, ◌/◌, Bool, true, false, List, length, take, None, Ok, Err, Option, Result}
use Rattle.utf8.specs.Utf8.{utf8}
use Rattle.read.specs.declared.Taken.{Taken}
use Rattle.read.specs.Reader.{View, advanced}
use Rattle.format.specs.declared.refusal.ReadError.{ReadError}
use Rattle.format.specs.declared.refusal.ReadError.TheVariants.{End, Stop, Room, Short, Source, Magic, Byte, Negative, TooLong, NotText}
use Rattle.bunser.specs.Outcome.{Outcome, got, bad, asked}
use Rattle.bunser.specs.Reads.{bytes_read, fronts}
use Rattle.bunser.specs.declared.text.Unread.{Unread}
use Rattle.bunser.specs.Texts.{checked, text_read, text_fronts}

-- the whole pieces that come are taken
abbrev pub whole_pieces : Bool → View → View
whole_pieces true v = v
whole_pieces false v = advanced false (64 * (length v.coming / 64)) v

-- what has been drawn where the read of a text was refused
abbrev pub drawn_over : Bool → ReadError → View → View
drawn_over lends Short v = whole_pieces lends v
drawn_over lends (Source code) v = whole_pieces lends v
drawn_over lends End v = v
drawn_over lends Stop v = v
drawn_over lends Room v = v
drawn_over lends (Magic bytes) v = v
drawn_over lends (Byte kind b) v = v
drawn_over lends Negative v = v
drawn_over lends TooLong v = v
drawn_over lends NotText v = v

-- the verdict on a text that has come
abbrev pub verdict_of : Bool → Bool → Result Unit ReadError
verdict_of true true = Ok tt
verdict_of true false = Err NotText
verdict_of false b = Ok tt

-- as a read into a buffer that is long enough, of which nothing is kept
abbrev pub passing : Bool → Outcome ReadError Taken → Outcome ReadError Unit
passing lends (got t v) = got tt v
passing lends (bad e v) = bad e (drawn_over lends e v)

-- a text, which has to be UTF-8 where it is checked
abbrev pub whole_read : Bool → Bool → Option ℕ → Option ℕ → ℕ → View → Outcome ReadError Taken
whole_read true lends end space n v = text_read lends end space n v
whole_read false lends end space n v = bytes_read lends end space n v

-- what such a read puts to the front of a copying reader's buffer
abbrev pub whole_fronts : Bool → Option ℕ → Option ℕ → ℕ → View → List ℕ
whole_fronts true end space n v = text_fronts (asked end v space n) (utf8 (take n v.coming)) n v
whole_fronts false end space n v = fronts (asked end v space n) n v

unfoldable pub pass_read : Bool → Bool → Option ℕ → ℕ → View → Outcome ReadError Unit
pass_read checked lends end n v = passing lends (whole_read checked lends end None n v)

abbrev pub text_passed : Bool → Option ℕ → Unread → View → Outcome ReadError Unit
text_passed lends end t v = pass_read (checked t.kind) lends end t.len v
