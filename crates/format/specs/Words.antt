-- The words of a refusal, as they are printed.
use Rattle.std.specs.Prelude.{ℕ, ◌-◌, ◌^◌, false, List, [], ◌++◌, slice_index, codes, decimal}
use Rattle.std.specs.Fmt.{digits, format_spec, padded_integral}
use Rattle.std.specs.Int.NonZero.{non_zero_u16_get}
use Rattle.format.specs.declared.refusal.Kind.{Kind}
use Rattle.format.specs.declared.refusal.Kind.TheVariants.{Integer, NextItem, MapKey, KeyList, TemplateKey}
use Rattle.format.specs.declared.refusal.Layer.{Layer}
use Rattle.format.specs.declared.refusal.Layer.TheVariants as layer
use Rattle.format.specs.declared.refusal.ReadError.{ReadError}
use Rattle.format.specs.declared.refusal.ReadError.TheVariants.{End, Stop, Room, Short, Source, Magic, Byte, Negative, TooLong, NotText}
use Rattle.format.specs.declared.refusal.Cause.{Cause}
use Rattle.format.specs.declared.refusal.Cause.TheVariants.{OutOfTurn, Token, Read, Depth, KeyRoom, NoKeys, Unfinished, Length}
use Rattle.format.specs.declared.refusal.Refusal.{Refusal}
use Rattle.format.specs.Numbers.{number_of}

-- a byte as two digits, from 00 to ff
abbrev pub byte_words : ℕ → List ℕ
byte_words b = padded_integral (format_spec 32 0 4 2 (2 ^ 64 - 1)) false [] (digits 16 false b)

abbrev pub kind_words : Kind → List ℕ
kind_words Integer = codes "a whole number"
kind_words NextItem = codes "a value"
kind_words MapKey = codes "the name of a field"
kind_words KeyList = codes "the list of column names"
kind_words TemplateKey = codes "the name of a column"

abbrev pub layer_words : Layer → List ℕ
layer_words layer.Source = codes "source"
layer_words layer.Reader = codes "reader"
layer_words layer.Decoder = codes "decoder"

abbrev pub error_words : ReadError → List ℕ
error_words End = codes "the data run past the end that the table declares"
error_words Stop = codes "the data run past the largest place that can be read"
error_words Room = codes "the buffer for text is too short"
error_words Short = codes "the file ends too early"
error_words (Source fault) = codes "the data could not be fetched: the source reports fault " ++ decimal (non_zero_u16_get fault.0)
error_words (Magic bytes) =
    codes "this is not a table: it should begin with the bytes 00 02 and begins with "
    ++ (byte_words (slice_index bytes 0) ++ (codes " " ++ byte_words (slice_index bytes 1)))
error_words (Byte kind b) = codes "here " ++ (kind_words kind ++ (codes " should begin, and the byte " ++ (byte_words b ++ codes " cannot begin it")))
error_words Negative = codes "a count or a length is below zero"
error_words TooLong = codes "the table declares more data than any table may have"
error_words NotText = codes "a text is not written in UTF-8"

abbrev pub cause_words : Cause → List ℕ
cause_words OutOfTurn = codes "the call came out of turn: no table is open, or one is open already"
cause_words Token = codes "this table is not the one that is open"
cause_words (Read e) = error_words e
cause_words Depth = codes "the values are nested more than 128 deep"
cause_words KeyRoom = codes "there are more column names than the device has room for"
cause_words NoKeys = codes "a list of rows has no columns"
cause_words Unfinished = codes "the table was closed before all of it was read"
cause_words (Length expected count) = codes "the table should end at byte " ++ (decimal expected ++ (codes " and ends at byte " ++ decimal count))

abbrev pub refusal_words : Refusal → List ℕ
refusal_words f = codes "refusal " ++ (decimal (number_of f.cause) ++ (codes " at byte " ++ (decimal f.place ++ (codes ": " ++ cause_words f.cause))))
