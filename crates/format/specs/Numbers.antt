-- The number of each refusal, the layer that it comes from, and which of them latch.
use Rattle.std.specs.Prelude.{ℕ, Bool, true, false}
use Rattle.format.specs.declared.refusal.ReadError.{ReadError}
use Rattle.format.specs.declared.refusal.ReadError.TheVariants.{End, Stop, Room, Short, Source, Magic, Byte, Negative, TooLong, NotText}
use Rattle.format.specs.declared.refusal.Cause.{Cause}
use Rattle.format.specs.declared.refusal.Cause.TheVariants.{OutOfTurn, Token, Read, Depth, KeyRoom, NoKeys, Unfinished, Length}
use Rattle.format.specs.declared.refusal.Layer.{Layer}
use Rattle.format.specs.declared.refusal.Layer.TheVariants as layer

-- of each: its number, its layer, and whether it latches
abbrev pub read_traits : ReadError → ℕ × Layer × Bool
read_traits Short = (3, layer.Reader, true)
read_traits (Source code) = (4, layer.Source, true)
read_traits (Magic bytes) = (5, layer.Decoder, true)
read_traits (Byte kind b) = (6, layer.Decoder, true)
read_traits Negative = (7, layer.Decoder, true)
read_traits TooLong = (8, layer.Decoder, true)
read_traits End = (9, layer.Decoder, true)
read_traits Stop = (9, layer.Reader, true)
read_traits NotText = (13, layer.Decoder, true)
read_traits Room = (14, layer.Decoder, false)

abbrev pub traits : Cause → ℕ × Layer × Bool
traits OutOfTurn = (1, layer.Decoder, false)
traits Token = (2, layer.Decoder, false)
traits (Read e) = read_traits e
traits Depth = (10, layer.Decoder, true)
traits KeyRoom = (11, layer.Decoder, true)
traits NoKeys = (12, layer.Decoder, true)
traits Unfinished = (15, layer.Decoder, true)
traits (Length expected count) = (16, layer.Decoder, true)

abbrev pub read_number : ReadError → ℕ
read_number e = (read_traits e).0

abbrev pub number_of : Cause → ℕ
number_of c = (traits c).0

abbrev pub layer_of : Cause → Layer
layer_of c = (traits c).1

abbrev pub read_latching : ReadError → Bool
read_latching e = (read_traits e).2

abbrev pub latching : Cause → Bool
latching c = (traits c).2
