use Rattle.std.proofs.Common.{◌≡◌, refl}
use Rattle.read.specs.Reader.{View}
use Rattle.format.specs.Numbers.{number_of}
use Rattle.format.specs.declared.refusal.ReadError.{ReadError}
use Rattle.format.specs.declared.refusal.ReadError.TheVariants.{End, Stop, Room, Short, Source, Magic, Byte, Negative, TooLong, NotText}
use Rattle.format.specs.declared.refusal.Cause.{Cause}
use Rattle.format.specs.declared.refusal.Cause.TheVariants.{OutOfTurn, Token, Read, Depth, KeyRoom, NoKeys, Unfinished, Length}
use Rattle.bunser.specs.Outcome.{ReadLeaves, CauseLeaves}
use Rattle.bunser.proofs.refusals_leave_the_reader.Goals as goal

of_read : (e : ReadError) (v w : View) → ReadLeaves e v w → (number_of (Read e) ≡ 3 → ⊥) → (number_of (Read e) ≡ 4 → ⊥) → w ≡ v
of_read End v w h three four = h
of_read Stop v w h three four = h
of_read Room v w h three four = h
of_read Short v w h three four = absurd (three refl)
of_read (Source code) v w h three four = absurd (four refl)
of_read (Magic bytes) v w h three four = h
of_read (Byte kind b) v w h three four = h
of_read Negative v w h three four = h
of_read TooLong v w h three four = h
of_read NotText v w h three four = h

of_cause : (c : Cause) (v w : View) → CauseLeaves c v w → (number_of c ≡ 3 → ⊥) → (number_of c ≡ 4 → ⊥) → w ≡ v
of_cause OutOfTurn v w h three four = h
of_cause Token v w h three four = h
of_cause (Read e) v w h three four = of_read e v w h three four
of_cause Depth v w h three four = h
of_cause KeyRoom v w h three four = h
of_cause NoKeys v w h three four = h
of_cause Unfinished v w h three four = h
of_cause (Length expected count) v w h three four = h

pub returns : goal.returns
returns c f v w h three four = of_cause f.cause v w h three four
