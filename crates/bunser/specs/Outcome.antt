-- What a read comes to, and how a call tells it.
use Rattle.std.specs.Prelude.{◌≡◌, ℕ, ◌+◌, Bool, true, false, Some, None, Ok, Err, Option, Result}
use Rattle.read.specs.declared.Fault.{Fault}
use Rattle.read.specs.Reader.{View, Spent, past, refusal}
use Rattle.format.specs.declared.refusal.ReadError.{ReadError}
use Rattle.format.specs.declared.refusal.ReadError.TheVariants.{End, Stop, Room, Short, Source, Magic, Byte, Negative, TooLong, NotText}
use Rattle.format.specs.declared.refusal.Cause.{Cause}
use Rattle.format.specs.declared.refusal.Cause.TheVariants.{OutOfTurn, Token, Read, Depth, KeyRoom, NoKeys, Unfinished, Length}
use Rattle.format.specs.declared.refusal.Refusal.{Refusal}
use Rattle.format.specs.Faults.{error_of}
use Rattle.format.specs.Numbers.{number_of}
use Rattle.bunser.specs.declared.Bunser.{Bunser}

-- something read and the reader then, or a refusal and the reader then
pub data Outcome (E A : Type 0) : Type 0 where
  got : A → View → Outcome E A
  bad : E → View → Outcome E A

abbrev pub and_then : {E A B : Type 0} → Outcome E A → (A → View → Outcome E B) → Outcome E B
and_then (got a v) f = f a v
and_then (bad e v) f = bad e v

abbrev pub at : ReadError → ℕ → Refusal
at e p = record { place = p; cause = Read e }

-- a read that begins at this place
abbrev pub placed : {A : Type 0} → ℕ → Outcome ReadError A → Outcome Refusal A
placed p (got a v) = got a v
placed p (bad e v) = bad (at e p) v

abbrev pub placed_result : {A : Type 0} → ℕ → Result A ReadError → Result A Refusal
placed_result p (Ok a) = Ok a
placed_result p (Err e) = Err (at e p)

-- ---- the questions of a read

abbrev pub judged : Bool → Option Fault → Option ReadError
judged true o = Some End
judged false None = None
judged false (Some f) = Some (error_of f)

-- how a read of n bytes is refused: the declared end is asked before the reader is
abbrev pub asked : Option ℕ → View → Option ℕ → ℕ → Option ReadError
asked end v room n = judged (past end (v.count + n)) (refusal v room n)

abbrev pub answer : {A : Type 0} → Option ReadError → View → A → View → Outcome ReadError A
answer (Some e) v a w = bad e v
answer None v a w = got a w

-- ---- how it is told

-- what a refusal leaves of the reader: after `Short` and `Source` the bytes to come are not known
abbrev pub ReadLeaves : ReadError → View → View → Type 0
ReadLeaves End v w = w ≡ v
ReadLeaves Stop v w = w ≡ v
ReadLeaves Room v w = w ≡ v
ReadLeaves Short v w = Spent v w
ReadLeaves (Source code) v w = Spent v w
ReadLeaves (Magic bytes) v w = w ≡ v
ReadLeaves (Byte kind b) v w = w ≡ v
ReadLeaves Negative v w = w ≡ v
ReadLeaves TooLong v w = w ≡ v
ReadLeaves NotText v w = w ≡ v

abbrev pub CauseLeaves : Cause → View → View → Type 0
CauseLeaves OutOfTurn v w = w ≡ v
CauseLeaves Token v w = w ≡ v
CauseLeaves (Read e) v w = ReadLeaves e v w
CauseLeaves Depth v w = w ≡ v
CauseLeaves KeyRoom v w = w ≡ v
CauseLeaves NoKeys v w = w ≡ v
CauseLeaves Unfinished v w = w ≡ v
CauseLeaves (Length expected count) v w = w ≡ v

abbrev pub RefusalLeaves : Refusal → View → View → Type 0
RefusalLeaves f v w = CauseLeaves f.cause v w

-- every refusal but 3 and 4 leaves the reader as it was
abbrev pub LeavesAsItWas : Type 0
LeavesAsItWas = (f : Refusal) (v w : View) → RefusalLeaves f v w → (number_of f.cause ≡ 3 → ⊥) → (number_of f.cause ≡ 4 → ⊥) → w ≡ v

-- the result of a call and the reader after it are what this read comes to
abbrev pub TellsBy : {E A : Type 0} → (E → View → View → Type 0) → Outcome E A → Result A E → View → Type 0
TellsBy leaves (got a v) r w = (r ≡ Ok a) × (w ≡ v)
TellsBy leaves (bad e v) r w = (r ≡ Err e) × leaves e v w

abbrev pub Tells : {A : Type 0} → Outcome ReadError A → Result A ReadError → View → Type 0
Tells m r w = TellsBy ReadLeaves m r w

abbrev pub TellsAt : {A : Type 0} → Outcome Refusal A → Result A Refusal → View → Type 0
TellsAt m r w = TellsBy RefusalLeaves m r w

-- A read of a body: what it comes to is told from the declared end and the reader, and the end stays.
pub record BodyRead {R : Type 0} (view : R → View) (b c : Bunser R) (Told : Option ℕ → View → View → Type 0) : Type 0 where
  pub reads : Told b.end (view b.read) (view c.read)
  pub same : c.end ≡ b.end
