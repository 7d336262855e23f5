-- What the read of a template's key list gives and leaves of the reader, or how it refuses.
use Rattle.std.specs.Prelude.{◌≡◌, ◌++◌, Ok, Err, Result, ℕ, zero, suc, ◌+◌, ◌-◌, Bool, true, false, cond, List, [], ◌∷◌, take, Some, None, Option, ◌==◌, nat_le, nat_lt}
use Rattle.read.specs.Reader.{View, discarded}
use Rattle.format.specs.declared.refusal.ReadError.{ReadError}
use Rattle.format.specs.declared.refusal.ReadError.TheVariants.{End, Stop, Room, Short, Source, Magic, Byte, Negative, TooLong, NotText}
use Rattle.format.specs.declared.refusal.Kind.TheVariants.{KeyList, TemplateKey}
use Rattle.format.specs.declared.refusal.Cause.{Cause}
use Rattle.format.specs.declared.refusal.Cause.TheVariants.{Read, Depth, KeyRoom}
use Rattle.format.specs.declared.refusal.Refusal.{Refusal}
use Rattle.bunser.specs.Outcome.{Outcome, got, bad, and_then, at, placed, RefusalLeaves}
use Rattle.bunser.specs.Reads.{peek_read}
use Rattle.bunser.specs.Texts.{text_read, placed_count, key_length_read}
use Rattle.room.specs.Open.{Column, lent, copied, column_bytes, Open}
use Rattle.room.specs.Opened.{Opened}

-- the key bytes that are free: a reader that lends takes up none
abbrev pub key_space : Bool → ℕ → Option ℕ
key_space true held = None
key_space false held = Some (4096 - held)

-- want of room for a key is want of key room
abbrev pub room_cause : ReadError → Cause
room_cause Room = KeyRoom
room_cause End = Read End
room_cause Stop = Read Stop
room_cause Short = Read Short
room_cause (Source code) = Read (Source code)
room_cause (Magic bytes) = Read (Magic bytes)
room_cause (Byte kind b) = Read (Byte kind b)
room_cause Negative = Read Negative
room_cause TooLong = Read TooLong
room_cause NotText = Read NotText

abbrev pub room_refusal : ℕ → ReadError → Refusal
room_refusal p e = record { place = p; cause = room_cause e }

abbrev pub room_result : {A : Type 0} → ℕ → Result A ReadError → Result A Refusal
room_result p (Ok a) = Ok a
room_result p (Err e) = Err (room_refusal p e)

abbrev pub in_key_room : {A : Type 0} → ℕ → Outcome ReadError A → Outcome Refusal A
in_key_room p (got a v) = got a v
in_key_room p (bad e v) = bad (room_refusal p e) v

-- the column of a key of n bytes that come next
abbrev pub column_of : Bool → ℕ → View → Column
column_of true n v = lent v.count n
column_of false n v = copied (take n v.coming)

-- the text of a key goes to key room
abbrev pub key_text_read : Bool → Option ℕ → ℕ → ℕ → View → Outcome Refusal Column
key_text_read lends end held n v = and_then (in_key_room v.count (text_read lends end (key_space lends held) n v)) (λ _ w. got (column_of lends n v) w)

unfoldable pub key_read : Bool → Option ℕ → ℕ → View → Outcome Refusal Column
key_read lends end held v = and_then (key_length_read lends end TemplateKey v) (key_text_read lends end held)

abbrev pub keys_read : Bool → Option ℕ → ℕ → ℕ → View → Outcome Refusal (List Column)
keys_read lends end held zero v = got [] v
keys_read lends end held (suc n) v = and_then (key_read lends end held v) (λ k w. and_then (keys_read lends end (held + column_bytes (k ∷ [])) n w) (λ ks u. got (k ∷ ks) u))

-- there is room for so many keys
abbrev pub counted_keys : Bool → Option ℕ → ℕ → ℕ → ℕ → ℕ → View → Outcome Refusal (List Column)
counted_keys lends end keys held p n v = cond (nat_le (keys + n) 256) (keys_read lends end held n v) (bad (record { place = p; cause = KeyRoom }) v)

-- a list whose tag was shown
abbrev pub listed_read : Bool → Option ℕ → ℕ → ℕ → View → Outcome Refusal (List Column)
listed_read lends end keys held v = and_then (placed_count lends end (discarded lends v)) (counted_keys lends end keys held (discarded lends v).count)

-- the list itself has a level, behind the template's own
abbrev pub levelled : Bool → Option ℕ → ℕ → ℕ → ℕ → View → Outcome Refusal (List Column)
levelled lends end levels keys held v = cond (nat_lt (suc levels) 128) (listed_read lends end keys held v) (bad (record { place = v.count; cause = Depth }) v)

abbrev pub listed : Bool → Option ℕ → ℕ → ℕ → ℕ → ℕ → View → Outcome Refusal (List Column)
listed lends end levels keys held t v = cond (t == 0x00) (levelled lends end levels keys held v) (bad (at (Byte KeyList t) v.count) v)

-- a key list, where so many levels, keys and key bytes are taken
unfoldable pub key_list_read : Bool → Option ℕ → ℕ → ℕ → ℕ → View → Outcome Refusal (List Column)
key_list_read lends end levels keys held v = and_then (placed v.count (peek_read end v)) (listed lends end levels keys held)

-- ---- how it is told: the keys go behind those that are there

abbrev pub KeyTold : Outcome Refusal Column → List Column → Result Unit Refusal → List Column → View → Type 0
KeyTold (got k v) old r new w = (r ≡ Ok tt) × (w ≡ v) × (new ≡ old ++ k ∷ [])
KeyTold (bad f v) old r new w = (r ≡ Err f) × RefusalLeaves f v w × (new ≡ old)

-- of those before a refusal, some may stand there
abbrev pub KeysTold : Outcome Refusal (List Column) → List Column → Result Unit Refusal → List Column → View → Type 0
KeysTold (got ks v) old r new w = (r ≡ Ok tt) × (w ≡ v) × (new ≡ old ++ ks)
KeysTold (bad f v) old r new w = (r ≡ Err f) × RefusalLeaves f v w × (more : List Column) × (new ≡ old ++ more)

-- the keys are listed, or none is
abbrev pub ListTold : Outcome Refusal (List Column) → List (Open Column) → Result Unit Refusal → Opened → View → Type 0
ListTold (got ks v) s r new w = (r ≡ Ok tt) × (w ≡ v) × (new ≡ record { opens = s; listed = ks })
ListTold (bad f v) s r new w = (r ≡ Err f) × RefusalLeaves f v w × (new ≡ record { opens = s; listed = [] })
