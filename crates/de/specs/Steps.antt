-- What one event of a body is read from and what it leaves, or how it is refused.
use Rattle.std.specs.Prelude.{◌≡◌, ℕ, ◌+◌, min, Bool, true, false, cond, ◌&&◌, List, [], ◌∷◌, length, take, Some, None, Ok, Err, Option, Result, ◌==◌, nat_lt}
use Rattle.utf8.specs.Utf8.{utf8}
use Rattle.read.specs.declared.Taken.{Taken}
use Rattle.read.specs.declared.Taken.TheVariants.{Lent, Copied}
use Rattle.read.specs.Reader.{View, cramped, discarded}
use Rattle.format.specs.declared.width.Width.{Width}
use Rattle.format.specs.declared.width.Width.TheVariants.{W8, W16, W32, W64}
use Rattle.format.specs.declared.refusal.ReadError.{ReadError}
use Rattle.format.specs.declared.refusal.ReadError.TheVariants as error
use Rattle.format.specs.declared.refusal.Kind.TheVariants as kind
use Rattle.format.specs.declared.refusal.Cause.{Cause}
use Rattle.format.specs.declared.refusal.Cause.TheVariants as cause
use Rattle.format.specs.declared.refusal.Refusal.{Refusal}
use Rattle.bunser.specs.declared.text.Span.{Span}
use Rattle.bunser.specs.Outcome.{Outcome, got, bad, at, placed, asked, CauseLeaves}
use Rattle.bunser.specs.Reads.{peek_read, bytes_read, int_read, real_read, fronts}
use Rattle.bunser.specs.Texts.{text_read, text_fronts, placed_count, key_length_read}
use Rattle.bunser.specs.declared.text.TextKind.{TextKind}
use Rattle.bunser.specs.declared.text.TextKind.TheVariants as text
use Rattle.bunser.specs.declared.text.Unread.{Unread}
use Rattle.room.specs.declared.due.Due.{Due}
use Rattle.room.specs.declared.due.Due.TheVariants as due
use Rattle.room.specs.Open.{Column, lent, copied, column_bytes, Open, items, pairs, rows, filled, ended, keyed, row_turned, column, depth, keys_held, bytes_held}
use Rattle.room.specs.Open as room
use Rattle.room.specs.KeyList.{key_list_read}
use Rattle.de.specs.declared.event.Event.{Event}
use Rattle.de.specs.declared.event.Event.TheVariants as event
use Rattle.de.specs.declared.event.Ahead.{Ahead}
use Rattle.de.specs.declared.event.Ahead.TheVariants as ahead

-- what is held of a body between two events
pub record Body : Type 0 where
  pub reader : View
  -- the count that no read of the body passes
  pub end : Option ℕ
  pub opens : List (Open Column)
  -- a text whose tag and length were taken, and whose event has not passed
  pub unread : Option Unread
  -- how many events have passed
  pub events : ℕ

abbrev pub moved : Body → View → Body
moved b v = record { reader = v; end = b.end; opens = b.opens; unread = b.unread; events = b.events }

-- this is open then
abbrev pub opened : Body → List (Open Column) → Body
opened b o = record { reader = b.reader; end = b.end; opens = o; unread = b.unread; events = b.events }

abbrev pub awaiting : Body → View → Unread → Body
awaiting b v u = record { reader = v; end = b.end; opens = b.opens; unread = Some u; events = b.events }

-- one more event, in a number of 64 bits
abbrev pub counted : ℕ → ℕ
counted n = min (n + 1) 18446744073709551615

-- an event has passed: this is open then, and no text is awaited
abbrev pub behind : Body → View → List (Open Column) → Body
behind b v o = record { reader = v; end = b.end; opens = o; unread = None; events = counted b.events }

-- ---- what comes, before the bytes of a text are read

-- what comes, which may be an event that has passed; or a refusal
pub data Coming : Type 0 where
  comes : Ahead → Body → Coming
  halts : Refusal → Body → Coming

abbrev pub passes : Event → Body → View → List (Open Column) → Coming
passes e b v o = comes (ahead.Passed e) (behind b v o)

-- the text is awaited from then on
abbrev pub awaits : TextKind → Body → ℕ → View → Coming
awaits k b n v = comes (ahead.Text (record { kind = k; len = n })) (awaiting b v (record { kind = k; len = n }))

-- a read of the body, and what is done with what it gives
abbrev pub reading : {A : Type 0} → Outcome Refusal A → Body → (A → View → Coming) → Coming
reading (got a v) b f = f a v
reading (bad r v) b f = halts r (moved b v)

abbrev pub refuse : Cause → ℕ → Refusal
refuse c p = record { place = p; cause = c }

-- ---- numbers, texts and what is only a tag, which is shown

unfoldable pub int_comes : Bool → Width → Body → Coming
int_comes lends w b = reading (placed b.reader.count (int_read lends b.end w (discarded lends b.reader))) b (λ z v. passes (event.Int w z) b v (filled b.opens))

unfoldable pub real_comes : Bool → Body → Coming
real_comes lends b = reading (placed b.reader.count (real_read lends b.end (discarded lends b.reader))) b (λ n v. passes (event.Real n) b v (filled b.opens))

unfoldable pub text_comes : Bool → TextKind → Body → Coming
text_comes lends k b = reading (placed_count lends b.end (discarded lends b.reader)) b (awaits k b)

-- the key of a pair
unfoldable pub key_comes : Bool → Body → Coming
key_comes lends b = reading (key_length_read lends b.end kind.MapKey b.reader) b (awaits text.Key b)

unfoldable pub tag_comes : Bool → Event → Body → Coming
tag_comes lends e b = passes e b (discarded lends b.reader) (filled b.opens)

-- ---- containers

-- a level is asked for before the tag is taken
abbrev pub levelled : Body → Coming → Coming
levelled b c = cond (nat_lt (depth b.opens) 128) c (halts (refuse cause.Depth b.reader.count) b)

unfoldable pub array_comes : Bool → Body → Coming
array_comes lends b = levelled b (reading (placed_count lends b.end (discarded lends b.reader)) b (λ n v. passes event.ArrayBegin b v (items n ∷ filled b.opens)))

unfoldable pub object_comes : Bool → Body → Coming
object_comes lends b = levelled b (reading (placed_count lends b.end (discarded lends b.reader)) b (λ n v. passes event.MapBegin b v (pairs n ∷ filled b.opens)))

-- rows without keys are beyond the limits
abbrev pub keyless : ℕ → List Column → Bool
keyless n ks = nat_lt 0 n && length ks == 0

abbrev pub rows_by : List Column → ℕ → ℕ → Body → View → Coming
rows_by ks p n b v = cond (keyless n ks) (halts (refuse cause.NoKeys p) (moved b v)) (passes event.ArrayBegin b v (rows ks n ∷ filled b.opens))

-- the row count behind a key list
unfoldable pub rows_come : Bool → List Column → Body → View → Coming
rows_come lends ks b v = reading (placed_count lends b.end v) b (λ n w. rows_by ks v.count n b w)

unfoldable pub template_comes : Bool → Body → Coming
template_comes lends b =
    levelled b (reading (key_list_read lends b.end (depth b.opens) (keys_held b.opens) (bytes_held column_bytes b.opens) (discarded lends b.reader)) b (λ ks v. rows_come lends ks b v))

-- ---- an item, by its tag and by whether a gap may stand here

abbrev pub no_item : ℕ → Body → Coming
no_item t b = halts (at (error.Byte kind.NextItem t) b.reader.count) b

abbrev pub gap_comes : Bool → Bool → ℕ → Body → Coming
gap_comes lends true t b = tag_comes lends event.Absent b
gap_comes lends false t b = no_item t b

unfoldable pub tagged : Bool → Bool → ℕ → Body → Coming
tagged lends cell t b =
    cond (t == 0x00) (array_comes lends b)
    (cond (t == 0x01) (object_comes lends b)
    (cond (t == 0x02) (text_comes lends text.Bytes b)
    (cond (t == 0x03) (int_comes lends W8 b)
    (cond (t == 0x04) (int_comes lends W16 b)
    (cond (t == 0x05) (int_comes lends W32 b)
    (cond (t == 0x06) (int_comes lends W64 b)
    (cond (t == 0x07) (real_comes lends b)
    (cond (t == 0x08) (tag_comes lends event.True b)
    (cond (t == 0x09) (tag_comes lends event.False b)
    (cond (t == 0x0a) (tag_comes lends event.Null b)
    (cond (t == 0x0b) (template_comes lends b)
    (cond (t == 0x0c) (gap_comes lends cell t b)
    (cond (t == 0x0d) (text_comes lends text.Text b)
    (no_item t b))))))))))))))

unfoldable pub item_comes : Bool → Bool → Body → Coming
item_comes lends cell b = reading (placed b.reader.count (peek_read b.end b.reader)) b (λ t v. tagged lends cell t (moved b v))

-- ---- what comes by what is due

-- nothing is read: an event by what is open alone
abbrev pub turns : Event → Body → List (Open Column) → Coming
turns e b o = passes e b b.reader o

abbrev pub due_comes : Due → Bool → Body → Coming
due_comes due.Done lends b = comes ahead.Nothing b
due_comes due.Value lends b = item_comes lends false b
due_comes due.Cell lends b = item_comes lends true b
due_comes due.MapKey lends b = key_comes lends b
due_comes due.RowBegin lends b = turns event.MapBegin b (row_turned b.opens)
due_comes due.RowKey lends b = comes ahead.Column b
due_comes due.RowEnd lends b = turns event.MapEnd b (row_turned b.opens)
due_comes due.MapEnd lends b = turns event.MapEnd b (ended b.opens)
due_comes due.ArrayEnd lends b = turns event.ArrayEnd b (ended b.opens)

abbrev pub unread_comes : Option Unread → Bool → Body → Coming
unread_comes (Some u) lends b = comes (ahead.Text u) b
unread_comes None lends b = due_comes (room.due b.opens) lends b

unfoldable pub coming : Bool → Body → Coming
coming lends b = unread_comes b.unread lends b

-- ---- the bytes of a text, and the key of a column

-- an event or none, or a refusal; what is held then; and what stands at the front of the text buffer then
pub data Out : Type 0 where
  gives : Option Event → Body → List ℕ → Out
  stops : Refusal → Body → List ℕ → Out

abbrev pub puts : Out → List ℕ
puts (gives e b x) = x
puts (stops f b x) = x

-- the room for a text: a reader that lends needs none
abbrev pub text_space : Bool → Option ℕ → Option ℕ
text_space true space = None
text_space false space = space

abbrev pub text_outcome : TextKind → Bool → Option ℕ → Option ℕ → ℕ → View → Outcome ReadError Taken
text_outcome text.Bytes lends end space n v = bytes_read lends end space n v
text_outcome text.Text lends end space n v = text_read lends end space n v
text_outcome text.Key lends end space n v = text_read lends end space n v

-- what it puts to the front of a copying reader's buffer
abbrev pub text_puts : TextKind → Option ℕ → Option ℕ → ℕ → View → List ℕ
text_puts text.Bytes end space n v = fronts (asked end v space n) n v
text_puts text.Text end space n v = text_fronts (asked end v space n) (utf8 (take n v.coming)) n v
text_puts text.Key end space n v = text_fronts (asked end v space n) (utf8 (take n v.coming)) n v

-- a reader that lends puts nothing to the buffer
abbrev pub text_front : Bool → List ℕ → List ℕ
text_front true x = []
text_front false x = x

abbrev pub text_event : TextKind → Span → Event
text_event text.Bytes s = event.Bytes s
text_event text.Text s = event.Text s
text_event text.Key s = event.Key s

-- a key is followed by its value
abbrev pub behind_text : TextKind → List (Open Column) → List (Open Column)
behind_text text.Bytes o = filled o
behind_text text.Text o = filled o
behind_text text.Key o = keyed o

abbrev pub text_by : Outcome Refusal Taken → Unread → Body → List ℕ → Out
text_by (got t v) u b x = gives (Some (text_event u.kind (record { taken = t; len = u.len }))) (behind b v (behind_text u.kind b.opens)) x
text_by (bad r v) u b x = stops r (moved b v) x

unfoldable pub text_step : Bool → Option ℕ → Unread → Body → Out
text_step lends space u b =
    text_by (placed b.reader.count (text_outcome u.kind lends b.end (text_space lends space) u.len b.reader)) u b
    (text_front lends (text_puts u.kind b.end (text_space lends space) u.len b.reader))

abbrev pub column_passes : Span → Body → List ℕ → Out
column_passes s b x = gives (Some (event.Key s)) (behind b b.reader (row_turned b.opens)) x

-- the key of a column goes to the buffer where it was copied
abbrev pub column_by : Column → Option ℕ → Body → Out
column_by (lent p n) space b = column_passes (record { taken = Lent p; len = n }) b []
column_by (copied bs) space b = cond (cramped space (length bs)) (stops (at error.Room b.reader.count) b []) (column_passes (record { taken = Copied; len = length bs }) b bs)

unfoldable pub column_step : Option ℕ → Body → Out
column_step space b = column_by (column b.opens) space b

-- ---- one step

abbrev pub finishes : Bool → Option ℕ → Ahead → Body → Out
finishes lends space ahead.Nothing b = gives None b []
finishes lends space (ahead.Passed e) b = gives (Some e) b []
finishes lends space (ahead.Text u) b = text_step lends space u b
finishes lends space ahead.Column b = column_step space b

abbrev pub finishing : Bool → Option ℕ → Coming → Out
finishing lends space (comes a b) = finishes lends space a b
finishing lends space (halts f b) = stops f b []

-- the next event, where a text buffer has this much room, or where no room is needed
unfoldable pub step : Bool → Option ℕ → Body → Out
step lends space b = finishing lends space (coming lends b)

-- ---- how it is told

-- what is held after a refusal: the bytes to come are not known after 3 and 4
pub record Apart (f : Refusal) (b c : Body) : Type 0 where
  pub reader : CauseLeaves f.cause b.reader c.reader
  pub end : c.end ≡ b.end
  pub opens : c.opens ≡ b.opens
  pub unread : c.unread ≡ b.unread
  pub events : c.events ≡ b.events

abbrev pub Finds : Coming → Result Ahead Refusal → Body → Type 0
Finds (comes a b) r c = (r ≡ Ok a) × (c ≡ b)
Finds (halts f b) r c = (r ≡ Err f) × Apart f b c

-- what is held once an event that was found has passed; a text that was found is awaited until its event passes
abbrev pub settled : Result Ahead Refusal → Body → Body
settled (Ok ahead.Nothing) b = b
settled (Ok (ahead.Passed e)) b = behind b b.reader b.opens
settled (Ok (ahead.Text u)) b = awaiting b b.reader u
settled (Ok ahead.Column) b = b
settled (Err f) b = b

-- what is found, of which a part is handed out
abbrev pub found : {A : Type 0} → (A → Ahead) → Result A Refusal → Result Ahead Refusal
found f (Ok a) = Ok (f a)
found f (Err e) = Err e

abbrev pub Says : Out → Result (Option Event) Refusal → Body → Type 0
Says (gives e b x) r c = (r ≡ Ok e) × (c ≡ b)
Says (stops f b x) r c = (r ≡ Err f) × Apart f b c
