-- What the law rules out: lists of moments that no decoder tells. Each stands on one clause of the law.
use Rattle.std.specs.Prelude.{ℕ, Bool, true, false, List, [], ◌∷◌}
use Rattle.read.specs.Reader.{View}
use Rattle.read.specs.declared.Taken.{Taken}
use Rattle.read.specs.declared.Taken.TheVariants.{Lent, Copied}
use Rattle.format.specs.declared.refusal.Kind.TheVariants as kind
use Rattle.format.specs.declared.refusal.ReadError.TheVariants as error
use Rattle.format.specs.declared.refusal.Cause.{Cause}
use Rattle.format.specs.declared.refusal.Cause.TheVariants as cause
use Rattle.de.specs.declared.event.Event.TheVariants as event
use Rattle.de.specs.declared.pdu.Extent.{Extent}
use Rattle.de.specs.declared.entry.Call.{Call}
use Rattle.de.specs.declared.entry.Call.TheVariants as call
use Rattle.de.specs.declared.entry.Answer.{Answer}
use Rattle.de.specs.declared.entry.Answer.TheVariants as answer
use Rattle.de.specs.Made.{Moment}
use Rattle.runs.specs.Examples.{slice, pdu}
use Rattle.runs.specs.Law.{Law}

-- a call and its answer, where the reader's count is then this one, and so many events and body bytes are told
abbrev pub told : Call → Answer → ℕ → ℕ → ℕ → Moment
told c a count events bytes = record { call = c; answer = a; count = count; events = events; bytes = bytes; text = [] }

abbrev pub Unlawful : Bool → View → List Moment → Type 0
Unlawful lends v m = Law lends v m → ⊥

-- ---- a PDU whose body is a null

abbrev pub null_pdu : View
null_pdu = slice (pdu (0x0a ∷ []))

abbrev pub extent : Extent
extent = record { start = 8; length = 1 }

abbrev pub accepted : Answer
accepted = answer.Opened (record { capabilities = 0; start = 8; length = 1 })

abbrev pub refused : Cause → ℕ → Answer
refused c place = answer.Refused (record { place = place; cause = c })

-- as it is told: opened, its event, none, and closed
abbrev pub opened : Moment
opened = told call.Open accepted 8 0 0

abbrev pub gave : Moment
gave = told (call.Next 0) (answer.Gave event.Null) 9 1 1

abbrev pub closed : Answer
closed = answer.Closed (record { events = 1; length = 1 })

-- a PDU whose body goes on behind its null
abbrev pub two_pdu : View
two_pdu = slice (pdu (0x0a ∷ 0x0a ∷ []))

abbrev pub two_extent : Extent
two_extent = record { start = 8; length = 2 }

abbrev pub two_opened : Moment
two_opened = told call.Open (answer.Opened (record { capabilities = 0; start = 8; length = 2 })) 8 0 0

-- a PDU whose body is a PDU
abbrev pub pdu_in_pdu : View
pdu_in_pdu = slice (pdu (pdu (0x0a ∷ [])))

abbrev pub outer_opened : Moment
outer_opened = told call.Open (answer.Opened (record { capabilities = 0; start = 8; length = 9 })) 8 0 0

-- behind these moments this one cannot be told
abbrev pub first : Moment → List Moment
first m = m ∷ []

abbrev pub behind_open : Moment → List Moment
behind_open m = opened ∷ m ∷ []

abbrev pub behind_event : Moment → List Moment
behind_event m = opened ∷ gave ∷ m ∷ []

abbrev pub RulesOut : Bool → Type 0
RulesOut lends = record {
  -- the answer is one of the call's kind
  answer_of_skip : Unlawful lends null_pdu (behind_open (told (call.Next 0) (answer.Skipped 1) 9 1 1));
  -- out of turn a call is refused by 1, and a close without its PDU by 2
  next_unopened : Unlawful lends null_pdu (first (told (call.Next 0) (refused cause.NoKeys 0) 0 0 0));
  skip_unopened : Unlawful lends null_pdu (first (told call.Skip (refused cause.Token 0) 0 0 0));
  open_twice : Unlawful lends null_pdu (behind_open (told call.Open (refused cause.Token 8) 8 0 0));
  close_unopened : Unlawful lends null_pdu (first (told (call.Close extent) (refused cause.OutOfTurn 0) 0 0 0));
  close_of_another : Unlawful lends null_pdu (behind_open (told (call.Close (record { start = 8; length = 2 })) (refused cause.Unfinished 8) 8 0 0));
  close_of_this : Unlawful lends null_pdu (behind_open (told (call.Close extent) (refused cause.Token 8) 8 0 0));
  -- in turn it is not
  open_in_turn : Unlawful lends null_pdu (first (told call.Open (refused cause.OutOfTurn 0) 0 0 0));
  next_in_turn : Unlawful lends null_pdu (behind_open (told (call.Next 0) (refused cause.OutOfTurn 8) 8 0 0));
  skip_in_turn : Unlawful lends null_pdu (behind_open (told call.Skip (refused cause.OutOfTurn 8) 8 0 0));
  -- a refusal for good comes again, and takes nothing more
  another_comes : Unlawful lends (slice []) (told call.Open (refused (cause.Read error.Short) 0) 0 0 0 ∷ told call.Open (refused (cause.Read error.Stop) 0) 0 0 0 ∷ []);
  more_is_taken : Unlawful lends (slice []) (told call.Open (refused (cause.Read error.Short) 0) 0 0 0 ∷ told call.Open (refused (cause.Read error.Short) 0) 1 0 0 ∷ []);
  -- nothing is taken out of turn, nor by a close
  next_takes : Unlawful lends null_pdu (first (told (call.Next 0) (refused cause.OutOfTurn 0) 1 0 0));
  next_elsewhere : Unlawful lends null_pdu (first (told (call.Next 0) (refused cause.OutOfTurn 1) 0 0 0));
  close_takes : Unlawful lends null_pdu (behind_event (told (call.Close extent) closed 10 1 1));
  close_elsewhere : Unlawful lends null_pdu (behind_open (told (call.Close (record { start = 8; length = 2 })) (refused cause.Token 7) 8 0 0));
  -- a header is accepted where it stands, and only there
  header_there : Unlawful lends null_pdu (first (told call.Open (refused (cause.Read error.Negative) 6) 8 0 0));
  no_header : Unlawful lends (slice []) (first opened);
  -- behind a refusal for good nothing is accepted, nor where a PDU is open
  opened_refused : Unlawful lends null_pdu (told call.Open (refused (cause.Read error.Negative) 6) 0 0 0 ∷ opened ∷ []);
  opened_over : Unlawful lends pdu_in_pdu (outer_opened ∷ told call.Open (answer.Opened (record { capabilities = 0; start = 16; length = 1 })) 16 0 0 ∷ []);
  -- an accepted open has taken the header and no more
  open_takes : Unlawful lends null_pdu (first (told call.Open accepted 9 0 1));
  -- before a PDU is opened each call is refused, and nothing is counted
  done_unopened : Unlawful lends null_pdu (first (told (call.Next 0) answer.Done 0 0 0));
  events_unopened : Unlawful lends null_pdu (first (told call.Skip (refused cause.OutOfTurn 0) 0 1 0));
  bytes_unopened : Unlawful lends null_pdu (first (told call.Skip (refused cause.OutOfTurn 0) 0 0 1));
  -- what is told of an open PDU is what has passed and was taken
  events_told : Unlawful lends null_pdu (first (told call.Open accepted 8 1 0));
  bytes_told : Unlawful lends null_pdu (first (told call.Open accepted 8 0 1));
  -- no byte beyond the declared end is taken
  beyond_end : Unlawful lends null_pdu (behind_open (told (call.Next 0) (refused (cause.Read error.Negative) 8) 10 0 0));
  -- the events are those of the value
  another_event : Unlawful lends null_pdu (behind_open (told (call.Next 0) (answer.Gave event.True) 9 1 1));
  -- a whole body within the limits is not refused
  next_refused : Unlawful lends null_pdu (behind_open (told (call.Next 0) (refused cause.Depth 8) 8 0 0));
  skip_refused : Unlawful lends null_pdu (behind_open (told call.Skip (refused cause.Depth 8) 8 0 0));
  -- the end of a value is told there, and only there
  end_untold : Unlawful lends null_pdu (behind_event (told call.Skip (answer.Skipped 1) 9 2 1));
  end_of_nothing : Unlawful lends null_pdu (behind_open (told call.Skip (answer.Skipped 0) 8 0 0));
  done_at_once : Unlawful lends null_pdu (behind_open (told (call.Next 0) answer.Done 8 0 0));
  event_again : Unlawful lends null_pdu (behind_event (told (call.Next 0) (answer.Gave event.Null) 9 2 1));
  more_events : Unlawful lends null_pdu (behind_event (told (call.Next 0) (answer.Gave event.True) 9 2 1));
  -- close accepts a whole value whose events have passed, and only that
  close_refused : Unlawful lends null_pdu (behind_event (told (call.Close extent) (refused cause.Unfinished 9) 9 1 1));
  close_refused_by : Unlawful lends null_pdu (behind_open (told (call.Close extent) (refused cause.Depth 8) 8 0 0));
  close_too_soon : Unlawful lends null_pdu (behind_open (told (call.Close extent) closed 8 0 0));
  close_long : Unlawful lends null_pdu (behind_event (told (call.Close extent) (answer.Closed (record { events = 1; length = 2 })) 9 1 1));
  close_short : Unlawful lends two_pdu (two_opened ∷ gave ∷ told (call.Close two_extent) (answer.Closed (record { events = 1; length = 2 })) 9 1 1 ∷ []);
  -- bytes before which no value is have no events
  no_value : Unlawful lends (slice (pdu (0x0e ∷ []))) (behind_open (told (call.Next 0) (answer.Gave event.Null) 9 1 1));
}

-- five events of one byte
abbrev pub begun : ℕ → Moment
begun n = told (call.Next 0) (answer.Gave event.ArrayBegin) 9 n 1

abbrev pub five_begun : List Moment
five_begun = opened ∷ begun 1 ∷ begun 2 ∷ begun 3 ∷ begun 4 ∷ begun 5 ∷ []

-- a PDU whose body is the byte string "a"
abbrev pub bytes_pdu : View
bytes_pdu = slice (pdu (0x02 ∷ 0x03 ∷ 0x01 ∷ 0x61 ∷ []))

abbrev pub bytes_opened : Moment
bytes_opened = told call.Open (answer.Opened (record { capabilities = 0; start = 8; length = 4 })) 8 0 0

-- its event, into so much room
abbrev pub gave_bytes : ℕ → Taken → List Moment
gave_bytes room t = bytes_opened ∷ told (call.Next room) (answer.Gave (event.Bytes (record { taken = t; len = 1 }))) 12 1 4 ∷ []

-- the same for a UTF-8 string
abbrev pub text_pdu : View
text_pdu = slice (pdu (0x0d ∷ 0x03 ∷ 0x01 ∷ 0x61 ∷ []))

abbrev pub gave_text : Taken → List Moment
gave_text t = bytes_opened ∷ told (call.Next 1) (answer.Gave (event.Text (record { taken = t; len = 1 }))) 12 1 4 ∷ []

-- and for the key "a" of an object
abbrev pub key_pdu : View
key_pdu = slice (pdu (0x01 ∷ 0x03 ∷ 0x01 ∷ 0x02 ∷ 0x03 ∷ 0x01 ∷ 0x61 ∷ 0x0a ∷ []))

abbrev pub gave_key : Taken → List Moment
gave_key t = told call.Open (answer.Opened (record { capabilities = 0; start = 8; length = 8 })) 8 0 0 ∷ told (call.Next 0) (answer.Gave event.MapBegin) 11 1 3
    ∷ told (call.Next 1) (answer.Gave (event.Key (record { taken = t; len = 1 }))) 15 2 7 ∷ []

-- a PDU whose body begins an array of three, with two nulls, and then a byte that begins no value
abbrev pub three_pdu : View
three_pdu = slice (pdu (0x00 ∷ 0x03 ∷ 0x03 ∷ 0x0a ∷ 0x0a ∷ 0x0e ∷ []))

abbrev pub three_opened : Moment
three_opened = told call.Open (answer.Opened (record { capabilities = 0; start = 8; length = 6 })) 8 0 0

abbrev pub three_begun : Moment
three_begun = told (call.Next 0) (answer.Gave event.ArrayBegin) 11 1 3

-- a skip that went on over both
abbrev pub two_skipped : Moment
two_skipped = told call.Skip (refused (cause.Read (error.Byte kind.NextItem 0x0e)) 13) 13 3 5

-- a skip that went over both, and was not refused
abbrev pub both_skipped : Moment
both_skipped = told call.Skip (answer.Skipped 2) 13 3 5

abbrev pub LawExamples : Type 0
LawExamples = record {
  rules_out : (lends : Bool) → RulesOut lends;
  -- a reader that lends hands out parts of the input, and one that copies parts of the text buffer
  copied_by_lending : Unlawful true bytes_pdu (gave_bytes 1 Copied);
  lent_by_copying : Unlawful false bytes_pdu (gave_bytes 1 (Lent 11));
  text_by_lending : Unlawful true text_pdu (gave_text Copied);
  text_by_copying : Unlawful false text_pdu (gave_text (Lent 11));
  key_by_lending : Unlawful true key_pdu (gave_key Copied);
  key_by_copying : Unlawful false key_pdu (gave_key (Lent 14));
  -- where the text buffer is too short no event passes
  room_wanting : Unlawful false bytes_pdu (gave_bytes 0 Copied);
  -- a reader that lends has no text buffer that could be too short
  room_of_lending : Unlawful true three_pdu (three_opened ∷ told (call.Next 0) (refused (cause.Read error.Room) 8) 8 0 0 ∷ []);
  -- a refused next passes nothing
  refused_passes : (lends : Bool) → Unlawful lends three_pdu (three_opened ∷ told (call.Next 0) (refused (cause.Read error.Negative) 8) 8 1 0 ∷ []);
  -- a byte is at most four events
  few_events : (lends : Bool) → Unlawful lends null_pdu five_begun;
  -- a skip of one value goes not beyond it, refused or not
  beyond_value : (lends : Bool) → Unlawful lends three_pdu (three_opened ∷ three_begun ∷ two_skipped ∷ []);
  beyond_value_again : (lends : Bool) → Unlawful lends three_pdu (three_opened ∷ three_begun ∷ both_skipped ∷ []);
}
