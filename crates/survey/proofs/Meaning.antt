-- What a verdict says of a table, by the law of the calls.
use Rattle.std.proofs.Common.{◌≡◌, ℕ, zero, suc, ◌-◌, ◌≤◌, take, drop, take-append-drop, Bool, true, false, cond, ◌==◌, ◌⊎◌, inl, inr, List, [], ◌∷◌, ◌++◌, length, refl, sym, ap, ap₂, ◌∙◌, subst, append-nil, append_assoc, arith}
use Rattle.read.specs.declared.Taken.{Taken}
use Rattle.read.specs.declared.Taken.TheVariants.{Lent, Copied}
use Rattle.format.specs.declared.refusal.ReadError.{ReadError}
use Rattle.format.specs.declared.refusal.ReadError.TheVariants.{End, Stop, Room, Short, Source, Magic, Byte, Negative, TooLong, NotText}
use Rattle.format.specs.declared.refusal.Cause.{Cause}
use Rattle.format.specs.declared.refusal.Cause.TheVariants.{OutOfTurn, Token, Read, Depth, KeyRoom, NoKeys, Unfinished, Length}
use Rattle.format.specs.Numbers.{read_number, number_of}
use Rattle.values.specs.Values.{Value, Event, key, some_bytes, some_text, events}
use Rattle.values.specs.Limits.{Within, lending}
use Rattle.bunser.specs.declared.Header.{Header}
use Rattle.de.specs.declared.event.Event.{Event as GivenEvent}
use Rattle.de.specs.declared.event.Event.TheVariants as given
use Rattle.de.specs.declared.pdu.Extent.{Extent}
use Rattle.de.specs.declared.pdu.Closed.{Closed}
use Rattle.de.specs.declared.entry.Call.TheVariants as call
use Rattle.de.specs.declared.entry.Answer.{Answer}
use Rattle.de.specs.declared.entry.Answer.TheVariants as answer
use Rattle.de.specs.Made.{Moment}
use Rattle.de.specs.Shown.{taken_bytes, shown}
use Rattle.runs.specs.Law.{Phase, none_yet, running, over, phase, phase_from, phase_after, open_phase, close_phase, for_good, HandedOut, PartOf, Agrees, RefusedAgrees, Passed, opens, moves, Declared, Closes, Reads as OnWhole, Begins, from, HeaderAt, Law, PduStory, StoryBy}
use Rattle.runs.proofs.Moments.{last_same, phase_last}
use Rattle.survey.specs.declared.slot.Slot.{Slot}
use Rattle.survey.specs.declared.verdict.Verdict.{Verdict}
use Rattle.survey.specs.Slots.{laid}
use Rattle.survey.specs.Inside.{EventsInside}
use Rattle.survey.specs.Surveys.{table_view, Gives, GaveNone, GivesNone, Reads, not_opened, to_the_end, Judged, Surveyed}
use Rattle.survey.proofs.InTurn.{open_in_turn, close_in_turn}
use Rattle.survey.specs.Tables.{Holds, shows, Means}

-- ---- no refusal has the number 0

read_number_some : (e : ReadError) → read_number e ≡ 0 → ⊥
read_number_some End h = absurd (omega arith)
read_number_some Stop h = absurd (omega arith)
read_number_some Room h = absurd (omega arith)
read_number_some Short h = absurd (omega arith)
read_number_some (Source f) h = absurd (omega arith)
read_number_some (Magic bs) h = absurd (omega arith)
read_number_some (Byte k b) h = absurd (omega arith)
read_number_some Negative h = absurd (omega arith)
read_number_some TooLong h = absurd (omega arith)
read_number_some NotText h = absurd (omega arith)

number_some : (c : Cause) → number_of c ≡ 0 → ⊥
number_some OutOfTurn h = absurd (omega arith)
number_some Token h = absurd (omega arith)
number_some (Read e) h = read_number_some e h
number_some Depth h = absurd (omega arith)
number_some KeyRoom h = absurd (omega arith)
number_some NoKeys h = absurd (omega arith)
number_some Unfinished h = absurd (omega arith)
number_some (Length n m) h = absurd (omega arith)

-- ---- the phase stays over the draws

next_stays : (p : Phase) (m : Moment) → m.call ≡ call.Next 0 → phase_after p m.call m.answer ≡ p
next_stays p m is = ap (λ c. phase_after p c m.answer) is

phase_gives : (p : Phase) (t : List Moment) (gs : List GivenEvent) → Gives t gs → phase_from p t ≡ p
phase_gives p [] [] g = refl
phase_gives p [] (e ∷ gs) g = absurd g
phase_gives p (m ∷ t) [] g = absurd g
phase_gives p (m ∷ t) (e ∷ gs) (is, gave, g) = ap (λ q. phase_from q t) (next_stays p m is) ∙ phase_gives p t gs g

-- ---- the events that have passed are those that were given

record LastGiven (t : List Moment) (gs : List GivenEvent) : Type 0 where
  before : List Moment
  last : Moment
  events : List GivenEvent
  event : GivenEvent
  moments : t ≡ before ++ (last ∷ [])
  all : gs ≡ events ++ (event ∷ [])
  gives : Gives before events
  gave : last.answer ≡ answer.Gave event

gives_last : (t : List Moment) (gs : List GivenEvent) → Gives t gs → ((t ≡ []) × (gs ≡ [])) ⊎ LastGiven t gs
gives_last [] [] g = inl (refl, refl)
gives_last [] (e ∷ gs) g = absurd g
gives_last (m ∷ t) [] g = absurd g
gives_last (m ∷ t) (e ∷ gs) (is, gave, g) = go (gives_last t gs g)
  where
    go : ((t ≡ []) × (gs ≡ [])) ⊎ LastGiven t gs → ((m ∷ t ≡ []) × (e ∷ gs ≡ [])) ⊎ LastGiven (m ∷ t) (e ∷ gs)
    go (inl (a, b)) = inr (record { before = []; last = m; events = []; event = e; moments = ap (λ l. m ∷ l) a; all = ap (λ l. e ∷ l) b; gives = tt; gave = gave })
    go (inr l) = inr (record {
      before = m ∷ l.before;
      last = l.last;
      events = e ∷ l.events;
      event = l.event;
      moments = ap (λ k. m ∷ k) l.moments;
      all = ap (λ k. e ∷ k) l.all;
      gives = (is, gave, l.gives);
      gave = l.gave;
    })

shows_append : (table : List ℕ) (es fs : List GivenEvent) → shows table (es ++ fs) ≡ shows table es ++ shows table fs
shows_append table [] fs = refl
shows_append table (e ∷ es) fs = ap (λ l. shown table [] e ∷ l) (shows_append table es fs)

-- what an event hands out of the table is not in the text buffer
lent_bytes : (table text : List ℕ) (t : Taken) (n : ℕ) → PartOf true t → taken_bytes table text t n ≡ taken_bytes table [] t n
lent_bytes table text (Lent p) n h = refl
lent_bytes table text Copied n h = absurd h

handed_shown : (table text : List ℕ) (e : GivenEvent) → HandedOut true e → shown table text e ≡ shown table [] e
handed_shown table text (given.Key s) h = ap key (lent_bytes table text s.taken s.len h)
handed_shown table text (given.Bytes s) h = ap some_bytes (lent_bytes table text s.taken s.len h)
handed_shown table text (given.Text s) h = ap some_text (lent_bytes table text s.taken s.len h)
handed_shown table text given.ArrayBegin h = refl
handed_shown table text given.ArrayEnd h = refl
handed_shown table text given.MapBegin h = refl
handed_shown table text given.MapEnd h = refl
handed_shown table text (given.Int w z) h = refl
handed_shown table text (given.Real n) h = refl
handed_shown table text given.True h = refl
handed_shown table text given.False h = refl
handed_shown table text given.Null h = refl
handed_shown table text given.Absent h = refl

module _ (table : List ℕ) where
  passed_shows : {l : List Moment} {es : List Event} {c : ℕ} (m : Moment) (k : Header) (t : List Moment) (gs : List GivenEvent) → Passed true (table_view table) l es c → m.answer ≡ answer.Opened k →
      l ≡ m ∷ t → Gives t gs → es ≡ shows table gs
  passed_shows m k t gs (opens h n a b) opened is g = go (gives_last t gs g)
    where
      go : ((t ≡ []) × (gs ≡ [])) ⊎ LastGiven t gs → [] ≡ shows table gs
      go (inl (none, none_given)) = sym (ap (shows table) none_given)
      go (inr l) =
          let (same, lasts) = last_same h (m ∷ l.before) (is ∙ ap (λ k. m ∷ k) l.moments) in
          let gave : n.answer ≡ answer.Gave l.event = ap (λ (m : Moment). m.answer) lasts ∙ l.gave in
          absurd (cc)
  passed_shows m k t gs (moves h n {es} {c} {d} more passed agrees) opened is g = go (λ u hs same g. passed_shows m k u hs passed opened same g) (gives_last t gs g)
    where
      go : ((u : List Moment) (hs : List GivenEvent) → h ≡ m ∷ u → Gives u hs → es ≡ shows table hs) → ((t ≡ []) × (gs ≡ [])) ⊎ LastGiven t gs → es ++ more ≡ shows table gs
      go before (inl (none, none_given)) =
          let (same, lasts) = last_same h [] (is ∙ ap (λ k. m ∷ k) none) in
          absurd (subst (λ a. Agrees true (table_view table) n a more c d) (ap (λ (m : Moment). m.answer) lasts ∙ opened) agrees)
      go before (inr l) =
          let (same, lasts) = last_same h (m ∷ l.before) (is ∙ ap (λ k. m ∷ k) l.moments) in
          let (handed, comes, at) = subst (λ a. Agrees true (table_view table) n a more c d) (ap (λ (m : Moment). m.answer) lasts ∙ l.gave) agrees in
          ap₂ (λ a b. a ++ b) (before l.before l.events same l.gives) (comes ∙ ap (λ e. e ∷ []) (handed_shown table n.text l.event handed))
          ∙ sym (shows_append table l.events (l.event ∷ []))
          ∙ sym (ap (shows table) l.all)

  -- a call at which nothing passes
  record Quiet (n : Moment) : Type 0 where
    none : (more : List Event) (c d : ℕ) → Agrees true (table_view table) n n.answer more c d → more ≡ []
    not_open : (k : Header) → n.answer ≡ answer.Opened k → ⊥

  passed_still : {l : List Moment} {es : List Event} {c : ℕ} (h : List Moment) (n : Moment) → Passed true (table_view table) l es c → l ≡ h ++ (n ∷ []) → Quiet n →
      (d : ℕ) × Passed true (table_view table) h es d
  passed_still h n (opens g m {k} a b) is q =
      let (same, lasts) = last_same g h is in
      absurd (q.not_open k (ap (λ (m : Moment). m.answer) (sym lasts) ∙ a))
  passed_still h n (moves g m {es} {c} {d} more passed agrees) is q =
      let (same, lasts) = last_same g h is in
      let none : more ≡ [] = q.none more c d (subst (λ (m : Moment). Agrees true (table_view table) m m.answer more c d) lasts agrees) in
      (c, subst (λ es. Passed true (table_view table) h es c) (sym (ap (λ l. es ++ l) none ∙ append-nil es)) (subst (λ h. Passed true (table_view table) h es c) same passed))

  quiet_next : (n : Moment) → GivesNone n → Quiet n
  quiet_next n g = go n.answer refl g.none
    where
      agreed : {a : Answer} (more : List Event) (c d : ℕ) → n.answer ≡ a → Agrees true (table_view table) n n.answer more c d → Agrees true (table_view table) n a more c d
      agreed more c d is agrees = subst (λ a. Agrees true (table_view table) n a more c d) is agrees

      go : (a : Answer) → n.answer ≡ a → GaveNone a → Quiet n
      go answer.Done is h = record { none = λ more c d agrees. (agreed more c d is agrees).0; not_open = λ k e. absurd (cc) }
      go (answer.Refused f) is h = record { none = λ more c d agrees. (subst (λ q. RefusedAgrees q f more c d) g.next (agreed more c d is agrees)).0; not_open = λ k e. absurd (cc) }
      go (answer.Opened k) is h = absurd h
      go (answer.Gave e) is h = absurd h
      go (answer.Skipped m) is h = absurd h
      go (answer.Closed k) is h = absurd h

  quiet_close : (n : Moment) (e : Extent) (v : Verdict) → n.call ≡ call.Close e → Judged n.answer n v → Quiet n
  quiet_close n e v is judged = go n.answer refl judged
    where
      agreed : {a : Answer} (more : List Event) (c d : ℕ) → n.answer ≡ a → Agrees true (table_view table) n n.answer more c d → Agrees true (table_view table) n a more c d
      agreed more c d is agrees = subst (λ a. Agrees true (table_view table) n a more c d) is agrees

      go : (a : Answer) → n.answer ≡ a → Judged a n v → Quiet n
      go (answer.Closed k) at h = record { none = λ more c d agrees. (agreed more c d at agrees).0; not_open = λ k e. absurd (cc) }
      go (answer.Refused f) at h = record { none = λ more c d agrees. (subst (λ q. RefusedAgrees q f more c d) is (agreed more c d at agrees)).0; not_open = λ k e. absurd (cc) }
      go (answer.Opened k) at h = absurd h
      go (answer.Gave e) at h = absurd h
      go (answer.Skipped m) at h = absurd h
      go answer.Done at h = absurd h

-- ---- a table whose PDU was opened

take_less : (k n : ℕ) (xs : List ℕ) → k ≤ n → take k (take n xs) ≡ take k xs
take_less zero n xs h = refl
take_less (suc k) zero xs h = absurd (omega arith)
take_less (suc k) (suc n) [] h = refl
take_less (suc k) (suc n) (x ∷ xs) h = ap (λ l. x ∷ l) (take_less k n xs (omega arith))

-- a table that holds a value declares it in the header that was read
declared_of : {table : List ℕ} {k : List Moment} {h : Header} (m : Moment) (caps start size : ℕ) (w : Value) → Law true (table_view table) (m ∷ k) → m.call ≡ call.Open → m.answer ≡ answer.Opened h →
    Holds table caps start size w → Declared (table_view table) h.start h.length w
declared_of {table} {k} {h} m caps start size w law is_open opened holds =
    let same : h ≡ record { capabilities = caps; start = start; length = size } = let again = ((law [] m k refl).opens is_open).accepts refl refl caps start size holds.header in cc in
    subst (λ (h : Header). Declared (table_view table) h.start h.length w) (sym same) holds.body

length-shows : (table : List ℕ) (gs : List GivenEvent) → length (shows table gs) ≡ length gs
length-shows table [] = refl
length-shows table (e ∷ gs) = ap suc (length-shows table gs)

record LastMoment (l : List Moment) : Type 0 where
  before : List Moment
  last : Moment
  moments : l ≡ before ++ (last ∷ [])

last_moment : (m : Moment) (t : List Moment) → LastMoment (m ∷ t)
last_moment m [] = record { before = []; last = m; moments = refl }
last_moment m (n ∷ t) = let l = last_moment n t in record { before = m ∷ l.before; last = l.last; moments = ap (λ k. m ∷ k) l.moments }

module _ (table : List ℕ) (v : Verdict) (m : Moment) (h : Header) (t : List Moment) (gs : List GivenEvent) (last n : Moment) (law : Law true (table_view table) (m ∷ (t ++ (last ∷ n ∷ [])))) (is_open : m.call ≡ call.Open)
    (opened : m.answer ≡ answer.Opened h) (gives : Gives t gs) (none : GivesNone last) (close : n.call ≡ call.Close (record { start = h.start; length = h.length })) (judged : Judged n.answer n v) where
  abbrev extent : Extent
  extent = record { start = h.start; length = h.length }

  runs_on : phase (m ∷ t) ≡ running extent
  runs_on = phase_gives (phase_after none_yet m.call m.answer) t gs gives ∙ ap (λ c. phase_after none_yet c m.answer) is_open ∙ ap (open_phase none_yet) opened

  runs_still : phase ((m ∷ t) ++ (last ∷ [])) ≡ running extent
  runs_still = phase_last none_yet (m ∷ t) last ∙ next_stays (phase (m ∷ t)) last none.next ∙ runs_on

  story_at_last : PduStory true (table_view table) (m ∷ t) last (n ∷ []) extent
  story_at_last = subst (λ p. StoryBy p true (table_view table) (m ∷ t) last (n ∷ [])) runs_still (law (m ∷ t) last (n ∷ []) refl).story

  given_at_last : story_at_last.es ≡ shows table gs
  given_at_last = let (c, passed) = passed_still table (m ∷ t) last story_at_last.passed refl (quiet_next table last none) in passed_shows table m h t gs passed opened refl gives

  header_there : HeaderAt (table_view table) 0 h.capabilities h.start h.length
  header_there = let (free, closed, there) = ((law [] m (t ++ (last ∷ n ∷ [])) refl).opens is_open).accepted h.capabilities h.start h.length opened in there

  closing : Closes (table_view table) h.start h.length (for_good ((m ∷ t) ++ (last ∷ []))) story_at_last.es story_at_last.at n.answer
  closing = (story_at_last.goes_on runs_still n [] refl).closes close

  -- after the last call its PDU is over, or still open where its token was refused
  behind_close : n.events ≡ length gs
  behind_close = go n.answer refl judged
    where
      all : m ∷ (t ++ (last ∷ n ∷ [])) ≡ (m ∷ (t ++ (last ∷ []))) ++ (n ∷ [])
      all = ap (λ l. m ∷ l) (sym (append_assoc t (last ∷ []) (n ∷ [])))

      closed : phase ((m ∷ (t ++ (last ∷ []))) ++ (n ∷ [])) ≡ close_phase (running extent) n.answer
      closed = phase_last none_yet (m ∷ (t ++ (last ∷ []))) n ∙ ap (λ c. phase_after (phase (m ∷ (t ++ (last ∷ [])))) c n.answer) close ∙ ap (λ p. close_phase p n.answer) runs_still

      counted : PduStory true (table_view table) (m ∷ (t ++ (last ∷ []))) n [] extent → n.events ≡ length gs
      counted y =
          let (c, passed) = passed_still table (m ∷ (t ++ (last ∷ []))) n y.passed refl (quiet_close table n extent v close judged) in
          let (d, before) = passed_still table (m ∷ t) last passed refl (quiet_next table last none) in
          y.truthful.counted ∙ ap length (passed_shows table m h t gs before opened refl gives) ∙ length-shows table gs

      told : StoryBy (close_phase (running extent) n.answer) true (table_view table) (m ∷ (t ++ (last ∷ []))) n []
      told = subst (λ p. StoryBy p true (table_view table) (m ∷ (t ++ (last ∷ []))) n []) closed (law (m ∷ (t ++ (last ∷ []))) n [] all).story

      either : (b : Bool) → StoryBy (cond b (running extent) (over extent)) true (table_view table) (m ∷ (t ++ (last ∷ []))) n [] → PduStory true (table_view table) (m ∷ (t ++ (last ∷ []))) n [] extent
      either true y = y
      either false y = y

      go : (a : Answer) → n.answer ≡ a → Judged a n v → n.events ≡ length gs
      go (answer.Closed k) is j = counted (subst (λ a. StoryBy (close_phase (running extent) a) true (table_view table) (m ∷ (t ++ (last ∷ []))) n []) is told)
      go (answer.Refused f) is j = counted (either (number_of f.cause == 2) (subst (λ a. StoryBy (close_phase (running extent) a) true (table_view table) (m ∷ (t ++ (last ∷ []))) n []) is told))
      go (answer.Opened k) is j = absurd j
      go (answer.Gave e) is j = absurd j
      go (answer.Skipped k) is j = absurd j
      go answer.Done is j = absurd j

  -- an accepted table holds a value, whose events were given
  holds_value : (k : Closed) → n.answer ≡ answer.Closed k → (w : Value) × Holds table h.capabilities h.start h.length w × (shows table gs ≡ events w)
  holds_value k is =
      let (counts, long, w, declared, all) = closing.accepted k.events k.length is in
      (w, record { header = header_there; body = declared }, sym given_at_last ∙ all)

  -- the events that were given begin those of a value that the table holds
  given_begins : (w : Value) → Declared (table_view table) h.start h.length w → Begins (shows table gs) (events w)
  given_begins w declared =
      subst (λ es. Begins es (events w)) given_at_last
      (story_at_last.truthful.every w declared.formed (drop taken (take h.length input), sym declared.there ∙ sym (take-append-drop taken (take h.length input)) ∙ ap (λ l. l ++ drop taken (take h.length input)) shorter))
    where
      input : List ℕ
      input = from (table_view table) h.start

      taken : ℕ
      taken = story_at_last.at - h.start

      few : taken ≤ h.length
      few = let reach = story_at_last.truthful.reach in let told = story_at_last.truthful.told_bytes in omega arith

      shorter : take taken (take h.length input) ≡ take taken input
      shorter = take_less taken h.length input few

  -- a table that holds a value within the limits is closed
  whole_closes : (w : Value) → Declared (table_view table) h.start h.length w → Within w lending 0 0 0 → n.answer ≡ answer.Closed (record { events = length story_at_last.es; length = h.length })
  whole_closes w declared within = closing.accepts w declared (given_at_last ∙ sym before_last ∙ all)
    where
      l : LastMoment (m ∷ t)
      l = last_moment m t

      runs_before : phase (l.before ++ (l.last ∷ [])) ≡ running extent
      runs_before = ap phase (sym l.moments) ∙ runs_on

      split : m ∷ (t ++ (last ∷ n ∷ [])) ≡ l.before ++ (l.last ∷ (last ∷ n ∷ []))
      split = ap (λ k. k ++ (last ∷ n ∷ [])) l.moments ∙ append_assoc l.before (l.last ∷ []) (last ∷ n ∷ [])

      story : PduStory true (table_view table) l.before l.last (last ∷ n ∷ []) extent
      story = subst (λ p. StoryBy p true (table_view table) l.before l.last (last ∷ n ∷ [])) runs_before (law l.before l.last (last ∷ n ∷ []) split).story

      before_last : story.es ≡ shows table gs
      before_last = passed_shows table m h t gs story.passed opened (sym l.moments) gives

      read : OnWhole true w story.es (call.Next 0) last.answer
      read = subst (λ c. OnWhole true w story.es c last.answer) none.next ((story.goes_on runs_before last (n ∷ []) refl).reads w (record { declared = declared; within = within; clear = refl }))

      all : story.es ≡ events w
      all = go last.answer refl none.none
        where
          go : (a : Answer) → last.answer ≡ a → GaveNone a → story.es ≡ events w
          go answer.Done is g = read.done is
          go (answer.Refused f) is g = let (number, cramped) = read.refused f is in let z : true ≡ false = cramped.copies in absurd (cc)
          go (answer.Opened k) is g = absurd g
          go (answer.Gave e) is g = absurd g
          go (answer.Skipped k) is g = absurd g
          go (answer.Closed k) is g = absurd g

-- ---- what the verdict means

judged_as : (v : Verdict) (n : Moment) {a : Answer} → n.answer ≡ a → Judged n.answer n v → Judged a n v
judged_as v n is j = subst (λ a. Judged a n v) is j

events_told : (n : Moment) (v : Verdict) → Judged n.answer n v → v.events ≡ n.events
events_told n v j = go n.answer j
  where
    go : (a : Answer) → Judged a n v → v.events ≡ n.events
    go (answer.Closed k) j = ap (λ (v : Verdict). v.events) j
    go (answer.Refused f) j = ap (λ (v : Verdict). v.events) j
    go (answer.Opened k) j = absurd j
    go (answer.Gave e) j = absurd j
    go (answer.Skipped k) j = absurd j
    go answer.Done j = absurd j

closed_at_0 : (n : Moment) (v : Verdict) → Judged n.answer n v → v.number ≡ 0 → (k : Closed) × (n.answer ≡ answer.Closed k)
closed_at_0 n v j none = go n.answer refl j
  where
    go : (a : Answer) → n.answer ≡ a → Judged a n v → (k : Closed) × (n.answer ≡ answer.Closed k)
    go (answer.Closed k) is j = (k, is)
    go (answer.Refused f) is j = absurd (number_some f.cause (sym (ap (λ (v : Verdict). v.number) j) ∙ none))
    go (answer.Opened k) is j = absurd j
    go (answer.Gave e) is j = absurd j
    go (answer.Skipped k) is j = absurd j
    go answer.Done is j = absurd j

pub means : {table : List ℕ} {old new : List Slot} {v : Verdict} → Surveyed table old v new → Means table old v new
means {table} {old} {new} {v} s = go s.reads s.lawful s.judged s.slots s.inside
  where
    go : {told : List Moment} {gs : List GivenEvent} {n : Moment} → Reads told gs n → Law true (table_view table) told → Judged n.answer n v → new ≡ laid gs old → EventsInside (length table) gs → Means table old v new
    go (not_opened m is_open (f, refused)) law judged slots inside = record {
      given = [];
      counted = events_told m v judged ∙ (subst (λ p. StoryBy p true (table_view table) [] m []) (ap (λ c. phase_after none_yet c m.answer) is_open ∙ ap (open_phase none_yet) refused) (law [] m [] refl).story).no_events;
      slots = slots;
      inside = inside;
      accepted = λ none_refused. absurd (number_some f.cause (sym (ap (λ (v : Verdict). v.number) (judged_as v m refused judged)) ∙ none_refused));
      begins = λ caps start size w holds. (events w, refl);
      in_turn = open_in_turn m v is_open (law [] m [] refl).turn judged;
      whole = λ caps start size w holds within. let again = ((law [] m [] refl).opens is_open).accepts refl refl caps start size holds.header in absurd (cc);
    }
    go (to_the_end m {h} t gs last n is_open opened gives none close ends) law judged slots inside = record {
      given = gs;
      counted = events_told n v judged ∙ behind_close table v m h t gs last n law is_open opened gives none close judged;
      slots = slots;
      inside = inside;
      accepted = λ none_refused.
          let (k, is) = closed_at_0 n v judged none_refused in
          let (w, holds, told) = holds_value table v m h t gs last n law is_open opened gives none close judged k is in
          record { caps = h.capabilities; start = h.start; size = h.length; value = w; holds = holds; told = told; taken = ap (λ (v : Verdict). v.taken) (judged_as v n is judged) ∙ ends k is };
      begins = λ caps start size w holds. given_begins table v m h t gs last n law is_open opened gives none close judged w (declared_of m caps start size w law is_open opened holds);
      in_turn = close_in_turn ((m ∷ t) ++ (last ∷ [])) (record { start = h.start; length = h.length }) n v (runs_still table v m h t gs last n law is_open opened gives none close judged) close
          (law ((m ∷ t) ++ (last ∷ [])) n [] (ap (λ l. m ∷ l) (sym (append_assoc t (last ∷ []) (n ∷ []))))).turn judged;
      whole = λ caps start size w holds within.
          let declared = declared_of m caps start size w law is_open opened holds in
          ap (λ (v : Verdict). v.number) (judged_as v n (whole_closes table v m h t gs last n law is_open opened gives none close judged w declared within) judged);
    }
