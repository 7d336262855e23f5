-- What the law rules out, each by the clause that it breaks.
use Rattle.std.proofs.Common.{◌≡◌, ℕ, zero, suc, ◌+◌, ◌-◌, ◌≤◌, take, Bool, true, false, cond, ◌==◌, append-nil, inl, inr, List, [], ◌∷◌, ◌++◌, length, Some, None, refl, sym, ap, ◌∙◌, subst, arith}
use Rattle.read.specs.Reader.{View}
use Rattle.read.specs.declared.Taken.TheVariants.{Copied}
use Rattle.format.specs.Numbers.{number_of}
use Rattle.format.specs.declared.width.Width.TheVariants.{W8, W16, W32, W64}
use Rattle.format.specs.declared.refusal.Cause.{Cause}
use Rattle.format.specs.declared.refusal.Cause.TheVariants as cause
use Rattle.format.specs.declared.refusal.ReadError.TheVariants as error
use Rattle.format.specs.declared.refusal.Refusal.{Refusal}
use Rattle.values.specs.Values.{Value, Event, encoding, events, count_encoding, null, yes_value, no_value, integer, real, bytes, text, array, object, template, no_values, value, is_null, is_true, some_bytes, array_begin, array_end, Formed}
use Rattle.bunser.specs.declared.Header.{Header}
use Rattle.de.specs.declared.event.Event.{Event as GivenEvent}
use Rattle.de.specs.declared.event.Event.TheVariants as event
use Rattle.de.specs.declared.pdu.Extent.{Extent}
use Rattle.de.specs.declared.entry.Call.TheVariants as call
use Rattle.de.specs.declared.entry.Answer.TheVariants as answer
use Rattle.de.specs.Made.{Moment}
use Rattle.de.specs.Shown.{shown}
use Rattle.runs.specs.Examples.{slice}
use Rattle.runs.specs.Law.{Law, Lawful, Begins, from, all_bytes, Passed, opens, moves, Agrees, HandedOut, RefusedBy, RefusedAgrees, stretch, Stretched, ForGoodOrRoom, CloseAsked, HeaderAt, Declared, Whole, Ended, PduStory, Unclosed}
use Rattle.runs.specs.Unlawful.{told, two_pdu, two_extent, two_opened, three_pdu, three_opened, three_begun, two_skipped, both_skipped, Unlawful, RulesOut, extent, refused, opened, gave, null_pdu, bytes_pdu, gave_bytes, begun, five_begun}
use Rattle.runs.proofs.Moments.{last_same}
use Rattle.runs.proofs.law_examples_hold.Goals as goal

-- ---- the moments of a list

at_first : {lends : Bool} {v : View} {m : Moment} {k : List Moment} → Law lends v (m ∷ k) → Lawful lends v [] m k
at_first law = law [] _ _ refl

at_second : {lends : Bool} {v : View} {m n : Moment} {k : List Moment} → Law lends v (m ∷ n ∷ k) → Lawful lends v (m ∷ []) n k
at_second {m = m} law = law (m ∷ []) _ _ refl

at_third : {lends : Bool} {v : View} {m n o : Moment} {k : List Moment} → Law lends v (m ∷ n ∷ o ∷ k) → Lawful lends v (m ∷ n ∷ []) o k
at_third {m = m} {n = n} law = law (m ∷ n ∷ []) _ _ refl

-- ---- refusals

abbrev Same : ℕ → ℕ → Type 0
Same n m = n ≡ m

number_is : {n : ℕ} (c : Cause) (p : ℕ) → RefusedBy n (refused c p) → number_of c ≡ n
number_is {n} c p (f, is, number) = let same : record { place = p; cause = c } ≡ f = cc in subst (λ (g : Refusal). number_of g.cause ≡ n) (sym same) number

number_same : {f g : Refusal} → answer.Refused f ≡ answer.Refused g → number_of f.cause ≡ number_of g.cause
number_same {f} {g} e = let same : f ≡ g = cc in ap (λ (f : Refusal). number_of f.cause) same

-- ---- what has passed

-- an accepted open passes nothing
none_passed : {lends : Bool} {v : View} {l : List Moment} {es : List Event} {c : ℕ} (h : List Moment) (m : Moment) (k : Header) → Passed lends v l es c → l ≡ h ++ (m ∷ []) → m.answer ≡ answer.Opened k →
    (es ≡ []) × (c ≡ k.start)
none_passed h m k (opens g n {k = j} a b) is answered =
    let (same, lasts) = last_same g h is in
    let headers : answer.Opened j ≡ answer.Opened k = sym a ∙ ap (λ (m : Moment). m.answer) lasts ∙ answered in
    let same_header : j ≡ k = cc in
    (refl, ap (λ (k : Header). k.start) same_header)
none_passed {lends} {v} h m k (moves g n {c = c} {d = d} more passed agrees) is answered =
    let (same, lasts) = last_same g h is in
    absurd (subst (λ a. Agrees lends v n a more c d) (ap (λ (m : Moment). m.answer) lasts ∙ answered) agrees)

-- and ends where the body begins
opens_there : {lends : Bool} {v : View} {l : List Moment} {es : List Event} {c : ℕ} (h : List Moment) (m : Moment) (k : Header) → Passed lends v l es c → l ≡ h ++ (m ∷ []) → m.answer ≡ answer.Opened k →
    m.count ≡ k.start
opens_there h m k (opens g n {k = j} a b) is answered =
    let (same, lasts) = last_same g h is in
    let headers : answer.Opened j ≡ answer.Opened k = sym a ∙ ap (λ (m : Moment). m.answer) lasts ∙ answered in
    let same_header : j ≡ k = cc in
    sym (ap (λ (m : Moment). m.count) lasts) ∙ b ∙ ap (λ (k : Header). k.start) same_header
opens_there {lends} {v} h m k (moves g n {c = c} {d = d} more passed agrees) is answered =
    let (same, lasts) = last_same g h is in
    absurd (subst (λ a. Agrees lends v n a more c d) (ap (λ (m : Moment). m.answer) lasts ∙ answered) agrees)

-- a given event passes, and hands out a part as it should
record OnePassed (lends : Bool) (v : View) (h : List Moment) (m : Moment) (e : GivenEvent) (es : List Event) (d : ℕ) : Type 0 where
  before : List Event
  at : ℕ
  passed : Passed lends v h before at
  all : es ≡ before ++ (shown (all_bytes v) m.text e ∷ [])
  count : d ≡ m.count
  handed : HandedOut lends e

one_passed : {lends : Bool} {v : View} {l : List Moment} {es : List Event} {d : ℕ} (h : List Moment) (m : Moment) (e : GivenEvent) → Passed lends v l es d → l ≡ h ++ (m ∷ []) → m.answer ≡ answer.Gave e →
    OnePassed lends v h m e es d
one_passed h m e (opens g n {k = j} a b) is gives =
    let (same, lasts) = last_same g h is in
    let z : answer.Opened j ≡ answer.Gave e = sym a ∙ ap (λ (m : Moment). m.answer) lasts ∙ gives in
    absurd (cc)
one_passed {lends} {v} h m e (moves g n {es = es} {c = c} {d = d} more passed agrees) is gives =
    let (same, lasts) = last_same g h is in
    let (handed, comes, at) = subst (λ a. Agrees lends v n a more c d) (ap (λ (m : Moment). m.answer) lasts ∙ gives) agrees in
    record {
      before = es;
      at = c;
      passed = subst (λ h. Passed lends v h es c) same passed;
      all = ap (λ l. es ++ l) (comes ∙ ap (λ (m : Moment). shown (all_bytes v) m.text e ∷ []) lasts);
      count = at ∙ ap (λ (m : Moment). m.count) lasts;
      handed = handed;
    }

-- behind the opening of a PDU that begins at 8, and the first event
one_event : {lends : Bool} {v : View} {es : List Event} {d : ℕ} (m n : Moment) (k : Header) (e : GivenEvent) → Passed lends v (m ∷ n ∷ []) es d → m.answer ≡ answer.Opened k → n.answer ≡ answer.Gave e →
    (es ≡ shown (all_bytes v) n.text e ∷ []) × (d ≡ n.count)
one_event {v = v} m n k e passed answered gives =
    let p = one_passed (m ∷ []) n e passed refl gives in
    let (none, at) = none_passed [] m k p.passed refl answered in
    (p.all ∙ ap (λ l. l ++ (shown (all_bytes v) n.text e ∷ [])) none, p.count)

-- ---- values

some_event : (w : Value) → events w ≡ [] → ⊥
some_event null h = absurd (cc)
some_event yes_value h = absurd (cc)
some_event no_value h = absurd (cc)
some_event (integer w z) h = absurd (cc)
some_event (real n) h = absurd (cc)
some_event (bytes w bs) h = absurd (cc)
some_event (text w bs) h = absurd (cc)
some_event (array w vs) h = absurd (cc)
some_event (object w ps) h = absurd (cc)
some_event (template w ks u rs) h = absurd (cc)

-- what has the event of a null has its one byte
only_null : (w : Value) → events w ≡ is_null ∷ [] → length (encoding w) ≡ 1
only_null null h = refl
only_null yes_value h = absurd (cc)
only_null no_value h = absurd (cc)
only_null (integer w z) h = absurd (cc)
only_null (real n) h = absurd (cc)
only_null (bytes w bs) h = absurd (cc)
only_null (text w bs) h = absurd (cc)
only_null (array w vs) h = absurd (cc)
only_null (object w ps) h = absurd (cc)
only_null (template w ks u rs) h = absurd (cc)

abbrev first_byte : List ℕ → ℕ
first_byte [] = 0
first_byte (b ∷ bs) = b

tag_most : (w : Value) → first_byte (encoding w) ≤ 0x0d
tag_most null = omega arith
tag_most yes_value = omega arith
tag_most no_value = omega arith
tag_most (integer W8 z) = omega arith
tag_most (integer W16 z) = omega arith
tag_most (integer W32 z) = omega arith
tag_most (integer W64 z) = omega arith
tag_most (real n) = omega arith
tag_most (bytes w bs) = omega arith
tag_most (text w bs) = omega arith
tag_most (array w vs) = omega arith
tag_most (object w ps) = omega arith
tag_most (template w ks u rs) = omega arith

none_begins_so : (w : Value) → Begins (0x0e ∷ []) (encoding w) → ⊥
none_begins_so w (rest, h) = let first : first_byte (encoding w) ≡ 0x0e = ap first_byte h in let most = tag_most w in absurd (omega arith)

-- ---- the PDU of a null

null_declared : Declared null_pdu 8 1 null
null_declared = record { formed = tt; long = refl; there = refl }

null_whole : (lends : Bool) → Whole lends null_pdu 8 1 null
null_whole lends = record { declared = null_declared; within = tt; clear = refl }

header_here : HeaderAt null_pdu 0 0 8 1
unfolding count_encoding
header_here = record { flags = 0 ∷ 0 ∷ 0 ∷ 0 ∷ []; four = refl; capabilities = refl; width = W8; fits = omega arith; there = (0x0a ∷ [], refl); begins = refl; clear = refl; bounded = omega arith }

header_nowhere : {n start size : ℕ} → HeaderAt (slice []) 0 n start size → ⊥
header_nowhere h = let (rest, e) = h.there in absurd (cc)

module _ (lends : Bool) where
  -- what holds after the opening, and after the event
  behind_opened : {k : List Moment} → Law lends null_pdu (opened ∷ k) → PduStory lends null_pdu [] opened k extent
  behind_opened law = (at_first law).story

  behind_gave : {k : List Moment} → Law lends null_pdu (opened ∷ gave ∷ k) → PduStory lends null_pdu (opened ∷ []) gave k extent
  behind_gave law = (at_second law).story

  nothing : {k : List Moment} (law : Law lends null_pdu (opened ∷ k)) → ((behind_opened law).es ≡ []) × ((behind_opened law).at ≡ 8)
  nothing law = none_passed [] opened _ (behind_opened law).passed refl refl

  one : {k : List Moment} (law : Law lends null_pdu (opened ∷ gave ∷ k)) → ((behind_gave law).es ≡ is_null ∷ []) × ((behind_gave law).at ≡ 9)
  one law = one_event opened gave _ event.Null (behind_gave law).passed refl refl

  null_ended : {k : List Moment} (law : Law lends null_pdu (opened ∷ gave ∷ k)) → Ended null_pdu 8 (behind_gave law).es (behind_gave law).at null
  null_ended law = let (all, at) = one law in record { formed = tt; bytes = ap (λ c. take (c - 8) (0x0a ∷ [])) (sym at); told = sym all }

  in_turn_of_next : ForGoodOrRoom lends (record { place = 8; cause = cause.OutOfTurn }) → ⊥
  in_turn_of_next (inl h) = let z : false ≡ true = h in absurd (cc)
  in_turn_of_next (inr (copies, h)) = let z : Same 1 14 = h in absurd (omega arith)

  own_closed : CloseAsked (Some extent) None extent (refused cause.Token 8) → ⊥
  own_closed (inl (own, known)) = let z : false ≡ true = known _ refl in absurd (cc)
  own_closed (inr (other, is)) = other refl

  other_closed : CloseAsked (Some extent) None (record { start = 8; length = 2 }) (refused cause.Unfinished 8) → ⊥
  other_closed (inl (own, known)) = let same : extent ≡ record { start = 8; length = 2 } = cc in let h : Same 1 2 = ap (λ (e : Extent). e.length) same in absurd (omega arith)
  other_closed (inr (other, is)) = let h : Same 15 2 = number_is cause.Unfinished 8 is in absurd (omega arith)

  none_closed : CloseAsked None None extent (refused cause.OutOfTurn 0) → ⊥
  none_closed (inl (own, known)) = absurd (cc)
  none_closed (inr (other, is)) = let h : Same 1 2 = number_is cause.OutOfTurn 0 is in absurd (omega arith)

  unclosed_by : {c : ℕ} {es : List Event} → Unclosed null_pdu 8 es c (record { place = 8; cause = cause.Depth }) → ⊥
  unclosed_by (inl (number, none)) = absurd (omega arith)
  unclosed_by (inr (number, w, ended)) = absurd (omega arith)

  -- the body of two bytes, behind its null
  behind_null : {k : List Moment} (law : Law lends two_pdu (two_opened ∷ gave ∷ k)) → PduStory lends two_pdu (two_opened ∷ []) gave k two_extent
  behind_null law = (at_second law).story

  null_passed : {k : List Moment} (law : Law lends two_pdu (two_opened ∷ gave ∷ k)) → (behind_null law).es ≡ is_null ∷ []
  null_passed law = (one_event two_opened gave _ event.Null (behind_null law).passed refl refl).0

  rules_out : RulesOut lends
  rules_out = record {
    answer_of_skip = λ law. (at_second law).suits;
    next_unopened = λ law. let h : Same 12 1 = number_is cause.NoKeys 0 (at_first law).turn in absurd (omega arith);
    skip_unopened = λ law. let h : Same 2 1 = number_is cause.Token 0 (at_first law).turn in absurd (omega arith);
    open_twice = λ law. let h : Same 2 1 = number_is cause.Token 8 (at_second law).turn in absurd (omega arith);
    close_unopened = λ law. none_closed (at_first law).turn;
    close_of_another = λ law. other_closed (at_second law).turn;
    close_of_this = λ law. own_closed (at_second law).turn;
    open_in_turn = λ law. let z : false ≡ true = (at_first law).turn _ refl in absurd (cc);
    next_in_turn = λ law. in_turn_of_next ((at_second law).turn _ refl);
    skip_in_turn = λ law. let z : false ≡ true = (at_second law).turn _ refl in absurd (cc);
    another_comes = λ law. let h : Same 9 3 = number_same (at_second law).turn in absurd (omega arith);
    more_is_taken = λ law. let h : Same 1 0 = (at_second law).still.again _ refl in absurd (omega arith);
    next_takes = λ law. let h : Same 1 0 = ((at_first law).still.out_of_turn _ refl (omega arith)).1 in absurd (omega arith);
    next_elsewhere = λ law. let h : Same 1 0 = ((at_first law).still.out_of_turn _ refl (omega arith)).0 in absurd (omega arith);
    close_takes = λ law. let h : Same 10 9 = (at_third law).still.closing extent refl in absurd (omega arith);
    close_elsewhere = λ law. let h : Same 7 8 = ((at_second law).still.out_of_turn _ refl (omega arith)).0 in absurd (omega arith);
    header_there = λ law. let z = ((at_first law).opens refl).accepts refl refl 0 8 1 header_here in absurd (cc);
    no_header = λ law. let (free, closed, there) = ((at_first law).opens refl).accepted 0 8 1 refl in header_nowhere there;
    opened_refused = λ law. let (free, closed, there) = ((at_second law).opens refl).accepted 0 8 1 refl in absurd (cc);
    opened_over = λ law. let (free, closed, there) = ((at_second law).opens refl).accepted 0 16 1 refl in absurd (cc);
    open_takes = λ law. let h : Same 9 8 = opens_there [] _ _ (at_first law).story.passed refl refl in absurd (omega arith);
    done_unopened = λ law. let (f, is) = (at_first law).story.refuses in absurd (cc);
    events_unopened = λ law. let h : Same 1 0 = (at_first law).story.no_events in absurd (omega arith);
    bytes_unopened = λ law. let h : Same 1 0 = (at_first law).story.no_bytes in absurd (omega arith);
    events_told = λ law. let y = (at_first law).story in let (none, at) = none_passed [] _ _ y.passed refl refl in let h : Same 1 0 = y.truthful.counted ∙ ap length none in absurd (omega arith);
    bytes_told = λ law. let h : Same 1 0 = (at_first law).story.truthful.told_bytes in absurd (omega arith);
    beyond_end = λ law. let h : 10 ≤ 8 + 1 = (at_second law).story.inside (λ e. absurd (cc)) in absurd (omega arith);
    another_event = λ law.
        let y = (at_second law).story in
        let (all, at) = one_event opened _ _ event.True y.passed refl refl in
        let (rest, h) = y.truthful.every null tt (subst (λ c. Begins (take (c - 8) (from null_pdu 8)) (encoding null)) (sym at) ([], refl)) in
        let z : is_null ∷ [] ≡ is_true ∷ rest = h ∙ ap (λ l. l ++ rest) all in
        absurd (cc);
    next_refused = λ law. let (number, cramped) = (((behind_opened law).goes_on refl _ _ refl).reads null (null_whole lends)).refused _ refl in let h : Same 10 14 = number in absurd (omega arith);
    skip_refused = λ law. let z = ((behind_opened law).goes_on refl _ _ refl).reads null (null_whole lends) in absurd (cc);
    end_untold = λ law. let z : answer.Skipped 1 ≡ answer.Skipped 0 = ((behind_gave law).goes_on refl _ _ refl).at_end refl null (null_ended law) tt in let h : Same 1 0 = cc in absurd (omega arith);
    end_of_nothing = λ law. let (w, ended) = ((behind_opened law).goes_on refl _ _ refl).only_there refl in some_event w (ended.told ∙ (nothing law).0);
    done_at_once = λ law. some_event null (sym ((((behind_opened law).goes_on refl _ _ refl).reads null (null_whole lends)).done refl) ∙ (nothing law).0);
    event_again = λ law. let z = ((behind_gave law).goes_on refl _ _ refl).at_end refl null (null_ended law) tt in absurd (cc);
    more_events = λ law. let z = (((behind_gave law).goes_on refl _ _ refl).reads null (null_whole lends)).ended (one law).0 in absurd (cc);
    close_refused = λ law. let z = (((behind_gave law).goes_on refl _ _ refl).closes refl).accepts null null_declared (one law).0 in absurd (cc);
    close_refused_by = λ law. unclosed_by ((((behind_opened law).goes_on refl _ _ refl).closes refl).refused refl _ refl);
    close_too_soon = λ law. let h : Same 1 0 = ((((behind_opened law).goes_on refl _ _ refl).closes refl).accepted 1 1 refl).0 ∙ ap length (nothing law).0 in absurd (omega arith);
    close_long = λ law. let (n, l, w, declared, all) = (((behind_gave law).goes_on refl _ _ refl).closes refl).accepted 1 2 refl in let h : Same 2 1 = l in absurd (omega arith);
    close_short = λ law.
        let (n, l, w, declared, all) = (((behind_null law).goes_on refl _ _ refl).closes refl).accepted 1 2 refl in
        let h : Same 1 2 = sym (only_null w (sym all ∙ null_passed law)) ∙ declared.long in
        absurd (omega arith);
    no_value = λ law.
        let y = (at_second law).story in
        let (all, at) = one_event opened _ _ event.Null y.passed refl refl in
        let (w, formed, begins) = y.truthful.some in
        none_begins_so w (subst (λ c. Begins (take (c - 8) (0x0e ∷ [])) (encoding w)) at begins);
  }

-- ---- the PDU of a byte string

text_whole : Whole false bytes_pdu 8 4 (bytes W8 (0x61 ∷ []))
unfolding count_encoding
text_whole = record { declared = record { formed = (omega arith, (omega arith, tt)); long = refl; there = refl }; within = tt; clear = refl }

no_room : Unlawful false bytes_pdu (gave_bytes 0 Copied)
no_room law =
    let y = (at_first law).story in
    let (none, at) = none_passed [] _ _ y.passed refl refl in
    let wanting = ((y.goes_on refl _ _ refl).reads (bytes W8 (0x61 ∷ [])) text_whole).cramped (record {
      copies = refl;
      event = some_bytes (0x61 ∷ []);
      next = ([], ap (λ es. (es ++ (some_bytes (0x61 ∷ []) ∷ [])) ++ []) (sym none));
      text = 0x61 ∷ [];
      handed = refl;
      long = omega arith;
    }) in
    let (f, is, number) = wanting in
    absurd (cc)

-- ---- five events of one byte

too_many : (lends : Bool) → Unlawful lends null_pdu five_begun
too_many lends law =
    let y = (law (opened ∷ begun 1 ∷ begun 2 ∷ begun 3 ∷ begun 4 ∷ []) (begun 5) [] refl).story in
    let e = one_passed (opened ∷ begun 1 ∷ begun 2 ∷ begun 3 ∷ begun 4 ∷ []) (begun 5) event.ArrayBegin y.passed refl refl in
    let d = one_passed (opened ∷ begun 1 ∷ begun 2 ∷ begun 3 ∷ []) (begun 4) event.ArrayBegin e.passed refl refl in
    let c = one_passed (opened ∷ begun 1 ∷ begun 2 ∷ []) (begun 3) event.ArrayBegin d.passed refl refl in
    let b = one_passed (opened ∷ begun 1 ∷ []) (begun 2) event.ArrayBegin c.passed refl refl in
    let (a, at) = one_event opened (begun 1) _ event.ArrayBegin b.passed refl refl in
    let long : length y.es ≡ 5 = ap length (e.all ∙ ap next (d.all ∙ ap next (c.all ∙ ap next (b.all ∙ ap next a)))) in
    let few = y.truthful.few in
    let nine : y.at ≡ 9 = e.count in
    absurd (omega arith)
  where
    next : List Event → List Event
    next es = es ++ (array_begin ∷ [])

-- ---- a skip that goes on over two values

-- what a refused skip has passed
record SkipPassed (lends : Bool) (v : View) (h : List Moment) (f : Refusal) (es : List Event) (d : ℕ) : Type 0 where
  before : List Event
  more : List Event
  at : ℕ
  passed : Passed lends v h before at
  all : es ≡ before ++ more
  stretched : stretch 0 more ≡ length more
  place : d ≤ f.place

skip_passed : {lends : Bool} {v : View} {l : List Moment} {es : List Event} {d : ℕ} (h : List Moment) (m : Moment) (f : Refusal) → Passed lends v l es d → l ≡ h ++ (m ∷ []) → m.call ≡ call.Skip →
    m.answer ≡ answer.Refused f → SkipPassed lends v h f es d
skip_passed h m f (opens g n {k = j} a b) is skips answered =
    let (same, lasts) = last_same g h is in
    let z : answer.Opened j ≡ answer.Refused f = sym a ∙ ap (λ (m : Moment). m.answer) lasts ∙ answered in
    absurd (cc)
skip_passed {lends} {v} h m f (moves g n {es = es} {c = c} {d = d} more passed agrees) is skips answered =
    let (same, lasts) = last_same g h is in
    let by_answer : RefusedAgrees n.call f more c d = subst (λ a. Agrees lends v n a more c d) (ap (λ (m : Moment). m.answer) lasts ∙ answered) agrees in
    let (stretched, after, place) = subst (λ q. RefusedAgrees q f more c d) (ap (λ (m : Moment). m.call) lasts ∙ skips) by_answer in
    record { before = es; more = more; at = c; passed = subst (λ h. Passed lends v h es c) same passed; all = refl; stretched = stretched; place = place }

-- what a skip has passed that was not refused
record SkippedPassed (lends : Bool) (v : View) (h : List Moment) (m : Moment) (n : ℕ) (es : List Event) (d : ℕ) : Type 0 where
  before : List Event
  more : List Event
  at : ℕ
  passed : Passed lends v h before at
  all : es ≡ before ++ more
  stretched : Stretched more
  place : d ≡ cond (n == 0) at m.count

skipped_passed : {lends : Bool} {v : View} {l : List Moment} {es : List Event} {d : ℕ} (h : List Moment) (m : Moment) (n : ℕ) → Passed lends v l es d → l ≡ h ++ (m ∷ []) →
    m.answer ≡ answer.Skipped n → SkippedPassed lends v h m n es d
skipped_passed h m n (opens g o {k = j} a b) is answered =
    let (same, lasts) = last_same g h is in
    let z : answer.Opened j ≡ answer.Skipped n = sym a ∙ ap (λ (m : Moment). m.answer) lasts ∙ answered in
    absurd (cc)
skipped_passed {lends} {v} h m n (moves g o {es = es} {c = c} {d = d} more passed agrees) is answered =
    let (same, lasts) = last_same g h is in
    let (count, stretched, place) = subst (λ a. Agrees lends v o a more c d) (ap (λ (m : Moment). m.answer) lasts ∙ answered) agrees in
    record {
      before = es;
      more = more;
      at = c;
      passed = subst (λ h. Passed lends v h es c) same passed;
      all = refl;
      stretched = stretched;
      place = place ∙ ap (λ (m : Moment). cond (n == 0) c m.count) lasts;
    }

whole_stretch : (more : List Event) → Stretched more → stretch 0 more ≡ length more
whole_stretch [] h = refl
whole_stretch (e ∷ es) h = subst (λ l. stretch 0 (e ∷ l) ≡ suc (length es)) (append-nil es) (h [])

-- a refused next has passed nothing
next_passed : {lends : Bool} {v : View} {l : List Moment} {es : List Event} {d : ℕ} (h : List Moment) (m : Moment) (f : Refusal) (room : ℕ) → Passed lends v l es d → l ≡ h ++ (m ∷ []) →
    m.call ≡ call.Next room → m.answer ≡ answer.Refused f → (at : ℕ) × Passed lends v h es at
next_passed h m f room (opens g n {k = j} a b) is nexts answered =
    let (same, lasts) = last_same g h is in
    let z : answer.Opened j ≡ answer.Refused f = sym a ∙ ap (λ (m : Moment). m.answer) lasts ∙ answered in
    absurd (cc)
next_passed {lends} {v} h m f room (moves g n {es = es} {c = c} {d = d} more passed agrees) is nexts answered =
    let (same, lasts) = last_same g h is in
    let by_answer : RefusedAgrees n.call f more c d = subst (λ a. Agrees lends v n a more c d) (ap (λ (m : Moment). m.answer) lasts ∙ answered) agrees in
    let (none, at) = subst (λ q. RefusedAgrees q f more c d) (ap (λ (m : Moment). m.call) lasts ∙ nexts) by_answer in
    let all : es ++ more ≡ es = ap (λ l. es ++ l) none ∙ append-nil es in
    (c, subst (λ es. Passed lends v h es c) (sym all) (subst (λ h. Passed lends v h es c) same passed))

refused_passes : (lends : Bool) → Unlawful lends three_pdu (three_opened ∷ told (call.Next 0) (refused (cause.Read error.Negative) 8) 8 1 0 ∷ [])
refused_passes lends law =
    let y = (at_second law).story in
    let (at, before) = next_passed (three_opened ∷ []) _ _ 0 y.passed refl refl refl in
    let (none, begins) = none_passed [] _ _ before refl refl in
    let h : Same 1 0 = y.truthful.counted ∙ ap length none in
    absurd (omega arith)

lending_has_room : ForGoodOrRoom true (record { place = 8; cause = cause.Read error.Room }) → ⊥
lending_has_room (inl h) = let z : false ≡ true = h in absurd (cc)
lending_has_room (inr (copies, number)) = let z : true ≡ false = copies in absurd (cc)

abbrev three : Value
three = array W8 (value null (value null (value null no_values)))

three_formed : Formed three
three_formed = (omega arith, (tt, (tt, (tt, tt))))

three_begins : (n : ℕ) → n ≤ 5 → Begins (take n (from three_pdu 8)) (encoding three)
unfolding count_encoding
three_begins zero h = (_, refl)
three_begins (suc zero) h = (_, refl)
three_begins (suc (suc zero)) h = (_, refl)
three_begins (suc (suc (suc zero))) h = (_, refl)
three_begins (suc (suc (suc (suc zero)))) h = (_, refl)
three_begins (suc (suc (suc (suc (suc zero))))) h = (_, refl)
three_begins (suc (suc (suc (suc (suc (suc n)))))) h = absurd (omega arith)

-- a null is a whole stretch
one_null : (more rest behind : List Event) → length more ≡ 2 → is_null ∷ behind ≡ more ++ rest → stretch 0 more ≡ length more → ⊥
one_null [] rest behind two is stretched = absurd (omega (arith, two))
one_null (e ∷ more) rest behind two is stretched =
    let first : is_null ≡ e = cc in
    let h : Same 1 2 = ap (λ e. stretch 0 (e ∷ more)) first ∙ stretched ∙ two in
    absurd (omega arith)

beyond_value : (lends : Bool) → Unlawful lends three_pdu (three_opened ∷ three_begun ∷ two_skipped ∷ [])
beyond_value lends law =
    let y = (at_third law).story in
    let s = skip_passed (three_opened ∷ three_begun ∷ []) two_skipped _ y.passed refl refl refl in
    let (first, at) = one_event three_opened three_begun _ event.ArrayBegin s.passed refl refl in
    let all : y.es ≡ array_begin ∷ s.more = s.all ∙ ap (λ es. es ++ s.more) first in
    let counted : Same 3 (length y.es) = y.truthful.counted in
    let long : Same 3 (suc (length s.more)) = counted ∙ ap length all in
    let place : y.at ≤ 13 = s.place in
    let (rest, begins) = y.truthful.every three three_formed (three_begins (y.at - 8) (omega arith)) in
    let going_on : array_begin ∷ is_null ∷ is_null ∷ is_null ∷ array_end ∷ [] ≡ array_begin ∷ (s.more ++ rest) = begins ∙ ap (λ es. es ++ rest) all in
    let behind : is_null ∷ is_null ∷ is_null ∷ array_end ∷ [] ≡ s.more ++ rest = cc in
    one_null s.more rest _ (omega arith) behind s.stretched

beyond_value_again : (lends : Bool) → Unlawful lends three_pdu (three_opened ∷ three_begun ∷ both_skipped ∷ [])
beyond_value_again lends law =
    let y = (at_third law).story in
    let s = skipped_passed (three_opened ∷ three_begun ∷ []) both_skipped _ y.passed refl refl in
    let (first, at) = one_event three_opened three_begun _ event.ArrayBegin s.passed refl refl in
    let all : y.es ≡ array_begin ∷ s.more = s.all ∙ ap (λ es. es ++ s.more) first in
    let counted : Same 3 (length y.es) = y.truthful.counted in
    let long : Same 3 (suc (length s.more)) = counted ∙ ap length all in
    let place : y.at ≡ 13 = s.place in
    let (rest, begins) = y.truthful.every three three_formed (three_begins (y.at - 8) (omega arith)) in
    let going_on : array_begin ∷ is_null ∷ is_null ∷ is_null ∷ array_end ∷ [] ≡ array_begin ∷ (s.more ++ rest) = begins ∙ ap (λ es. es ++ rest) all in
    let behind : is_null ∷ is_null ∷ is_null ∷ array_end ∷ [] ≡ s.more ++ rest = cc in
    one_null s.more rest _ (omega arith) behind (whole_stretch s.more s.stretched)

pub returns : goal.returns
returns c = record {
  rules_out = rules_out;
  copied_by_lending = λ law. (one_passed (_ ∷ []) _ _ (at_second law).story.passed refl refl).handed;
  lent_by_copying = λ law. (one_passed (_ ∷ []) _ _ (at_second law).story.passed refl refl).handed;
  text_by_lending = λ law. (one_passed (_ ∷ []) _ _ (at_second law).story.passed refl refl).handed;
  text_by_copying = λ law. (one_passed (_ ∷ []) _ _ (at_second law).story.passed refl refl).handed;
  key_by_lending = λ law. (one_passed (_ ∷ _ ∷ []) _ _ (at_third law).story.passed refl refl).handed;
  key_by_copying = λ law. (one_passed (_ ∷ _ ∷ []) _ _ (at_third law).story.passed refl refl).handed;
  room_wanting = no_room;
  room_of_lending = λ law. lending_has_room ((at_second law).turn _ refl);
  refused_passes = refused_passes;
  few_events = too_many;
  beyond_value = beyond_value;
  beyond_value_again = beyond_value_again;
}
