-- A text whose tag and length were taken: its bytes are read, in the same step or in a later one.
use Rattle.std.proofs.Common.{◌≡◌, ℕ, suc, Bool, true, false, ◌⊎◌, inl, inr, List, [], ◌∷◌, ◌++◌, length, take, drop, pos, Some, None, Option, sym, refl, ap, ◌∙◌, subst, append_assoc, arith}
use Rattle.std.proofs.lemmas.List.{append-nil, take_at}
use Rattle.utf8.specs.Utf8.{utf8}
use Rattle.source.specs.Feed.{fronted}
use Rattle.source.specs.Sound.{octets_take}
use Rattle.read.specs.declared.Taken.{Taken}
use Rattle.read.specs.Reader.{View, past, lies}
use Rattle.format.specs.Numbers.{read_latching}
use Rattle.format.specs.declared.refusal.ReadError.{ReadError}
use Rattle.format.specs.declared.refusal.ReadError.TheVariants as error
use Rattle.format.specs.declared.refusal.Cause.TheVariants as cause
use Rattle.bunser.specs.declared.text.TextKind.{TextKind}
use Rattle.bunser.specs.declared.text.TextKind.TheVariants as text
use Rattle.bunser.specs.declared.text.Span.{Span}
use Rattle.bunser.specs.declared.text.Unread.{Unread}
use Rattle.bunser.specs.Outcome.{Outcome, got, bad, at, placed, asked}
use Rattle.bunser.specs.Reads.{fronts}
use Rattle.bunser.specs.Texts.{text_fronts}
use Rattle.room.specs.Open.{Column, Open, pairs, filled, keyed, bytes_held}
use Rattle.values.specs.Values.{Value, Key, as_bytes, as_text, encoding, count_encoding, key_encoding, Formed, Fits, Bytes, KeyFormed}
use Rattle.values.specs.Values as value
use Rattle.values.specs.Limits.{Limits, RoomForKeyBytes}
use Rattle.de.specs.Shown.{shown, taken_bytes}
use Rattle.de.specs.Steps.{Body, Out, gives, stops, moved, behind, counted, text_space, text_outcome, text_puts, text_front, text_event, behind_text, text_by, text_step}
use Rattle.runs.specs.Law.{PartOf, HandedOut, limits}
use Rattle.runs.proofs.Taking.{Level, levels, Fit, names_long, Wants, Plain, bytes_are, text_is, Takes, plain_comes, Tagged, Front, head_taken, KeyWanted, TextWanted, Waits}
use Rattle.runs.proofs.Taking as taking
use Rattle.runs.proofs.Stepped.{ForGoodOrWaits, Solid, Ready, Stepped, Waiting, Stopped}
use Rattle.runs.proofs.Digits.{octets_are_bytes}
use Rattle.runs.proofs.Keys.{lent_bytes}
use Rattle.runs.proofs.Levels.{filled_holds, keyed_holds, levels_filled, levels_keyed, wanted_open, key_wanted_open, fit_filled, fit_keyed}
use Rattle.runs.proofs.Took.{took_none, took_more, gotten_on}
use Rattle.runs.proofs.Reading.{Comes}
use Rattle.runs.proofs.TextReads.{Textual, TextRead, TextRefused, text_reads}
use Rattle.runs.proofs.Made.{Made}

-- the event of a text of this kind
abbrev text_says : TextKind → List ℕ → value.Event
text_says text.Bytes bs = value.some_bytes bs
text_says text.Text bs = value.some_text bs
text_says text.Key bs = value.key bs

key_takes : {L : Limits} (k : Key) → KeyFormed k → (s : List Level) → KeyWanted s → Takes L s (key_encoding k) (value.key k.name) (keyed s)
key_takes k formed (pairs (suc n) ∷ s) h = taking.key_comes k formed
key_takes k formed s h = absurd h

-- the tag, the length and the bytes of a text are its event
text_takes : (lends : Bool) (input : List ℕ) (o : List (Open Column)) {u : Unread} {front : List ℕ} (bs : List ℕ) → Front (Some u) front → TextWanted u.kind (levels input o) → length bs ≡ u.len →
    Bytes bs → Textual u.kind bs →
    Takes (limits lends) (levels input o) (front ++ bs) (text_says u.kind bs) (levels input (behind_text u.kind o))
text_takes lends input o bs (head_taken {k} {n} t w tag fits) = by_kind k tag
  where
    fits_bytes : length bs ≡ n → Fits w (pos (length bs))
    fits_bytes long = subst (λ m. Fits w (pos m)) (sym long) fits

    encoded : (s : ℕ) → t ≡ s → length bs ≡ n → s ∷ (count_encoding w (length bs) ++ bs) ≡ t ∷ (count_encoding w n ++ bs)
    encoded s is long = ap (λ m. s ∷ (count_encoding w m ++ bs)) long ∙ ap (λ x. x ∷ (count_encoding w n ++ bs)) (sym is)

    a_value : (v : Value) (e : value.Event) → Plain v e → Formed v → Wants (levels input o) → encoding v ≡ t ∷ (count_encoding w n ++ bs) →
        Takes (limits lends) (levels input o) (t ∷ (count_encoding w n ++ bs)) e (levels input (filled o))
    a_value v e plain formed wants is =
        subst (λ l. Takes (limits lends) (levels input o) (t ∷ (count_encoding w n ++ bs)) e l) (sym (levels_filled input o))
        (subst (λ l. Takes (limits lends) (levels input o) l e (filled (levels input o))) is (plain_comes wants plain formed))

    a_key : (k : Key) → KeyFormed k → KeyWanted (levels input o) → key_encoding k ≡ t ∷ (count_encoding w n ++ bs) →
        Takes (limits lends) (levels input o) (t ∷ (count_encoding w n ++ bs)) (value.key k.name) (levels input (keyed o))
    a_key k formed wanted is =
        subst (λ l. Takes (limits lends) (levels input o) (t ∷ (count_encoding w n ++ bs)) (value.key k.name) l) (sym (levels_keyed input o))
        (subst (λ l. Takes (limits lends) (levels input o) l (value.key k.name) (keyed (levels input o))) is (key_takes k formed (levels input o) wanted))

    by_kind : (k : TextKind) → Tagged k t → TextWanted k (levels input o) → length bs ≡ n → Bytes bs → Textual k bs →
        Takes (limits lends) (levels input o) (t ∷ (count_encoding w n ++ bs)) (text_says k bs) (levels input (behind_text k o))
    by_kind text.Bytes tag wants long octets textual = a_value (value.bytes w bs) (value.some_bytes bs) (bytes_are w bs) (fits_bytes long, octets) wants (encoded 0x02 tag long)
    by_kind text.Text tag wants long octets textual = a_value (value.text w bs) (value.some_text bs) (text_is w bs) ((fits_bytes long, octets), textual) wants (encoded 0x0d tag long)
    by_kind text.Key (inl tag) wanted long octets textual = a_key (record { tag = as_bytes; width = w; name = bs }) ((fits_bytes long, octets), textual) wanted (encoded 0x02 tag long)
    by_kind text.Key (inr tag) wanted long octets textual = a_key (record { tag = as_text; width = w; name = bs }) ((fits_bytes long, octets), textual) wanted (encoded 0x0d tag long)

-- what the read of a text puts to the buffer where it was granted
text_put : (k : TextKind) (end space : Option ℕ) (n : ℕ) (v : View) → asked end v space n ≡ None → Textual k (take n v.coming) → text_puts k end space n v ≡ take n v.coming
text_put text.Bytes end space n v granted h = ap (λ o. fronts o n v) granted
text_put text.Text end space n v granted h = ap (λ o. text_fronts o (utf8 (take n v.coming)) n v) granted ∙ ap (λ b. text_fronts None b n v) h
text_put text.Key end space n v granted h = ap (λ o. text_fronts o (utf8 (take n v.coming)) n v) granted ∙ ap (λ b. text_fronts None b n v) h

module _ (input : List ℕ) (v : View) (n : ℕ) (long : length (take n v.coming) ≡ n) (x : List ℕ) (puts : x ≡ take n v.coming) (buf : List ℕ) where
  -- the bytes lie in the input or at the front of the buffer
  text_lies : (lends : Bool) → Solid lends input v → taken_bytes input (fronted (text_front lends x) buf) (lies lends v) n ≡ take n v.coming
  text_lies true solid = lent_bytes input v n solid
  text_lies false solid = take_at x (drop (length x) buf) n (ap length puts ∙ long) ∙ puts

part_lies : (lends : Bool) (v : View) → PartOf lends (lies lends v)
part_lies true v = tt
part_lies false v = tt

text_handed_out : (k : TextKind) (lends : Bool) (s : Span) → PartOf lends s.taken → HandedOut lends (text_event k s)
text_handed_out text.Bytes lends s part = part
text_handed_out text.Text lends s part = part
text_handed_out text.Key lends s part = part

text_shows : (k : TextKind) (input buf : List ℕ) (t : Taken) (n : ℕ) → shown input buf (text_event k (record { taken = t; len = n })) ≡ text_says k (taken_bytes input buf t n)
text_shows text.Bytes input buf t n = refl
text_shows text.Text input buf t n = refl
text_shows text.Key input buf t n = refl

behind_text_fits : (k : TextKind) (lends : Bool) (o : List (Open Column)) → Fit lends o → Fit lends (behind_text k o)
behind_text_fits text.Bytes lends o f = fit_filled lends o f
behind_text_fits text.Text lends o f = fit_filled lends o f
behind_text_fits text.Key lends o f = fit_keyed lends o f

behind_text_holds : (k : TextKind) (input : List ℕ) (o : List (Open Column)) → bytes_held names_long (levels input (behind_text k o)) ≡ bytes_held names_long (levels input o)
behind_text_holds text.Bytes input o = ap (bytes_held names_long) (levels_filled input o) ∙ filled_holds names_long (levels input o)
behind_text_holds text.Text input o = ap (bytes_held names_long) (levels_filled input o) ∙ filled_holds names_long (levels input o)
behind_text_holds text.Key input o = ap (bytes_held names_long) (levels_keyed input o) ∙ keyed_holds names_long (levels input o)

text_wanted_open : (k : TextKind) (input : List ℕ) (o : List (Open Column)) → TextWanted k (levels input o) → o ≡ [] → ⊥
text_wanted_open text.Bytes input o h = wanted_open input o h
text_wanted_open text.Text input o h = wanted_open input o h
text_wanted_open text.Key input o h = key_wanted_open input o h

latching_or_room : (e : ReadError) → (read_latching e ≡ true) ⊎ (e ≡ error.Room)
latching_or_room error.Room = inr refl
latching_or_room e = inl refl

module _ (lends : Bool) (input : List ℕ) (b : Body) (ready : Ready lends input b) where
  -- nothing has been taken
  pub waits_still : Waiting lends input b b
  waits_still = record { bytes = []; took = took_none lends b.reader; front = λ front h. subst (Front b.unread) (sym (append-nil front)) h; ready = ready }

  module _ (space : Option ℕ) (u : Unread) (awaited : b.unread ≡ Some u) where
    wanted : TextWanted u.kind (levels input b.opens)
    wanted = subst (λ o. Waits o (levels input b.opens)) awaited ready.waits

    text_given : (t : Taken) (w : View) → TextRead u.kind lends b.end (text_space lends space) u.len b.reader t w →
        Stepped lends input b (text_event u.kind (record { taken = t; len = u.len })) (behind b w (behind_text u.kind b.opens)) (text_front lends (text_puts u.kind b.end (text_space lends space) u.len b.reader))
    text_given t w r = record {
      bytes = take u.len b.reader.coming;
      says = text_says u.kind (take u.len b.reader.coming);
      took = r.gotten.took;
      end = refl;
      inside = r.gotten.inside;
      calm = refl;
      events = refl;
      takes = λ front h.
          text_takes lends input b.opens (take u.len b.reader.coming) (subst (λ o. Front o front) awaited h) wanted r.long
          (octets_are_bytes (take u.len b.reader.coming) (octets_take u.len b.reader.coming ready.solid.octets)) r.textual;
      ready = record {
        solid = gotten_on r.gotten ready.solid;
        fit = behind_text_fits u.kind lends b.opens ready.fit;
        waits = tt;
        held = subst (RoomForKeyBytes (limits lends)) (sym (behind_text_holds u.kind input b.opens)) ready.held;
      };
      origin = text_handed_out u.kind lends (record { taken = t; len = u.len }) (subst (PartOf lends) (sym r.lie) (part_lies lends b.reader));
      shows = λ buf.
          let x = text_puts u.kind b.end (text_space lends space) u.len b.reader in
          text_shows u.kind input (fronted (text_front lends x) buf) t u.len
          ∙ ap (λ t. text_says u.kind (taken_bytes input (fronted (text_front lends x) buf) t u.len)) r.lie
          ∙ ap (text_says u.kind) (text_lies input b.reader u.len r.long x (text_put u.kind b.end (text_space lends space) u.len b.reader r.granted r.textual) buf lends ready.solid);
    }

    text_stopped : (e : ReadError) (w : View) → TextRefused u.kind lends b.end (text_space lends space) u.len b.reader e w → Stopped lends input space b (at e b.reader.count) (moved b w)
    text_stopped e w r = record {
      after = omega arith;
      end = refl;
      opens = refl;
      events = refl;
      inside = r.inside;
      more = text_wanted_open u.kind input b.opens wanted;
      kind = by_cause (latching_or_room e);
    }
      where
        by_cause : (read_latching e ≡ true) ⊎ (e ≡ error.Room) → ForGoodOrWaits lends input space (at e b.reader.count) b (moved b w)
        by_cause (inl l) = inl l
        by_cause (inr is) = inr (ap cause.Read is, r.limited is, subst (λ v. Waiting lends input b (moved b v)) (sym (r.roomless is)) waits_still)

    pub text_made : Made lends input space b (text_step lends space u b)
    unfolding text_step
    text_made = by_read (text_outcome u.kind lends b.end (text_space lends space) u.len b.reader) (text_reads lends b.end (text_space lends space) u.len b.reader u.kind)
      where
        by_read : (m : Outcome ReadError Taken) → Comes (TextRead u.kind lends b.end (text_space lends space) u.len b.reader) (TextRefused u.kind lends b.end (text_space lends space) u.len b.reader) m →
            Made lends input space b (text_by (placed b.reader.count m) u b (text_front lends (text_puts u.kind b.end (text_space lends space) u.len b.reader)))
        by_read (got t w) r = text_given t w r
        by_read (bad e w) r = text_stopped e w r

-- ---- before it only the tag and the length of a text were taken

pub record Awaited (lends : Bool) (input : List ℕ) (b c : Body) : Type 0 where
  pub waiting : Waiting lends input b c
  pub end : c.end ≡ b.end
  pub opens : c.opens ≡ b.opens
  pub events : c.events ≡ b.events
  pub inside : past b.end b.reader.count ≡ false → past b.end c.reader.count ≡ false

module _ (lends : Bool) (input : List ℕ) (b c : Body) (a : Awaited lends input b c) where
  inside_behind : (n : ℕ) → (past c.end c.reader.count ≡ false → past c.end n ≡ false) → past b.end b.reader.count ≡ false → past b.end n ≡ false
  inside_behind n h k = subst (λ o. past o n ≡ false) a.end (h (subst (λ o. past o c.reader.count ≡ false) (sym a.end) (a.inside k)))

  waiting_behind : {d : Body} → Waiting lends input c d → Waiting lends input b d
  waiting_behind {d} w = record {
    bytes = a.waiting.bytes ++ w.bytes;
    took = took_more a.waiting.took w.took;
    front = λ front h. subst (Front d.unread) (append_assoc front a.waiting.bytes w.bytes) (w.front (front ++ a.waiting.bytes) (a.waiting.front front h));
    ready = w.ready;
  }

  pub made_behind : (space : Option ℕ) (m : Out) → Made lends input space c m → Made lends input space b m
  made_behind space (gives None d x) s = tt
  made_behind space (gives (Some e) d x) s = record {
    bytes = a.waiting.bytes ++ s.bytes;
    says = s.says;
    took = took_more a.waiting.took s.took;
    end = s.end ∙ a.end;
    inside = inside_behind d.reader.count s.inside;
    calm = s.calm;
    events = s.events ∙ ap counted a.events;
    takes = λ front h.
        subst (λ o. Takes (limits lends) (levels input o) (front ++ (a.waiting.bytes ++ s.bytes)) s.says (levels input d.opens)) a.opens
        (subst (λ l. Takes (limits lends) (levels input c.opens) l s.says (levels input d.opens)) (append_assoc front a.waiting.bytes s.bytes) (s.takes (front ++ a.waiting.bytes) (a.waiting.front front h)));
    ready = s.ready;
    origin = s.origin;
    shows = s.shows;
  }
  made_behind space (stops f d x) s = record {
    after = let h = s.after in let k = a.waiting.took.count in omega arith;
    end = s.end ∙ a.end;
    opens = s.opens ∙ a.opens;
    events = s.events ∙ a.events;
    inside = inside_behind d.reader.count s.inside;
    more = λ e. s.more (a.opens ∙ e);
    kind = by_kind s.kind;
  }
    where
      by_kind : ForGoodOrWaits lends input space f c d → ForGoodOrWaits lends input space f b d
      by_kind (inl l) = inl l
      by_kind (inr (full, limited, w)) = inr (full, limited, waiting_behind w)
