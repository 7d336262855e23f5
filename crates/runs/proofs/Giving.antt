-- A step gives what is there, whatever bytes follow it, or says that the text buffer has no room for it.
use Rattle.std.proofs.Common.{◌≡◌, ℕ, zero, suc, ◌+◌, ◌-◌, ◌≤◌, ◌<◌, Bool, true, false, cond, List, [], ◌∷◌, ◌++◌, length, take, ℤ, pos, ◌^◌, Some, None, Option, refl, sym, ap, ◌∙◌, subst, arith, append_assoc}
use Rattle.std.proofs.lemmas.Bool.{lt-ltb, both_ways}
use Rattle.utf8.specs.Utf8.{utf8}
use Rattle.read.specs.declared.Taken.TheVariants.{Copied}
use Rattle.read.specs.Reader.{View, past, cramped, held, advanced, discarded, lies}
use Rattle.format.specs.declared.width.Width.{Width}
use Rattle.format.specs.declared.width.Width.TheVariants.{W8, W16, W32, W64}
use Rattle.format.specs.declared.refusal.ReadError.TheVariants as error
use Rattle.format.specs.declared.refusal.Kind.TheVariants as kinds
use Rattle.format.specs.declared.refusal.Cause.TheVariants as cause
use Rattle.format.specs.Integers.{bytes_of}
use Rattle.format.specs.declared.refusal.Refusal.{Refusal}
use Rattle.bunser.specs.declared.text.TextKind.{TextKind}
use Rattle.bunser.specs.declared.text.TextKind.TheVariants as kind
use Rattle.bunser.specs.declared.text.Unread.{Unread}
use Rattle.bunser.specs.Outcome.{Outcome, at, bad, and_then, placed, asked, answer}
use Rattle.bunser.specs.Texts.{checked, placed_count, textual, text_read}
use Rattle.values.specs.Values as value
use Rattle.values.specs.Values.{Key, KeyFormed, key_tag, key_encoding, keys_encoding, digits, bits_of, int_encoding, KeysFormed, int_tag, count_encoding, text_encoding, Fits, TextFormed}
use Rattle.values.specs.Limits.{key_bytes, LevelFree}
use Rattle.room.specs.Open.{Column, lent, copied, Open, start, items, pairs, field, rows, row, cell, due, column, column_bytes, keys_held, bytes_held, filled, depth}
use Rattle.room.specs.KeyList.{key_list_read}
use Rattle.de.specs.declared.event.Event.{Event}
use Rattle.de.specs.declared.event.Event.TheVariants as event
use Rattle.de.specs.declared.event.Ahead.TheVariants as ahead
use Rattle.de.specs.Steps.{Body, moved, behind, awaiting, Coming, comes, passes, awaits, reading, coming, due_comes, unread_comes, item_comes, key_comes, tagged, tag_comes, int_comes, real_comes, text_comes, array_comes, object_comes, template_comes, rows_come, rows_by, gap_comes, refuse, halts, levelled, text_space, text_outcome, text_front, text_puts, text_by, text_step, column_by, column_passes, column_step, turns, stops, finishing, step}
use Rattle.runs.specs.Law.{limits, hands_out}
use Rattle.runs.proofs.Taking.{named, Level, levels, Fit, Lies, Takes, Front, none_taken, Waits, TemplateWithin, template_front}
use Rattle.runs.proofs.Stepped.{Ready, Clear, Tight, Can, can_give, must_wait}
use Rattle.runs.proofs.Shapes.{Item, null_item, yes_item, no_item, gap_item, integer_item, real_item, bytes_item, text_item, array_item, object_item, template_item, item_bytes, item_event, ItemFormed, ItemWithin, Comes, Turns, KeyComes, Shape, shaped}
use Rattle.runs.proofs.Awaited.{awaited_text}
use Rattle.runs.proofs.Levels.{levels_depth, levels_keys}
use Rattle.runs.proofs.Limited.{level_allows, keys_allow, bytes_allow, not_keyless}
use Rattle.runs.proofs.Standing.{Stands, Gives, KeysGive, stands_front, stands_back, asked_room, bytes_give, text_gives, peek_gives, stands_behind_tag, placed_gives, int_gives, real_gives, placed_count_gives, key_length_gives, key_list_encoding, key_list_gives}

-- ---- an event that hands out no bytes, and one that does

passes_can : {lends : Bool} (space : Option ℕ) {b : Body} {ev : value.Event} (e : Event) (c : Body) → coming lends b ≡ comes (ahead.Passed e) c → hands_out ev ≡ None → Can lends space b ev
unfolding step
passes_can {lends} space e c is none = can_give e c [] (ap (finishing lends space) is) (λ t. absurd (cc (none, t.handed)))

module _ {lends : Bool} {space : Option ℕ} {ev : value.Event} (bs : List ℕ) (handed : hands_out ev ≡ Some bs) where
  tight : lends ≡ false → cramped space (length bs) ≡ true → Tight lends space ev
  tight copies long = record { copies = copies; text = bs; handed = handed; long = long }

  loose : (lends ≡ false → cramped space (length bs) ≡ false) → Tight lends space ev → ⊥
  loose fits t =
      let text : t.text ≡ bs = cc (t.handed, handed) in
      both_ways (cramped space (length bs)) (fits t.copies) (ap (λ l. cramped space (length l)) (sym text) ∙ t.long)

outcome_gives : (k : TextKind) (lends : Bool) (space : Option ℕ) {end : Option ℕ} {v : View} (bs : List ℕ) {rest : List ℕ} (n : ℕ) → length bs ≡ n → cramped space n ≡ false → (checked k ≡ true → utf8 bs ≡ true) → Stands end v bs rest →
    Gives (text_outcome k lends end space n v) (lies lends v) v bs rest
outcome_gives kind.Bytes lends space bs n long room formed s = bytes_give lends space bs n long room s
outcome_gives kind.Text lends space bs n long room formed s = text_gives lends space bs n long room (formed refl) s
outcome_gives kind.Key lends space bs n long room formed s = text_gives lends space bs n long room (formed refl) s

-- for want of room it is refused, and the reader stays
outcome_waits : (k : TextKind) (lends : Bool) (space : Option ℕ) {end : Option ℕ} {v : View} (bs : List ℕ) {rest : List ℕ} (n : ℕ) → length bs ≡ n → cramped space n ≡ true → Stands end v bs rest →
    text_outcome k lends end space n v ≡ bad error.Room v
unfolding text_read
outcome_waits k lends space {end} {v} bs n long full s = go k
  where
    refused : asked end v space n ≡ Some error.Room
    refused = asked_room space bs n true long full s

    go : (k : TextKind) → text_outcome k lends end space n v ≡ bad error.Room v
    go kind.Bytes = ap (λ o. answer o v (lies lends v) (advanced lends n v)) refused
    go kind.Text = ap (λ o. and_then (answer o v (lies lends v) (advanced lends n v)) (textual (utf8 (take n v.coming)))) refused
    go kind.Key = ap (λ o. and_then (answer o v (lies lends v) (advanced lends n v)) (textual (utf8 (take n v.coming)))) refused

text_can : {lends : Bool} (space : Option ℕ) {b : Body} {ev : value.Event} (u : Unread) (o : Body) (bs : List ℕ) {rest : List ℕ} → coming lends b ≡ comes (ahead.Text u) o →
    length bs ≡ u.len → (checked u.kind ≡ true → utf8 bs ≡ true) → hands_out ev ≡ Some bs → Stands o.end o.reader bs rest → Can lends space b ev
unfolding step text_step
text_can {lends} space {b} {ev} u o bs is long formed handed s = go (cramped (text_space lends space) u.len) refl
  where
    puts : List ℕ
    puts = text_front lends (text_puts u.kind o.end (text_space lends space) u.len o.reader)

    copying : (lends : Bool) → cramped (text_space lends space) u.len ≡ true → (lends ≡ false) × (cramped space (length bs) ≡ true)
    copying true e = absurd (cc e)
    copying false e = (refl, ap (cramped space) long ∙ e)

    fitting : (lends : Bool) → cramped (text_space lends space) u.len ≡ false → lends ≡ false → cramped space (length bs) ≡ false
    fitting true e c = absurd (cc c)
    fitting false e c = ap (cramped space) long ∙ e

    go : (full : Bool) → cramped (text_space lends space) u.len ≡ full → Can lends space b ev
    go false e =
        let g = outcome_gives u.kind lends (text_space lends space) bs u.len long e formed s in
        can_give _ _ _ (ap (finishing lends space) is ∙ ap (λ m. text_by (placed o.reader.count m) u o puts) g.is) (loose bs handed (fitting lends e))
    go true e =
        let (copies, full) = copying lends e in
        must_wait _ _ _ (ap (finishing lends space) is ∙ ap (λ m. text_by (placed o.reader.count m) u o puts) (outcome_waits u.kind lends (text_space lends space) bs u.len long e s))
        refl (tight bs handed copies full)

-- ---- items

-- what is done with a read that gives
reading_is : {A : Type 0} {m : Outcome Refusal A} {x : A} {v : View} {bs rest : List ℕ} (o : Body) (f : A → View → Coming) (g : Gives m x v bs rest) → reading m o f ≡ f x g.left
reading_is o f g = ap (λ m. reading m o f) g.is

int_tagged : (lends may_gap : Bool) (w : Width) (o : Body) → tagged lends may_gap (int_tag w) o ≡ int_comes lends w o
unfolding tagged
int_tagged lends may_gap W8 o = refl
int_tagged lends may_gap W16 o = refl
int_tagged lends may_gap W32 o = refl
int_tagged lends may_gap W64 o = refl

level_there : (o : Body) (c : Coming) → depth o.opens < 128 → levelled o c ≡ c
level_there o c h = ap (λ b. cond b c (halts (refuse cause.Depth o.reader.count) o)) (lt-ltb (depth o.opens) 128 h)

-- behind the tag of a template a key list and a row count open its rows
template_opens : (lends : Bool) (input : List ℕ) (o : Body) {v : View} (w : Width) (ks : List Key) (u : Width) (n : ℕ) {rest : List ℕ} → Fits w (pos (length ks)) → KeysFormed ks → Fits u (pos n) → Fit lends o.opens →
    TemplateWithin (limits lends) (levels input o.opens) ks n → Stands o.end v (0x00 ∷ (count_encoding w (length ks) ++ (keys_encoding ks ++ count_encoding u n))) rest → (cs : List Column) × (x : View)
    × (reading (key_list_read lends o.end (depth o.opens) (keys_held o.opens) (bytes_held column_bytes o.opens) v) o (λ ks v. rows_come lends ks o v) ≡ passes event.ArrayBegin o x (rows cs n ∷ filled o.opens))
unfolding rows_come
template_opens lends input o {v} w ks u n {rest} f k h fit within s = (listed.columns, lines.left, reading_is o (λ ks v. rows_come lends ks o v) listed.gives ∙ counted)
  where
    there : Stands o.end v (key_list_encoding w ks ++ count_encoding u n) rest
    there = subst (λ l. Stands o.end v (0x00 ∷ l) rest) (sym (append_assoc (count_encoding w (length ks)) (keys_encoding ks) (count_encoding u n))) s

    list_level : suc (depth o.opens) < 128
    list_level = let below = level_allows lends _ within.list_level in omega (arith, levels_depth input o.opens)

    few : keys_held o.opens + length ks ≤ 256
    few = let below = keys_allow lends _ within.few_keys in omega (arith, levels_keys input o.opens)

    listed : KeysGive (key_list_read lends o.end (depth o.opens) (keys_held o.opens) (bytes_held column_bytes o.opens) v) ks v (key_list_encoding w ks) (count_encoding u n ++ rest)
    listed = key_list_gives lends (depth o.opens) (keys_held o.opens) (bytes_held column_bytes o.opens) w ks f k list_level few (bytes_allow lends input o.opens (key_bytes ks) fit within.few_bytes)
        (stands_front (key_list_encoding w ks) (count_encoding u n) there)

    lines : Gives (placed_count lends o.end listed.gives.left) n listed.gives.left (count_encoding u n) rest
    lines = placed_count_gives lends u n h (stands_back (key_list_encoding w ks) (count_encoding u n) there listed.gives.behind)

    counted : rows_come lends listed.columns o listed.gives.left ≡ passes event.ArrayBegin o lines.left (rows listed.columns n ∷ filled o.opens)
    counted =
        reading_is o (λ n w. rows_by listed.columns listed.gives.left.count n o w) lines
        ∙ ap (λ q. cond q (halts (refuse cause.NoKeys listed.gives.left.count) (moved o lines.left)) (passes event.ArrayBegin o lines.left (rows listed.columns n ∷ filled o.opens)))
        (not_keyless lends n (length ks) listed.columns listed.all within.keyed)

-- the tag of an item is shown, and not taken yet
abbrev tag_shown : Body → Body
tag_shown b = moved b (held b.reader)

module _ (lends may_gap : Bool) (space : Option ℕ) (b : Body) (is : coming lends b ≡ item_comes lends may_gap b) where
  comes_tagged : (t : ℕ) (bs : List ℕ) {rest : List ℕ} → Stands b.end b.reader (t ∷ bs) rest → coming lends b ≡ tagged lends may_gap t (tag_shown b)
  unfolding item_comes
  comes_tagged t bs s = is ∙ ap (λ m. reading (placed b.reader.count m) b (λ t v. tagged lends may_gap t (moved b v))) (peek_gives t bs s)

  level_here : (input : List ℕ) → LevelFree (limits lends) (depth (levels input b.opens)) → depth b.opens < 128
  level_here input h = let below = level_allows lends _ h in omega (arith, levels_depth input b.opens)

  module _ {ev : value.Event} {rest : List ℕ} where
    tag_can : (e : Event) (t : ℕ) → tagged lends may_gap t (tag_shown b) ≡ tag_comes lends e (tag_shown b) → hands_out ev ≡ None → Stands b.end b.reader (t ∷ []) rest → Can lends space b ev
    unfolding tag_comes
    tag_can e t by none s = passes_can space _ _ (comes_tagged t [] s ∙ by) none

    integer_can : (w : Width) (z : ℤ) → Fits w z → hands_out ev ≡ None → Stands b.end b.reader (int_encoding w z) rest → Can lends space b ev
    unfolding int_comes
    integer_can w z f none s =
        let o = tag_shown b in
        let bs = digits (bytes_of w) (bits_of w z) in
        let g = placed_gives b.reader.count (int_gives lends w z f (stands_behind_tag (int_tag w) bs s lends)) in
        passes_can space _ _ (comes_tagged (int_tag w) bs s ∙ int_tagged lends may_gap w o ∙ reading_is o (λ z v. passes (event.Int w z) o v (filled b.opens)) g) none

    real_can : (n : ℕ) → n < 2 ^ 64 → hands_out ev ≡ None → Stands b.end b.reader (0x07 ∷ digits 8 n) rest → Can lends space b ev
    unfolding tagged real_comes
    real_can n f none s =
        let o = tag_shown b in
        let g = placed_gives b.reader.count (real_gives lends n f (stands_behind_tag 0x07 (digits 8 n) s lends)) in
        passes_can space _ _ (comes_tagged 0x07 (digits 8 n) s ∙ reading_is o (λ n v. passes (event.Real n) o v (filled b.opens)) g) none

    -- a byte string or a text
    string_can : (k : TextKind) (t : ℕ) → tagged lends may_gap t (tag_shown b) ≡ text_comes lends k (tag_shown b) → (w : Width) (bs : List ℕ) → TextFormed w bs → (checked k ≡ true → utf8 bs ≡ true) →
        hands_out ev ≡ Some bs → Stands b.end b.reader (t ∷ text_encoding w bs) rest → Can lends space b ev
    unfolding text_comes
    string_can k t by w bs f formed handed s =
        let o = tag_shown b in
        let n = length bs in
        let behind_tag = stands_behind_tag t (text_encoding w bs) s lends in
        let g = placed_count_gives lends w n f.0 (stands_front (count_encoding w n) bs behind_tag) in
        text_can space (record { kind = k; len = n }) (awaiting o g.left (record { kind = k; len = n })) bs (comes_tagged t (text_encoding w bs) s ∙ by ∙ reading_is o (awaits k o) g) refl formed handed
        (stands_back (count_encoding w n) bs behind_tag g.behind)

    -- an array or an object
    counted_can : (t : ℕ) (e : Event) (opens : ℕ → List (Open Column)) → tagged lends may_gap t (tag_shown b)
        ≡ levelled (tag_shown b) (reading (placed_count lends b.end (discarded lends (held b.reader))) (tag_shown b) (λ n v. passes e (tag_shown b) v (opens n))) →
        (w : Width) (n : ℕ) → Fits w (pos n) → depth b.opens < 128 → hands_out ev ≡ None → Stands b.end b.reader (t ∷ count_encoding w n) rest → Can lends space b ev
    counted_can t e opens by w n f level none s =
        let o = tag_shown b in
        let g = placed_count_gives lends w n f (stands_behind_tag t (count_encoding w n) s lends) in
        passes_can space _ _ (comes_tagged t (count_encoding w n) s ∙ by ∙ level_there o _ level ∙ reading_is o (λ n v. passes e o v (opens n)) g) none

    template_can : (input : List ℕ) (w : Width) (ks : List Key) (u : Width) (n : ℕ) → Fits w (pos (length ks)) → KeysFormed ks → Fits u (pos n) → Fit lends b.opens → TemplateWithin (limits lends) (levels input b.opens) ks n →
        hands_out ev ≡ None → Stands b.end b.reader (template_front w ks u n) rest → Can lends space b ev
    unfolding tagged template_comes
    template_can input w ks u n f k h fit within none s =
        let o = tag_shown b in
        let bs = 0x00 ∷ (count_encoding w (length ks) ++ (keys_encoding ks ++ count_encoding u n)) in
        let (cs, x, opened) = template_opens lends input o w ks u n f k h fit within (stands_behind_tag 0x0b bs s lends) in
        passes_can space _ _ (comes_tagged 0x0b bs s ∙ level_there o _ (level_here input within.own_level) ∙ opened) none

    item_can : (input : List ℕ) (i : Item) → Fit lends b.opens → ItemFormed i → ItemWithin (limits lends) may_gap (levels input b.opens) i → ev ≡ item_event i → Stands b.end b.reader (item_bytes i) rest → Can lends space b ev
    unfolding tagged array_comes object_comes
    item_can input null_item fit f within e s = tag_can event.Null 0x0a refl (ap hands_out e) s
    item_can input yes_item fit f within e s = tag_can event.True 0x08 refl (ap hands_out e) s
    item_can input no_item fit f within e s = tag_can event.False 0x09 refl (ap hands_out e) s
    item_can input gap_item fit f within e s = tag_can event.Absent 0x0c (ap (λ g. gap_comes lends g 0x0c (tag_shown b)) within) (ap hands_out e) s
    item_can input (integer_item w z) fit f within e s = integer_can w z f (ap hands_out e) s
    item_can input (real_item n) fit f within e s = real_can n f (ap hands_out e) s
    item_can input (bytes_item w bs) fit f within e s = string_can kind.Bytes 0x02 refl w bs f (λ c. absurd (cc c)) (ap hands_out e) s
    item_can input (text_item w bs) fit f within e s = string_can kind.Text 0x0d refl w bs f.0 (λ c. f.1) (ap hands_out e) s
    item_can input (array_item w n) fit f within e s = counted_can 0x00 event.ArrayBegin (λ n. items n ∷ filled b.opens) refl w n f (level_here input within) (ap hands_out e) s
    item_can input (object_item w n) fit f within e s = counted_can 0x01 event.MapBegin (λ n. pairs n ∷ filled b.opens) refl w n f (level_here input within) (ap hands_out e) s
    item_can input (template_item w ks u n) fit f within e s = template_can input w ks u n f.0 f.1 f.2 fit within (ap hands_out e) s

-- ---- the key of a pair, and the key of a column

key_can : {lends : Bool} (space : Option ℕ) (b : Body) {ev : value.Event} {rest : List ℕ} → coming lends b ≡ key_comes lends b → (k : Key) → KeyFormed k → ev ≡ value.key k.name → Stands b.end b.reader (key_encoding k) rest → Can lends space b ev
unfolding key_comes
key_can {lends} space b is k f e s =
    let n = length k.name in
    let front = key_tag k.tag ∷ count_encoding k.width n in
    let g = key_length_gives lends kinds.MapKey k.tag k.width n f.0.0 (stands_front front k.name s) in
    text_can space (record { kind = kind.Key; len = n }) (awaiting b g.left (record { kind = kind.Key; len = n })) k.name (is ∙ reading_is b (awaits kind.Key b) g) refl (λ _. f.1) (ap hands_out e)
    (stands_back front k.name s g.behind)

column_can : {lends : Bool} (space : Option ℕ) (input : List ℕ) (b : Body) (k : Column) {ev : value.Event} → coming lends b ≡ comes ahead.Column b → column b.opens ≡ k → Lies lends k → ev ≡ value.key (named input k) → Can lends space b ev
unfolding step column_step
column_can {lends} space input b k {ev} is here lies e = go lends k lies refl (ap hands_out e) (ap (finishing lends space) is ∙ ap (λ k. column_by k space b) here)
  where
    go : (copying : Bool) (k : Column) → Lies copying k → copying ≡ lends → hands_out ev ≡ Some (named input k) → step lends space b ≡ column_by k space b → Can lends space b ev
    go true (lent p n) lies same handed by = can_give _ _ _ by (λ t. absurd (cc (same, t.copies)))
    go true (copied bs) lies same handed by = absurd lies
    go false (lent p n) lies same handed by = absurd lies
    go false (copied bs) lies same handed by = room (cramped space (length bs)) refl
      where
        chosen : (full : Bool) → cramped space (length bs) ≡ full → step lends space b ≡ cond full (stops (at error.Room b.reader.count) b []) (column_passes (record { taken = Copied; len = length bs }) b bs)
        chosen full e = by ∙ ap (λ q. cond q (stops (at error.Room b.reader.count) b []) (column_passes (record { taken = Copied; len = length bs }) b bs)) e

        room : (full : Bool) → cramped space (length bs) ≡ full → Can lends space b ev
        room true e = must_wait _ _ _ (chosen true e) refl (tight bs handed (sym same) e)
        room false e = can_give _ _ _ (chosen false e) (loose bs handed (λ _. e))

-- ---- a step

module _ {lends : Bool} {input : List ℕ} (space : Option ℕ) (b : Body) {taken rest : List ℕ} {ev : value.Event} (ready : Ready lends input b) where
  calm_can : {t : List Level} → coming lends b ≡ due_comes (due b.opens) lends b → Takes (limits lends) (levels input b.opens) taken ev t → Stands b.end b.reader taken rest → Can lends space b ev
  calm_can {t} is k s = go b.opens refl (shaped k)
    where
      by_due : (o : List (Open Column)) → b.opens ≡ o → coming lends b ≡ due_comes (due o) lends b
      by_due o at = is ∙ ap (λ o. due_comes (due o) lends b) at

      turn_can : (o : List (Open Column)) → b.opens ≡ o → (e : Event) (p : List (Open Column)) → due_comes (due o) lends b ≡ turns e b p → {f : value.Event} {u : List Level} → hands_out f ≡ None → Turns taken ev f t u → Can lends space b ev
      turn_can o at e p by none k = passes_can space e (behind b b.reader p) (by_due o at ∙ by) (ap hands_out k.event ∙ none)

      comes_can : (may_gap : Bool) (o : List (Open Column)) → b.opens ≡ o → due_comes (due o) lends b ≡ item_comes lends may_gap b → Comes (limits lends) may_gap (levels input o) taken ev t → Can lends space b ev
      comes_can may_gap o at by k =
          item_can lends may_gap space b (by_due o at ∙ by) input k.item ready.fit k.formed (subst (λ o. ItemWithin (limits lends) may_gap (levels input o) k.item) (sym at) k.within) k.event
          (subst (λ l. Stands b.end b.reader l rest) k.bytes s)

      pair_can : (n : ℕ) (o : List (Open Column)) → b.opens ≡ pairs (suc n) ∷ o → KeyComes n (levels input o) taken ev t → Can lends space b ev
      pair_can n o at k = key_can space b (by_due (pairs (suc n) ∷ o) at) k.the_key k.formed k.event (subst (λ l. Stands b.end b.reader l rest) k.bytes s)

      column_here : (k : Column) (l ks : List Column) (n : ℕ) (o : List (Open Column)) → b.opens ≡ row (k ∷ l) ks n ∷ o → ev ≡ value.key (named input k) → Can lends space b ev
      column_here k l ks n o at e =
          let lie : Fit lends (row (k ∷ l) ks n ∷ o) = subst (Fit lends) at ready.fit in
          column_can space input b k (by_due (row (k ∷ l) ks n ∷ o) at) (ap column at) lie.0.0 e

      go : (o : List (Open Column)) → b.opens ≡ o → Shape (limits lends) (levels input o) taken ev t → Can lends space b ev
      go [] at k = absurd k
      go (start ∷ o) at k = comes_can false (start ∷ o) at refl k
      go (items zero ∷ o) at k = turn_can (items zero ∷ o) at _ _ refl refl k
      go (items (suc n) ∷ o) at k = comes_can false (items (suc n) ∷ o) at refl k
      go (pairs zero ∷ o) at k = turn_can (pairs zero ∷ o) at _ _ refl refl k
      go (pairs (suc n) ∷ o) at k = pair_can n o at k
      go (field n ∷ o) at k = comes_can false (field n ∷ o) at refl k
      go (rows ks zero ∷ o) at k = turn_can (rows ks zero ∷ o) at _ _ refl refl k
      go (rows ks (suc n) ∷ o) at k = turn_can (rows ks (suc n) ∷ o) at _ _ refl refl k
      go (row [] ks n ∷ o) at k = turn_can (row [] ks n ∷ o) at _ _ refl refl k
      go (row (c ∷ l) ks n ∷ o) at k = column_here c l ks n o at k.event
      go (cell l ks n ∷ o) at k = comes_can true (cell l ks n ∷ o) at refl k

clear_stands : (b : Body) (bs : List ℕ) {rest : List ℕ} (n : ℕ) → n ≡ length bs → Clear b n → b.reader.coming ≡ bs ++ rest → Stands b.end b.reader bs rest
clear_stands b bs n long clear e = record {
  coming = e;
  before_end = ap (λ k. past b.end (b.reader.count + k)) (sym long) ∙ clear.before_end;
  before_stop = ap (λ k. past b.reader.stop (b.reader.count + k)) (sym long) ∙ clear.before_stop;
}

pub step_can : {lends : Bool} {input : List ℕ} (space : Option ℕ) (b : Body) {t : List Level} {front taken : List ℕ} (rest : List ℕ) {ev : value.Event} →
    Ready lends input b → Front b.unread front → Takes (limits lends) (levels input b.opens) taken ev t →
    front ++ b.reader.coming ≡ taken ++ rest → Clear b (length taken - length front) → Can lends space b ev
unfolding coming
step_can {lends} {input} space b {front = front} {taken = taken} rest {ev} ready f k e clear = go b.unread refl front f ready.waits e clear
  where
    go : (o : Option Unread) → b.unread ≡ o → (front : List ℕ) → Front o front → Waits o (levels input b.opens) → front ++ b.reader.coming ≡ taken ++ rest → Clear b (length taken - length front) → Can lends space b ev
    go None here front none_taken w e clear = calm_can space b ready (ap (λ o. unread_comes o lends b) here) k (clear_stands b taken (length taken - 0) (omega arith) clear e)
    go (Some u) here front f w e clear =
        let a = awaited_text b.reader.coming rest f w k e in
        text_can space u b a.text (ap (λ o. unread_comes o lends b) here) a.long a.formed a.handed
        (clear_stands b a.text (length taken - length front) (omega (arith, a.size)) clear a.comes)
