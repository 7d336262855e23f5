-- The text of one key is read to the free bytes.
use Rattle.std.proofs.Common.{◌≡◌, ℕ, ◌+◌, ◌-◌, ◌≤◌, Bool, true, false, cond, ltb, List, ◌++◌, length, take, drop, IsErrAnd, Some, None, Ok, Err, Option, Result, sym, refl, ap, ◌∙◌, subst, arith, length-take}
use borrow.Rule.Slice.PartMut.{mid_of, post_of, put_mid}
use lib.ListN.{length-drop}
use Rattle.std.proofs.lemmas.Bool.{ltb-false}
use Rattle.std.proofs.lemmas.List.{take_at, drop_at, append_assoc}
use Rattle.utf8.specs.Utf8.{utf8}
use Rattle.read.specs.declared.Fault.TheVariants as fault
use Rattle.read.specs.declared.Taken.{Taken}
use Rattle.read.specs.declared.Taken.TheVariants as taken_as
use Rattle.read.specs.Reader.{View, past, room, shortfall, advanced, lies, put}
use Rattle.format.specs.declared.refusal.ReadError.{ReadError}
use Rattle.format.specs.declared.refusal.ReadError.TheVariants.{End, Stop, Room, Short, Source, Magic, Byte, Negative, TooLong, NotText}
use Rattle.format.specs.declared.refusal.Refusal.{Refusal}
use Rattle.bunser.specs.Outcome.{Outcome, got, bad, and_then, judged, asked, answer, ReadLeaves, CauseLeaves, Tells, TellsAt}
use Rattle.bunser.specs.Texts.{textual, text_read, text_fronts}
use Rattle.bunser.proofs.Telling.{ok_err, err_is}
use Rattle.bunser.proofs.Asking.{granted}
use Rattle.room.specs.Open.{lent, copied}
use Rattle.room.specs.KeyList.{key_space, room_cause, room_refusal, room_result, in_key_room, column_of, key_text_read}
use Rattle.room.specs.declared.slot.Slot.{Slot}
use Rattle.room.specs.declared.slot.Slot.TheVariants.{Lent, Held}
use Rattle.room.specs.Slots.{Slotted, SlotTold}

pub room_leaves : (e : ReadError) (v w : View) → ReadLeaves e v w → CauseLeaves (room_cause e) v w
room_leaves End v w h = h
room_leaves Stop v w h = h
room_leaves Room v w h = h
room_leaves Short v w h = h
room_leaves (Source code) v w h = h
room_leaves (Magic bytes) v w h = h
room_leaves (Byte kind b) v w h = h
room_leaves Negative v w h = h
room_leaves TooLong v w h = h
room_leaves NotText v w h = h

-- a text that was read
record Came (lends : Bool) (end : Option ℕ) (space : Option ℕ) (n : ℕ) (v : View) (taken : Taken) (w : View) : Type 0 where
  granted_it : asked end v space n ≡ None
  good : utf8 (take n v.coming) ≡ true
  lies_so : taken ≡ lies lends v
  left : w ≡ advanced lends n v

text_came : (lends : Bool) (end space : Option ℕ) (n : ℕ) (v : View) (taken : Taken) (w : View) → text_read lends end space n v ≡ got taken w → Came lends end space n v taken w
unfolding text_read
text_came lends end space n v taken w h = go (asked end v space n) (utf8 (take n v.coming)) refl refl h
  where
    go : (o : Option ReadError) (b : Bool) → asked end v space n ≡ o → utf8 (take n v.coming) ≡ b → and_then (answer o v (lies lends v) (advanced lends n v)) (textual b) ≡ got taken w → Came lends end space n v taken w
    go (Some e) b p q h = let z : ◌≡◌ {A = ℕ} 0 1 = cc in absurd (omega arith)
    go None true p q h = record { granted_it = p; good = q; lies_so = cc; left = cc }
    go None false p q h = let z : ◌≡◌ {A = ℕ} 0 1 = cc in absurd (omega arith)

roomy : (end : Option ℕ) (v : View) (r n : ℕ) → asked end v (Some r) n ≡ None → n ≤ r
roomy end v r n e = go (past end (v.count + n)) (past v.stop (v.count + n)) (ltb r n) refl e
  where
    go : (a b c : Bool) → ltb r n ≡ c → judged a (cond b (Some fault.Stop) (cond c (Some fault.Room) (cond (ltb (length v.coming) n) (Some (shortfall v.ending)) None))) ≡ None → n ≤ r
    go true b c k e = let z : ◌≡◌ {A = ℕ} 0 1 = cc in absurd (omega arith)
    go false true c k e = let z : ◌≡◌ {A = ℕ} 0 1 = cc in absurd (omega arith)
    go false false true k e = let z : ◌≡◌ {A = ℕ} 0 1 = cc in absurd (omega arith)
    go false false false k e = ltb-false r n k

told_in_room : (m : Outcome ReadError Taken) (p q : ℕ) (r : Result Taken ReadError) (k : Result Taken Refusal) (w : View) → p ≡ q → Tells m r w → k ≡ room_result p r → TellsAt (in_key_room q m) k w
told_in_room m p q r k w same h is = subst (λ q. TellsAt (in_key_room q m) k w) same (subst (λ k. TellsAt (in_key_room p m) k w) (sym is) (go m r h))
  where
    go : (m : Outcome ReadError Taken) (r : Result Taken ReadError) → Tells m r w → TellsAt (in_key_room p m) (room_result p r) w
    go (got a v) (Ok x) (e, h) = let k : x ≡ a = cc in (ap Ok k, h)
    go (got a v) (Err x) (e, h) = ok_err (sym e)
    go (bad f v) (Ok x) (e, h) = ok_err e
    go (bad f v) (Err x) (e, h) = let k : x ≡ f = cc in (ap (λ y. Err (room_refusal p y)) k, room_leaves f v w h)

module _ (lends : Bool) (end : Option ℕ) (used n : ℕ) (v w : View) (bytes buf : List ℕ) (long : length bytes ≡ 4096) (few : used ≤ 4096)
    (place : ℕ) (is : place ≡ v.count) (r : Result Taken ReadError) (reads : Tells (text_read lends end (room lends (mid_of used (4096 - used) bytes)) n v) r w) where
  abbrev bytes' : List ℕ
  bytes' = put_mid used (4096 - used) bytes buf

  front : length (take used bytes) ≡ used
  front = rw length-take (omega arith)

  stays : take used bytes' ≡ take used bytes
  stays = take_at (take used bytes) _ used front

  space_is : (lends : Bool) → room lends (mid_of used (4096 - used) bytes) ≡ key_space lends used
  space_is true = refl
  space_is false = ap Some (rw (length-take, length-drop) (omega arith))

  told : (k : Result Taken Refusal) → k ≡ room_result place r → TellsAt (in_key_room v.count (text_read lends end (key_space lends used) n v)) k w
  told k e = told_in_room (text_read lends end (key_space lends used) n v) place v.count r k w is (subst (λ s. Tells (text_read lends end s n v) r w) (space_is lends) reads) e

  pub slot_stop : (f : Refusal) (s : Result Slot Refusal) → Err f ≡ room_result place r → IsErrAnd s (λ g. g ≡ f) → SlotTold (key_text_read lends end used n v) used bytes s bytes' w
  slot_stop f s e same = go (in_key_room v.count (text_read lends end (key_space lends used) n v)) (told (Err f) e)
    where
      go : (m : Outcome Refusal Taken) → TellsAt m (Err f) w → SlotTold (and_then m (λ _ w. got (column_of lends n v) w)) used bytes s bytes' w
      go (got a u) (x, y) = ok_err (sym x)
      go (bad g u) (x, y) = let z : f ≡ g = cc in (stays, y, err_is s f same ∙ ap Err z)

  module _ (taken : Taken) (e : Ok taken ≡ room_result place r) (puts : buf ≡ put lends (text_fronts (asked end v (room lends (mid_of used (4096 - used) bytes)) n) (utf8 (take n v.coming)) n v) (mid_of used (4096 - used) bytes)) where
    text_is : text_read lends end (key_space lends used) n v ≡ got taken w
    text_is = go (text_read lends end (key_space lends used) n v) (told (Ok taken) e)
      where
        go : (m : Outcome ReadError Taken) → TellsAt (in_key_room v.count m) (Ok taken) w → m ≡ got taken w
        go (got t u) (x, y) = let z : taken ≡ t = cc in cc
        go (bad f u) (x, y) = ok_err x

    came : Came lends end (key_space lends used) n v taken w
    came = text_came lends end (key_space lends used) n v taken w text_is

    slot_got : (s : Slot) → Slotted (column_of lends n v) used bytes' s → SlotTold (key_text_read lends end used n v) used bytes (Ok s) bytes' w
    slot_got s h = subst (λ m. SlotTold (and_then (in_key_room v.count m) (λ _ w. got (column_of lends n v) w)) used bytes (Ok s) bytes' w) (sym text_is) (stays, refl, s, refl, h)

    pub slot_lent : (p : ℕ) → taken_as.Lent p ≡ taken → SlotTold (key_text_read lends end used n v) used bytes (Ok (Lent p n)) bytes' w
    slot_lent p at = slot_got (Lent p n) (record { column = by lends (at ∙ came.lies_so); begins = refl; fits = few })
      where
        by : (lends : Bool) → taken_as.Lent p ≡ lies lends v → lent p n ≡ column_of lends n v
        by true h = cc
        by false h = absurd (cc)

    -- the copied text lies behind what is used
    copied_there : asked end v (Some (4096 - used)) n ≡ None → buf ≡ put false (text_fronts (asked end v (room false (mid_of used (4096 - used) bytes)) n) (utf8 (take n v.coming)) n v) (mid_of used (4096 - used) bytes) →
        take n (drop used bytes') ≡ take n v.coming
    copied_there ok at =
        let there = granted end v (Some (4096 - used)) n ok in
        let whole : length (take n v.coming) ≡ n = rw length-take (omega arith) in
        let free : length (mid_of used (4096 - used) bytes) ≡ 4096 - used = rw (length-take, length-drop) (omega arith) in
        let same : buf ≡ take n v.coming ++ drop (length (take n v.coming)) (mid_of used (4096 - used) bytes) =
        at
        ∙ ap (λ m. put false (text_fronts (asked end v (Some m) n) (utf8 (take n v.coming)) n v) (mid_of used (4096 - used) bytes)) free
        ∙ ap (λ o. put false (text_fronts o (utf8 (take n v.coming)) n v) (mid_of used (4096 - used) bytes)) ok
        ∙ ap (λ b. put false (text_fronts None b n v) (mid_of used (4096 - used) bytes)) came.good in
        ap (take n) (drop_at (take used bytes) (buf ++ post_of used (4096 - used) bytes) used front)
        ∙ ap (λ b. take n (b ++ post_of used (4096 - used) bytes)) same
        ∙ ap (take n) (append_assoc (take n v.coming) (drop (length (take n v.coming)) (mid_of used (4096 - used) bytes)) (post_of used (4096 - used) bytes))
        ∙ take_at (take n v.coming) (drop (length (take n v.coming)) (mid_of used (4096 - used) bytes) ++ post_of used (4096 - used) bytes) n whole

    pub slot_copied : taken_as.Copied ≡ taken → SlotTold (key_text_read lends end used n v) used bytes (Ok (Held used n)) bytes' w
    slot_copied at = by lends refl
      where
        by : (b : Bool) → lends ≡ b → SlotTold (key_text_read lends end used n v) used bytes (Ok (Held used n)) bytes' w
        by true h =
            let z : taken_as.Copied ≡ taken_as.Lent v.count = at ∙ came.lies_so ∙ ap (λ b. lies b v) h in
            let y : ◌≡◌ {A = ℕ} 0 1 = cc in
            absurd (omega arith)
        by false h =
            let ok : asked end v (Some (4096 - used)) n ≡ None = subst (λ b. asked end v (key_space b used) n ≡ None) h came.granted_it in
            let there = roomy end v (4096 - used) n ok in
            slot_got (Held used n)
            (record {
              column = ap copied (copied_there ok (subst (λ b. buf ≡ put b (text_fronts (asked end v (room b (mid_of used (4096 - used) bytes)) n) (utf8 (take n v.coming)) n v) (mid_of used (4096 - used) bytes)) h puts)) ∙ ap (λ b. column_of b n v) (sym h);
              begins = refl;
              fits = omega arith;
            })
