-- What the read of a template's key list has taken, and what it has left where it was refused.
use Rattle.std.proofs.Common.{◌≡◌, ℕ, zero, suc, ◌+◌, ◌-◌, ◌<◌, ◌≤◌, Bool, true, false, eqb, ltb, leb, ◌⊎◌, inl, inr, List, [], ◌∷◌, ◌++◌, length, take, drop, pos, Option, sym, refl, ap, ◌∙◌, subst, arith, add-zero}
use Rattle.std.proofs.lemmas.Bool.{ltb-true, ltb-false, leb-true, eqb-true}
use Rattle.std.proofs.lemmas.List.{drop_at}
use Rattle.source.specs.Sound.{octets_take}
use Rattle.read.specs.declared.Taken.{Taken}
use Rattle.read.specs.Reader.{View, cramped, discarded}
use Rattle.format.specs.Numbers.{latching}
use Rattle.format.specs.declared.width.Width.{Width}
use Rattle.format.specs.declared.refusal.ReadError.{ReadError}
use Rattle.format.specs.declared.refusal.ReadError.TheVariants.{Room, Byte}
use Rattle.format.specs.declared.refusal.Kind.TheVariants.{KeyList, TemplateKey}
use Rattle.format.specs.declared.refusal.Cause.TheVariants.{Read, Depth, KeyRoom}
use Rattle.format.specs.declared.refusal.Refusal.{Refusal}
use Rattle.bunser.specs.Outcome.{Outcome, got, bad, and_then, at, placed}
use Rattle.bunser.specs.Reads.{peek_read}
use Rattle.bunser.specs.Texts.{text_read, placed_count, key_length_read}
use Rattle.bunser.specs.declared.text.TextKind.TheVariants as kind
use Rattle.room.specs.Open.{Column, lent, copied, column_bytes}
use Rattle.room.specs.KeyList.{key_space, room_cause, in_key_room, column_of, key_text_read, key_read, keys_read, counted_keys, levelled, listed, key_list_read}
use Rattle.values.specs.Values.{Key, KeyTag, as_bytes, as_text, key_tag, count_encoding, key_encoding, keys_encoding, Fits, KeyFormed, KeysFormed}
use Rattle.values.specs.Limits.{RoomForKeyBytes, key_bytes}
use Rattle.runs.specs.Law.{limits}
use Rattle.runs.proofs.Taking.{named, all_named, Lies, AllLie, key_names}
use Rattle.runs.proofs.Stepped.{Solid}
use Rattle.runs.proofs.Digits.{octets_are_bytes}
use Rattle.runs.proofs.Took.{Gotten, gotten_none, gotten_more, gotten_as, gotten_on}
use Rattle.bunser.proofs.Granting.{asked_none}
use Rattle.runs.proofs.Reading.{Comes, Halted, halted_before, halted_behind, then_comes, cond_comes, Peeked, placed_peek_reads}
use Rattle.runs.proofs.NumberReads.{CountRead, placed_count_reads, KeyLengthRead, key_length_reads}
use Rattle.runs.proofs.TextReads.{TextRead, TextRefused, text_reads}

-- ---- the column of a key

-- what a reader that lends has at its count is what comes
pub lent_bytes : (input : List ℕ) (v : View) (n : ℕ) → Solid true input v → take n (drop v.count input) ≡ take n v.coming
lent_bytes input v n s = ap (λ l. take n (drop v.count l)) (s.whole refl) ∙ ap (take n) (drop_at v.kept v.coming v.count s.kept_all)

named_column : (lends : Bool) (input : List ℕ) (v : View) (n : ℕ) → Solid lends input v → named input (column_of lends n v) ≡ take n v.coming
named_column true input v n s = lent_bytes input v n s
named_column false input v n s = refl

column_lies : (lends : Bool) (v : View) (n : ℕ) → Lies lends (column_of lends n v)
column_lies true v n = tt
column_lies false v n = tt

-- the key bytes of a column that was copied are those of its name
names_take_up : (lends : Bool) (input : List ℕ) (c : Column) (held n : ℕ) → Lies lends c → RoomForKeyBytes (limits lends) ((held + column_bytes (c ∷ [])) + n) →
    RoomForKeyBytes (limits lends) (held + (length (named input c) + n))
names_take_up true input c held n l r = tt
names_take_up false input (lent p m) held n l r = absurd l
names_take_up false input (copied bs) held n l r = omega arith

room_taken : (lends : Bool) (held n : ℕ) (v : View) → RoomForKeyBytes (limits lends) held → length (take n v.coming) ≡ n → cramped (key_space lends held) n ≡ false →
    RoomForKeyBytes (limits lends) (held + column_bytes (column_of lends n v ∷ []))
room_taken true held n v r long fits = tt
room_taken false held n v r long fits = let k = ltb-false (4096 - held) n fits in omega arith

-- ---- one key

-- a key was read of its encoding
pub record KeyRead (lends : Bool) (input : List ℕ) (end : Option ℕ) (held : ℕ) (v : View) (c : Column) (u : View) : Type 0 where
  pub key : Key
  pub formed : KeyFormed key
  pub name : named input c ≡ key.name
  pub lie : Lies lends c
  pub room : RoomForKeyBytes (limits lends) (held + column_bytes (c ∷ []))
  pub gotten : Gotten lends end v u (key_encoding key)

room_cause_latches : (e : ReadError) → latching (room_cause e) ≡ true
room_cause_latches Room = refl
room_cause_latches e = refl

key_tag_is : (t : ℕ) → (t ≡ 0x02) ⊎ (t ≡ 0x0d) → (k : KeyTag) × (t ≡ key_tag k)
key_tag_is t (inl e) = (as_bytes, e)
key_tag_is t (inr e) = (as_text, e)

module _ (lends : Bool) (input : List ℕ) (end : Option ℕ) (held : ℕ) (v : View) (solid : Solid lends input v) (room : RoomForKeyBytes (limits lends) held) where
  -- the text of a key whose tag and length were read
  key_text_reads : (n : ℕ) (w : View) → KeyLengthRead lends end v n w → Comes (KeyRead lends input end held v) (Halted end v) (key_text_read lends end held n w)
  key_text_reads n w l = by_text (text_read lends end (key_space lends held) n w) (text_reads lends end (key_space lends held) n w kind.Key)
    where
      sound : Solid lends input w
      sound = gotten_on l.gotten solid

      key_of : (t : Taken) (u : View) → TextRead kind.Key lends end (key_space lends held) n w t u → (k : KeyTag) × (l.tag ≡ key_tag k) → KeyRead lends input end held v (column_of lends n w) u
      key_of t u r (k, is) =
          let bytes = take n w.coming in
          let g = asked_none end w (key_space lends held) n r.granted in
          record {
            key = record { tag = k; width = l.width; name = bytes };
            formed = ((subst (λ m. Fits l.width (pos m)) (sym r.long) l.fits, octets_are_bytes bytes (octets_take n w.coming sound.octets)), r.textual);
            name = named_column lends input w n sound;
            lie = column_lies lends w n;
            room = room_taken lends held n w room r.long g.roomy;
            gotten = gotten_as (ap (λ t. t ∷ (count_encoding l.width n ++ bytes)) is ∙ ap (λ m. key_tag k ∷ (count_encoding l.width m ++ bytes)) (sym r.long)) (gotten_more l.gotten r.gotten);
          }

      by_text : (m : Outcome ReadError Taken) → Comes (TextRead kind.Key lends end (key_space lends held) n w) (TextRefused kind.Key lends end (key_space lends held) n w) m →
          Comes (KeyRead lends input end held v) (Halted end v) (and_then (in_key_room w.count m) (λ _ u. got (column_of lends n w) u))
      by_text (got t u) r = key_of t u r (key_tag_is l.tag l.key)
      by_text (bad e u) r = halted_behind l.gotten (record { after = omega arith; latches = room_cause_latches e; inside = r.inside })

  key_reads : Comes (KeyRead lends input end held v) (Halted end v) (key_read lends end held v)
  unfolding key_read
  key_reads =
      then_comes (KeyLengthRead lends end v) (Halted end v) (KeyRead lends input end held v) (Halted end v) (key_length_read lends end TemplateKey v) (key_text_read lends end held)
      (key_length_reads lends end TemplateKey v solid.octets) key_text_reads (λ f w h. h)

-- ---- the list

-- so many keys were read of their encodings
pub record KeysRead (lends : Bool) (input : List ℕ) (end : Option ℕ) (held n : ℕ) (v : View) (cs : List Column) (u : View) : Type 0 where
  pub keys : List Key
  pub formed : KeysFormed keys
  pub many : length keys ≡ n
  pub names : all_named input cs ≡ key_names keys
  pub lie : AllLie lends cs
  pub room : RoomForKeyBytes (limits lends) (held + key_bytes keys)
  pub gotten : Gotten lends end v u (keys_encoding keys)

module _ (lends : Bool) (input : List ℕ) (end : Option ℕ) where
  one_more : {held n : ℕ} {v w u : View} {c : Column} {cs : List Column} → KeyRead lends input end held v c w → KeysRead lends input end (held + column_bytes (c ∷ [])) n w cs u →
      KeysRead lends input end held (suc n) v (c ∷ cs) u
  one_more {held} {n} {v} {w} {u} {c} {cs} k r = record {
    keys = k.key ∷ r.keys;
    formed = (k.formed, r.formed);
    many = ap suc r.many;
    names = ap (λ x. x ∷ all_named input cs) k.name ∙ ap (λ l. k.key.name ∷ l) r.names;
    lie = (k.lie, r.lie);
    room = subst (λ x. RoomForKeyBytes (limits lends) (held + (length x + key_bytes r.keys))) k.name (names_take_up lends input c held (key_bytes r.keys) k.lie r.room);
    gotten = gotten_more k.gotten r.gotten;
  }

  -- a key and then the others, where these are read as they should
  first_key_reads : (held n : ℕ) (v : View) → Solid lends input v → RoomForKeyBytes (limits lends) held →
      ((h : ℕ) (w : View) → Solid lends input w → RoomForKeyBytes (limits lends) h → Comes (KeysRead lends input end h n w) (Halted end w) (keys_read lends end h n w)) →
      Comes (KeysRead lends input end held (suc n) v) (Halted end v) (keys_read lends end held (suc n) v)
  first_key_reads held n v solid room others =
      then_comes (KeyRead lends input end held v) (Halted end v) (KeysRead lends input end held (suc n) v) (Halted end v) (key_read lends end held v)
      (λ k w. and_then (keys_read lends end (held + column_bytes (k ∷ [])) n w) (λ ks u. got (k ∷ ks) u)) (key_reads lends input end held v solid room)
      (λ c w k.
      then_comes (KeysRead lends input end (held + column_bytes (c ∷ [])) n w) (Halted end w) (KeysRead lends input end held (suc n) v) (Halted end v) (keys_read lends end (held + column_bytes (c ∷ [])) n w)
      (λ ks u. got (c ∷ ks) u) (others (held + column_bytes (c ∷ [])) w (gotten_on k.gotten solid) k.room) (λ cs u r. one_more k r) (λ f u h. halted_behind k.gotten h))
      (λ f w h. h)

  keys_reads : (held n : ℕ) (v : View) → Solid lends input v → RoomForKeyBytes (limits lends) held → Comes (KeysRead lends input end held n v) (Halted end v) (keys_read lends end held n v)
  keys_reads held zero v solid room =
      record { keys = []; formed = tt; many = refl; names = refl; lie = tt; room = subst (λ n. RoomForKeyBytes (limits lends) n) (sym (add-zero held)) room; gotten = gotten_none lends end v }
  keys_reads held (suc n) v solid room = first_key_reads held n v solid room (λ h w. keys_reads h n w)

-- a key list was read of its encoding
pub record KeyListRead (lends : Bool) (input : List ℕ) (end : Option ℕ) (levels keys held : ℕ) (v : View) (cs : List Column) (u : View) : Type 0 where
  pub width : Width
  pub list : List Key
  pub fits : Fits width (pos (length list))
  pub formed : KeysFormed list
  pub names : all_named input cs ≡ key_names list
  pub lie : AllLie lends cs
  pub level : suc levels < 128
  pub few : keys + length list ≤ 256
  pub room : RoomForKeyBytes (limits lends) (held + key_bytes list)
  pub gotten : Gotten lends end v u (0x00 ∷ (count_encoding width (length list) ++ keys_encoding list))

module _ (lends : Bool) (input : List ℕ) (end : Option ℕ) (levels keys held : ℕ) (v : View) (solid : Solid lends input v) (room : RoomForKeyBytes (limits lends) held) where
  -- behind the tag of an array
  module _ (w : View) (shown : Peeked lends end v 0x00 w) (level : suc levels < 128) where
    list_read : (n : ℕ) (u : View) (cs : List Column) (x : View) → CountRead lends end (discarded lends w) n u → keys + n ≤ 256 → KeysRead lends input end held n u cs x →
        KeyListRead lends input end levels keys held v cs x
    list_read n u cs x c few k = record {
      width = c.width;
      list = k.keys;
      fits = subst (λ m. Fits c.width (pos m)) (sym k.many) c.fits;
      formed = k.formed;
      names = k.names;
      lie = k.lie;
      level = level;
      few = let m = k.many in omega arith;
      room = k.room;
      gotten = gotten_as (ap (λ m. 0x00 ∷ (count_encoding c.width m ++ keys_encoding k.keys)) (sym k.many)) (gotten_more shown.gotten (gotten_more c.gotten k.gotten));
    }

    counted_reads : (n : ℕ) (u : View) → CountRead lends end (discarded lends w) n u →
        Comes (KeyListRead lends input end levels keys held v) (Halted end v) (counted_keys lends end keys held (discarded lends w).count n u)
    counted_reads n u c =
        cond_comes (KeyListRead lends input end levels keys held v) (Halted end v) (leb (keys + n) 256) (keys_read lends end held n u) (bad (record { place = (discarded lends w).count; cause = KeyRoom }) u)
        (λ e. by_keys (leb-true (keys + n) 256 e) (keys_read lends end held n u) (keys_reads lends input end held n u (gotten_on c.gotten (gotten_on shown.gotten solid)) room))
        (λ e. halted_behind shown.gotten (record { after = omega arith; latches = refl; inside = c.gotten.inside }))
      where
        by_keys : keys + n ≤ 256 → (m : Outcome Refusal (List Column)) → Comes (KeysRead lends input end held n u) (Halted end u) m →
            Comes (KeyListRead lends input end levels keys held v) (Halted end v) m
        by_keys few (got cs x) k = list_read n u cs x c few k
        by_keys few (bad f x) h = halted_behind shown.gotten (halted_behind c.gotten h)

    behind_tag_reads : Comes (KeyListRead lends input end levels keys held v) (Halted end v) (and_then (placed_count lends end (discarded lends w)) (counted_keys lends end keys held (discarded lends w).count))
    behind_tag_reads =
        then_comes (CountRead lends end (discarded lends w)) (Halted end (discarded lends w)) (KeyListRead lends input end levels keys held v) (Halted end v)
        (placed_count lends end (discarded lends w)) (counted_keys lends end keys held (discarded lends w).count)
        (placed_count_reads lends end (discarded lends w) (gotten_on shown.gotten solid).octets) counted_reads (λ f u h. halted_behind shown.gotten h)

  listed_reads : (t : ℕ) (w : View) → Peeked lends end v t w → Comes (KeyListRead lends input end levels keys held v) (Halted end v) (listed lends end levels keys held t w)
  listed_reads t w s =
      cond_comes (KeyListRead lends input end levels keys held v) (Halted end v) (eqb t 0x00) (levelled lends end levels keys held w) (bad (at (Byte KeyList t) w.count) w)
      (λ e. levelled_reads (subst (λ t. Peeked lends end v t w) (eqb-true t 0x00 e) s))
      (λ e. halted_before s (Read (Byte KeyList t)) refl)
    where
      levelled_reads : Peeked lends end v 0x00 w → Comes (KeyListRead lends input end levels keys held v) (Halted end v) (levelled lends end levels keys held w)
      levelled_reads s =
          cond_comes (KeyListRead lends input end levels keys held v) (Halted end v) (ltb (suc levels) 128)
          (and_then (placed_count lends end (discarded lends w)) (counted_keys lends end keys held (discarded lends w).count)) (bad (record { place = w.count; cause = Depth }) w)
          (λ e. behind_tag_reads w s (ltb-true (suc levels) 128 e))
          (λ e. halted_before s Depth refl)

  pub key_list_reads : Comes (KeyListRead lends input end levels keys held v) (Halted end v) (key_list_read lends end levels keys held v)
  unfolding key_list_read
  key_list_reads =
      then_comes (Peeked lends end v) (Halted end v) (KeyListRead lends input end levels keys held v) (Halted end v) (placed v.count (peek_read end v)) (listed lends end levels keys held)
      (placed_peek_reads lends end v) listed_reads (λ f w h. h)
