-- What comes by a tag: values, gaps and the keys of pairs.
use Rattle.std.proofs.Common.{◌≡◌, ℕ, suc, ◌+◌, ◌<◌, Bool, true, false, cond, eqb, ltb, ◌⊎◌, inl, inr, List, [], ◌∷◌, ◌++◌, length, pos, Some, None, Option, sym, refl, ap, ◌∙◌, subst, append_assoc, arith}
use Rattle.std.proofs.lemmas.Bool.{ltb-true, eqb-true, and_cases, ltb-false, eqb-false}
use Rattle.read.specs.Reader.{View, discarded}
use Rattle.format.specs.Numbers.{latching}
use Rattle.format.specs.declared.width.Width.{Width}
use Rattle.format.specs.declared.width.Width.TheVariants.{W8, W16, W32, W64}
use Rattle.format.specs.declared.refusal.ReadError.{ReadError}
use Rattle.format.specs.declared.refusal.ReadError.TheVariants as error
use Rattle.format.specs.declared.refusal.Kind.TheVariants as kind
use Rattle.format.specs.declared.refusal.Cause.{Cause}
use Rattle.format.specs.declared.refusal.Cause.TheVariants as cause
use Rattle.format.specs.declared.refusal.Refusal.{Refusal}
use Rattle.bunser.specs.declared.text.TextKind.{TextKind}
use Rattle.bunser.specs.declared.text.TextKind.TheVariants as text
use Rattle.bunser.specs.declared.text.Unread.{Unread}
use Rattle.bunser.specs.Outcome.{Outcome, at, placed}
use Rattle.bunser.specs.Reads.{peek_read, int_read, real_read}
use Rattle.bunser.specs.Texts.{placed_count, key_length_read}
use Rattle.room.specs.Open.{Column, column_bytes, Open, items, pairs, rows, filled, keyed, depth, keys_held, bytes_held}
use Rattle.room.specs.KeyList.{key_list_read}
use Rattle.values.specs.Values.{Value, null, yes_value, no_value, encoding, count_encoding, keys_encoding, Formed, Fits}
use Rattle.values.specs.Values as value
use Rattle.values.specs.Limits.{LevelFree, RoomForKeys, RowsKeyed, key_bytes}
use Rattle.de.specs.declared.event.Event.{Event}
use Rattle.de.specs.declared.event.Event.TheVariants as event
use Rattle.de.specs.declared.event.Ahead.TheVariants as ahead
use Rattle.de.specs.Shown.{shown}
use Rattle.de.specs.Steps.{Body, Coming, comes, halts, passes, moved, awaiting, behind, reading, int_comes, real_comes, text_comes, key_comes, tag_comes, levelled, array_comes, object_comes, keyless, rows_by, rows_come, template_comes, gap_comes, tagged, item_comes, text_step}
use Rattle.runs.specs.Law.{HandedOut, limits}
use Rattle.runs.proofs.Taking.{none_ahead, level, levels, all_named, Fit, Wants, Plain, null_is, true_is, false_is, integer_is, real_is, template_front, TemplateWithin, Takes, plain_comes, Tagged, Front, head_taken, KeyWanted, TextWanted}
use Rattle.runs.proofs.Taking as taking
use Rattle.runs.proofs.Stepped.{Ready, Stepped, Stopped}
use Rattle.runs.proofs.Keys.{KeyListRead, key_list_reads}
use Rattle.runs.proofs.Encoded.{names_count}
use Rattle.runs.proofs.Levels.{many_named, levels_filled, levels_depth, levels_keys, room_by_columns, room_by_names, wanted_open, key_wanted_open, fit_filled, level_free, keys_fit}
use Rattle.runs.proofs.Took.{Gotten, gotten_more, gotten_as, gotten_on}
use Rattle.runs.proofs.Reading.{Comes, Failed, Halted, halted_before, failed_behind, halted_behind, placed_comes, Peeked, peeked_untaken, placed_peek_reads}
use Rattle.runs.proofs.NumberReads.{NumberRead, int_reads, RealRead, real_reads, CountRead, placed_count_reads, KeyLengthRead, key_length_reads}
use Rattle.runs.proofs.Made.{Made, Goes, cond_made, passed, halted, reading_made}
use Rattle.runs.proofs.TextSteps.{text_made, made_behind}

rows_keyed : (lends : Bool) (n : ℕ) (cs : List Column) (m : ℕ) → length cs ≡ m → keyless n cs ≡ false → RowsKeyed (limits lends) n m
rows_keyed lends n cs m same e = by_limits lends (by_case (and_cases (ltb 0 n) (eqb (length cs) 0) e))
  where
    by_case : (ltb 0 n ≡ false) ⊎ (eqb (length cs) 0 ≡ false) → 0 < n → 0 < m
    by_case (inl h) some = let k = ltb-false 0 n h in omega arith
    by_case (inr h) some = let k = eqb-false (length cs) 0 h in omega arith

    by_limits : (lends : Bool) → (0 < n → 0 < m) → RowsKeyed (limits lends) n m
    by_limits true h = h
    by_limits false h = h

module _ (lends : Bool) (input : List ℕ) (space : Option ℕ) (b : Body) (ready : Ready lends input b) (calm : b.unread ≡ None) where
  -- a text is awaited, and then its bytes are read
  awaited_made : (k : TextKind) (n t : ℕ) (w : Width) (v : View) → Tagged k t → Fits w (pos n) → TextWanted k (levels input b.opens) → Gotten lends b.end b.reader v (t ∷ count_encoding w n) →
      Made lends input space b (text_step lends space (record { kind = k; len = n }) (awaiting b v (record { kind = k; len = n })))
  awaited_made k n t w v tag fits wanted g =
      made_behind lends input b c
      (record {
        waiting = record {
          bytes = t ∷ count_encoding w n;
          took = g.took;
          front = λ front h. subst (λ l. Front (Some u) (l ++ (t ∷ count_encoding w n))) (sym (none_ahead h calm)) (head_taken t w tag fits);
          ready = awaits;
        };
        end = refl;
        opens = refl;
        events = refl;
        inside = g.inside;
      })
      space (text_step lends space u c) (text_made lends input c awaits space u refl)
    where
      u : Unread
      u = record { kind = k; len = n }

      c : Body
      c = awaiting b v (record { kind = k; len = n })

      awaits : Ready lends input (awaiting b v (record { kind = k; len = n }))
      awaits = record { solid = gotten_on g ready.solid; fit = ready.fit; waits = wanted; held = ready.held }

  pub key_made : KeyWanted (levels input b.opens) → Goes lends input space b (key_comes lends b)
  unfolding key_comes
  key_made wanted =
      reading_made (KeyLengthRead lends b.end b.reader) (Halted b.end b.reader) lends input space b b (key_length_read lends b.end kind.MapKey b.reader)
      (λ n v. comes (ahead.Text (record { kind = text.Key; len = n })) (awaiting b v (record { kind = text.Key; len = n })))
      (key_length_reads lends b.end kind.MapKey b.reader ready.solid.octets) (halted lends input b ready (key_wanted_open input b.opens wanted))
      (λ n v r. awaited_made text.Key n r.tag r.width v r.key r.fits wanted r.gotten)

  module _ (wants : Wants (levels input b.opens)) where
    more : b.opens ≡ [] → ⊥
    more = wanted_open input b.opens wants

    -- a value has begun, which may lead deeper
    begun : (e : Event) (t : value.Event) (w : View) (bs : List ℕ) → Gotten lends b.end b.reader w bs → Takes (limits lends) (levels input b.opens) bs t (filled (levels input b.opens)) →
        HandedOut lends e → ((buf : List ℕ) → shown input buf e ≡ t) →
        Stepped lends input b e (behind b w (filled b.opens)) []
    begun e t w bs g takes origin shows =
        passed lends input b ready calm e [] t w bs (filled b.opens) g (subst (Takes (limits lends) (levels input b.opens) bs t) (sym (levels_filled input b.opens)) takes) (fit_filled lends b.opens ready.fit) origin shows

    module _ (w : View) where
      -- what is refused behind a tag
      stopped_behind : {t : ℕ} → Peeked lends b.end b.reader t w → (f : Refusal) (u : View) → Halted b.end (discarded lends w) f u → Stopped lends input space b f (moved b u)
      stopped_behind s f u h = halted lends input b ready more f u (halted_behind s.gotten h)

      -- the tag is not taken
      stopped_before : {t : ℕ} → Peeked lends b.end b.reader t w → (c : Cause) → latching c ≡ true → Stopped lends input space b (record { place = w.count; cause = c }) (moved b w)
      stopped_before s c h = halted lends input b ready more (record { place = w.count; cause = c }) w (halted_before s c h)

      tag_made : (e : Event) (t : value.Event) (n : ℕ) → Peeked lends b.end b.reader n w → Takes (limits lends) (levels input b.opens) (n ∷ []) t (filled (levels input b.opens)) →
          HandedOut lends e → ((buf : List ℕ) → shown input buf e ≡ t) →
          Goes lends input space b (tag_comes lends e (moved b w))
      unfolding tag_comes
      tag_made e t n s takes origin shows = begun e t (discarded lends w) (n ∷ []) s.gotten takes origin shows

      -- the place of a number is its tag's
      number_reads : {A : Type 0} {t : ℕ} (gave : A → View → Type 0) → Peeked lends b.end b.reader t w → (m : Outcome ReadError A) → Comes gave (Failed b.end (discarded lends w)) m →
          Comes gave (Halted b.end b.reader) (placed w.count m)
      number_reads gave s m h = placed_comes gave (Failed b.end (discarded lends w)) b.end b.reader w.count m (let e = (peeked_untaken s).took.count in omega arith) h (λ e u f. failed_behind s.gotten f)

      int_made : (k : Width) → Peeked lends b.end b.reader (value.int_tag k) w → Goes lends input space b (int_comes lends k (moved b w))
      unfolding int_comes
      int_made k s =
          reading_made (NumberRead lends b.end (discarded lends w) k) (Halted b.end b.reader) lends input space b (moved b w) (placed w.count (int_read lends b.end k (discarded lends w)))
          (λ z v. passes (event.Int k z) (moved b w) v (filled b.opens))
          (number_reads (NumberRead lends b.end (discarded lends w) k) s (int_read lends b.end k (discarded lends w)) (int_reads lends b.end (discarded lends w) (gotten_on s.gotten ready.solid).octets k))
          (halted lends input b ready more)
          (λ z v r. begun (event.Int k z) (value.an_integer k z) v (value.int_encoding k z) (gotten_more s.gotten r.gotten) (plain_comes wants (integer_is k z) r.fits) tt (λ buf. refl))

      real_made : Peeked lends b.end b.reader 0x07 w → Goes lends input space b (real_comes lends (moved b w))
      unfolding real_comes
      real_made s =
          reading_made (RealRead lends b.end (discarded lends w)) (Halted b.end b.reader) lends input space b (moved b w) (placed w.count (real_read lends b.end (discarded lends w)))
          (λ n v. passes (event.Real n) (moved b w) v (filled b.opens))
          (number_reads (RealRead lends b.end (discarded lends w)) s (real_read lends b.end (discarded lends w)) (real_reads lends b.end (discarded lends w) (gotten_on s.gotten ready.solid).octets))
          (halted lends input b ready more)
          (λ n v r. begun (event.Real n) (value.a_real n) v (0x07 ∷ value.digits 8 n) (gotten_more s.gotten r.gotten) (plain_comes wants (real_is n) r.small) tt (λ buf. refl))

      levelled_made : {t : ℕ} (m : Coming) → Peeked lends b.end b.reader t w → (depth b.opens < 128 → Goes lends input space b m) → Goes lends input space b (levelled (moved b w) m)
      levelled_made m s h =
          cond_made lends input space b (ltb (depth b.opens) 128) m (halts (record { place = w.count; cause = cause.Depth }) (moved b w)) (λ e. h (ltb-true (depth b.opens) 128 e))
          (λ e. stopped_before s cause.Depth refl)

      free : depth b.opens < 128 → LevelFree (limits lends) (depth (levels input b.opens))
      free h = subst (LevelFree (limits lends)) (sym (levels_depth input b.opens)) (level_free lends (depth b.opens) h)

      -- a count behind a tag, and then so many parts
      counted_made : {t : ℕ} (e : Event) (begins : value.Event) (o : ℕ → Open Column) → Peeked lends b.end b.reader t w → HandedOut lends e → ((buf : List ℕ) → shown input buf e ≡ begins) →
          ((k : Width) (n : ℕ) → Fits k (pos n) → Takes (limits lends) (levels input b.opens) (t ∷ count_encoding k n) begins (level input (o n) ∷ filled (levels input b.opens))) →
          ((n : ℕ) → Fit lends (o n ∷ filled b.opens)) →
          Goes lends input space b (reading (placed_count lends b.end (discarded lends w)) (moved b w) (λ n v. passes e (moved b w) v (o n ∷ filled b.opens)))
      counted_made {t} e begins o s origin shows takes fit =
          reading_made (CountRead lends b.end (discarded lends w)) (Halted b.end (discarded lends w)) lends input space b (moved b w) (placed_count lends b.end (discarded lends w))
          (λ n v. passes e (moved b w) v (o n ∷ filled b.opens))
          (placed_count_reads lends b.end (discarded lends w) (gotten_on s.gotten ready.solid).octets) (stopped_behind s)
          (λ n v c.
          passed lends input b ready calm e [] begins v (t ∷ count_encoding c.width n) (o n ∷ filled b.opens) (gotten_more s.gotten c.gotten)
          (subst (λ l. Takes (limits lends) (levels input b.opens) (t ∷ count_encoding c.width n) begins (level input (o n) ∷ l)) (sym (levels_filled input b.opens)) (takes c.width n c.fits)) (fit n) origin shows)

      array_made : Peeked lends b.end b.reader 0x00 w → Goes lends input space b (array_comes lends (moved b w))
      unfolding array_comes
      array_made s =
          levelled_made _ s (λ h. counted_made event.ArrayBegin value.array_begin items s tt (λ buf. refl) (λ k n f. taking.array_comes wants k n f (free h)) (λ n. fit_filled lends b.opens ready.fit))

      object_made : Peeked lends b.end b.reader 0x01 w → Goes lends input space b (object_comes lends (moved b w))
      unfolding object_comes
      object_made s =
          levelled_made _ s (λ h. counted_made event.MapBegin value.map_begin pairs s tt (λ buf. refl) (λ k n f. taking.object_comes wants k n f (free h)) (λ n. fit_filled lends b.opens ready.fit))

      text_tag_made : (k : TextKind) (t : ℕ) → Peeked lends b.end b.reader t w → Tagged k t → TextWanted k (levels input b.opens) → Goes lends input space b (text_comes lends k (moved b w))
      unfolding text_comes
      text_tag_made k t s tag wanted =
          reading_made (CountRead lends b.end (discarded lends w)) (Halted b.end (discarded lends w)) lends input space b (moved b w) (placed_count lends b.end (discarded lends w))
          (λ n v. comes (ahead.Text (record { kind = k; len = n })) (awaiting b v (record { kind = k; len = n })))
          (placed_count_reads lends b.end (discarded lends w) (gotten_on s.gotten ready.solid).octets) (stopped_behind s)
          (λ n v c. awaited_made k n t c.width v tag c.fits wanted (gotten_more s.gotten c.gotten))

      -- the rows behind a key list
      module _ (s : Peeked lends b.end b.reader 0x0b w) (shallow : depth b.opens < 128) (cs : List Column) (v : View)
          (r : KeyListRead lends input b.end (depth b.opens) (keys_held b.opens) (bytes_held column_bytes b.opens) (discarded lends w) cs v) where
        list_gotten : Gotten lends b.end b.reader v (0x0b ∷ 0x00 ∷ (count_encoding r.width (length r.list) ++ keys_encoding r.list))
        list_gotten = gotten_more s.gotten r.gotten

        within : (n : ℕ) → keyless n cs ≡ false → TemplateWithin (limits lends) (levels input b.opens) r.list n
        within n keyed = record {
          own_level = free shallow;
          list_level = subst (λ d. LevelFree (limits lends) (suc d)) (sym (levels_depth input b.opens)) (level_free lends (suc (depth b.opens)) r.level);
          few_keys = subst (λ k. RoomForKeys (limits lends) (k + length r.list)) (sym (levels_keys input b.opens)) (keys_fit lends (keys_held b.opens + length r.list) r.few);
          few_bytes = room_by_names input lends b.opens (key_bytes r.list) ready.fit r.room;
          keyed = rows_keyed lends n cs (length r.list) (sym (many_named input cs) ∙ ap length r.names ∙ names_count r.list) keyed;
        }

        rows_begun : (n : ℕ) (u : View) → CountRead lends b.end v n u → keyless n cs ≡ false → Stepped lends input b event.ArrayBegin (behind b u (rows cs n ∷ filled b.opens)) []
        rows_begun n u c keyed =
            passed lends input b ready calm event.ArrayBegin [] value.array_begin u (template_front r.width r.list c.width n) (rows cs n ∷ filled b.opens)
            (gotten_as (ap (λ l. 0x0b ∷ 0x00 ∷ l) (append_assoc (count_encoding r.width (length r.list)) (keys_encoding r.list) (count_encoding c.width n))) (gotten_more list_gotten c.gotten))
            (subst (λ l. Takes (limits lends) (levels input b.opens) (template_front r.width r.list c.width n) value.array_begin (rows (all_named input cs) n ∷ l)) (sym (levels_filled input b.opens))
            (subst (λ l. Takes (limits lends) (levels input b.opens) (template_front r.width r.list c.width n) value.array_begin (rows l n ∷ filled (levels input b.opens))) (sym r.names)
            (taking.template_comes wants r.width r.list c.width n r.fits r.formed c.fits (within n keyed))))
            (r.lie, fit_filled lends b.opens ready.fit) tt (λ buf. refl)

        rows_made : Goes lends input space b (rows_come lends cs (moved b w) v)
        unfolding rows_come
        rows_made =
            reading_made (CountRead lends b.end v) (Halted b.end v) lends input space b (moved b w) (placed_count lends b.end v) (λ n u. rows_by cs v.count n (moved b w) u)
            (placed_count_reads lends b.end v (gotten_on list_gotten ready.solid).octets) (λ f u h. halted lends input b ready more f u (halted_behind list_gotten h))
            (λ n u c.
            cond_made lends input space b (keyless n cs) (halts (record { place = v.count; cause = cause.NoKeys }) (moved b u)) (passes event.ArrayBegin (moved b w) u (rows cs n ∷ filled b.opens))
            (λ e. halted lends input b ready more (record { place = v.count; cause = cause.NoKeys }) u (halted_behind list_gotten (record { after = omega arith; latches = refl; inside = c.gotten.inside })))
            (λ e. rows_begun n u c e))

      template_made : Peeked lends b.end b.reader 0x0b w → Goes lends input space b (template_comes lends (moved b w))
      unfolding template_comes
      template_made s =
          levelled_made _ s (λ h.
          reading_made (KeyListRead lends input b.end (depth b.opens) (keys_held b.opens) (bytes_held column_bytes b.opens) (discarded lends w)) (Halted b.end (discarded lends w)) lends input space b (moved b w)
          (key_list_read lends b.end (depth b.opens) (keys_held b.opens) (bytes_held column_bytes b.opens) (discarded lends w)) (λ cs v. rows_come lends cs (moved b w) v)
          (key_list_reads lends input b.end (depth b.opens) (keys_held b.opens) (bytes_held column_bytes b.opens) (discarded lends w) (gotten_on s.gotten ready.solid)
          (room_by_columns input lends b.opens ready.fit ready.held))
          (stopped_behind s) (rows_made s h))

      -- ---- an item by its tag, where a gap may stand only before a cell

      module _ (may : Bool) (gap : may ≡ true → Takes (limits lends) (levels input b.opens) (0x0c ∷ []) value.absent (filled (levels input b.opens))) (t : ℕ) (s : Peeked lends b.end b.reader t w) where
        no_item_made : Stopped lends input space b (at (error.Byte kind.NextItem t) w.count) (moved b w)
        no_item_made = stopped_before s (cause.Read (error.Byte kind.NextItem t)) refl

        tag_is : (n : ℕ) → eqb t n ≡ true → Peeked lends b.end b.reader n w
        tag_is n e = subst (λ t. Peeked lends b.end b.reader t w) (eqb-true t n e) s

        gap_made : (c : Bool) → may ≡ c → Peeked lends b.end b.reader 0x0c w → Goes lends input space b (gap_comes lends c t (moved b w))
        gap_made true e s = tag_made event.Absent value.absent 0x0c s (gap e) tt (λ buf. refl)
        gap_made false e s = no_item_made

        either : (n : ℕ) (m o : Coming) → (Peeked lends b.end b.reader n w → Goes lends input space b m) → Goes lends input space b o → Goes lends input space b (cond (eqb t n) m o)
        either n m o h k = cond_made lends input space b (eqb t n) m o (λ e. h (tag_is n e)) (λ e. k)

        plain_tag : (n : ℕ) (e : Event) (v : Value) (p : value.Event) → Plain v p → Formed v → encoding v ≡ n ∷ [] → HandedOut lends e → ((buf : List ℕ) → shown input buf e ≡ p) → Peeked lends b.end b.reader n w →
            Goes lends input space b (tag_comes lends e (moved b w))
        plain_tag n e v p plain formed is origin shows s = tag_made e p n s (subst (λ l. Takes (limits lends) (levels input b.opens) l p (filled (levels input b.opens))) is (plain_comes wants plain formed)) origin shows

        tagged_made : Goes lends input space b (tagged lends may t (moved b w))
        unfolding tagged
        tagged_made =
            either 0x00 _ _ array_made
            (either 0x01 _ _ object_made
            (either 0x02 _ _ (λ s. text_tag_made text.Bytes 0x02 s refl wants)
            (either 0x03 _ _ (int_made W8)
            (either 0x04 _ _ (int_made W16)
            (either 0x05 _ _ (int_made W32)
            (either 0x06 _ _ (int_made W64)
            (either 0x07 _ _ real_made
            (either 0x08 _ _ (plain_tag 0x08 event.True yes_value value.is_true true_is tt refl tt (λ buf. refl))
            (either 0x09 _ _ (plain_tag 0x09 event.False no_value value.is_false false_is tt refl tt (λ buf. refl))
            (either 0x0a _ _ (plain_tag 0x0a event.Null null value.is_null null_is tt refl tt (λ buf. refl))
            (either 0x0b _ _ template_made
            (either 0x0c _ _ (gap_made may refl)
            (either 0x0d _ _ (λ s. text_tag_made text.Text 0x0d s refl wants)
            no_item_made)))))))))))))

    pub item_made : (may : Bool) → (may ≡ true → Takes (limits lends) (levels input b.opens) (0x0c ∷ []) value.absent (filled (levels input b.opens))) →
        Goes lends input space b (item_comes lends may b)
    unfolding item_comes
    item_made may gap =
        reading_made (Peeked lends b.end b.reader) (Halted b.end b.reader) lends input space b b (placed b.reader.count (peek_read b.end b.reader)) (λ t v. tagged lends may t (moved b v))
        (placed_peek_reads lends b.end b.reader) (halted lends input b ready more) (λ t w s. tagged_made w may gap t s)
