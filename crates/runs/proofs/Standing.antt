-- A read whose bytes stand, whatever follows them, gives what they encode, and leaves the reader behind them.
use Rattle.std.proofs.Common.{◌≡◌, ℕ, suc, ◌+◌, ◌-◌, ◌≤◌, ◌<◌, ◌^◌, Bool, true, false, cond, List, [], ◌∷◌, ◌++◌, length, get_or, take, drop, nat_lt, ℤ, pos, Some, None, Ok, Option, refl, sym, ap, ◌∙◌, subst, arith, append_assoc, length-append}
use Rattle.std.proofs.lemmas.Bool.{le-ltb, lt-ltb, le-leb, ltb-false}
use Rattle.std.proofs.lemmas.List.{take_at, drop_at}
use Rattle.utf8.specs.Utf8.{utf8}
use Rattle.read.specs.declared.Fault.TheVariants as fault
use Rattle.read.specs.Reader.{View, past, cramped, held, advanced, discarded, lies}
use Rattle.format.specs.declared.width.Width.{Width}
use Rattle.format.specs.declared.width.Width.TheVariants.{W8, W16, W32, W64}
use Rattle.format.specs.Integers.{bytes_of, little_endian, twos_complement}
use Rattle.format.specs.declared.refusal.ReadError.{ReadError}
use Rattle.format.specs.declared.refusal.ReadError.TheVariants as error
use Rattle.format.specs.declared.refusal.Kind.{Kind}
use Rattle.format.specs.declared.refusal.Kind.TheVariants.{TemplateKey}
use Rattle.format.specs.declared.refusal.Cause.TheVariants.{Depth, KeyRoom}
use Rattle.format.specs.declared.refusal.Refusal.{Refusal}
use Rattle.bunser.specs.Outcome.{Outcome, got, bad, and_then, at, placed, judged, asked, answer}
use Rattle.bunser.specs.Reads.{peek_read, bytes_read, int_read, real_read, int_width, behind_tag, tagged_int_read, count_of, told_as, count_read}
use Rattle.bunser.specs.Texts.{textual, text_read, begins_key, placed_count, behind_key_tag, key_length_read}
use Rattle.values.specs.Values.{digits, bits_of, int_tag, int_encoding, count_encoding, KeyTag, as_bytes, as_text, Key, key_tag, key_encoding, keys_encoding, Fits, KeyFormed, KeysFormed}
use Rattle.values.specs.Limits.{key_bytes, RoomForKeyBytes}
use Rattle.room.specs.Open.{Column, column_bytes}
use Rattle.room.specs.KeyList.{key_space, in_key_room, column_of, key_text_read, key_read, keys_read, counted_keys, listed, key_list_read}
use Rattle.runs.specs.Law.{limits}
use Rattle.runs.proofs.Counts.{length_digits, digits_value, int_back}

-- ---- bytes that stand

-- these bytes come next, and then others, and stay before the end and the stop
pub record Stands (end : Option ℕ) (v : View) (bs rest : List ℕ) : Type 0 where
  pub coming : v.coming ≡ bs ++ rest
  pub before_end : past end (v.count + length bs) ≡ false
  pub before_stop : past v.stop (v.count + length bs) ≡ false

-- the reader is behind these bytes, and others come
pub record Behind (v : View) (bs rest : List ℕ) (w : View) : Type 0 where
  pub coming : w.coming ≡ rest
  pub count : w.count ≡ v.count + length bs
  pub stop : w.stop ≡ v.stop

-- this comes to that, and the reader is behind these bytes
pub record Gives {E A : Type 0} (m : Outcome E A) (a : A) (v : View) (bs rest : List ℕ) : Type 0 where
  pub left : View
  pub is : m ≡ got a left
  pub behind : Behind v bs rest left

pub past_less : (o : Option ℕ) (k n : ℕ) → k ≤ n → past o n ≡ false → past o k ≡ false
past_less None k n less stays = refl
past_less (Some s) k n less stays = let near = ltb-false s n stays in le-ltb s k (omega arith)

module _ {end : Option ℕ} {v : View} (a b : List ℕ) {rest : List ℕ} (s : Stands end v (a ++ b) rest) where
  long : length (a ++ b) ≡ length a + length b
  long = length-append a b

  pub stands_front : Stands end v a (b ++ rest)
  stands_front = record {
    coming = s.coming ∙ append_assoc a b rest;
    before_end = past_less end (v.count + length a) (v.count + length (a ++ b)) (omega (arith, long)) s.before_end;
    before_stop = past_less v.stop (v.count + length a) (v.count + length (a ++ b)) (omega (arith, long)) s.before_stop;
  }

  pub stands_back : {w : View} → Behind v a (b ++ rest) w → Stands end w b rest
  stands_back {w} h =
      let far : w.count + length b ≡ v.count + length (a ++ b) = omega (arith, long, h.count) in
      record {
        coming = h.coming;
        before_end = ap (past end) far ∙ s.before_end;
        before_stop = ap (λ o. past o (w.count + length b)) h.stop ∙ ap (past v.stop) far ∙ s.before_stop;
      }

behind_both : {v w u : View} (a b : List ℕ) {rest : List ℕ} → Behind v a (b ++ rest) w → Behind w b rest u → Behind v (a ++ b) rest u
behind_both a b h k = record { coming = k.coming; count = omega (arith, length-append a b, h.count, k.count); stop = k.stop ∙ h.stop }

behind_none : (v : View) {rest : List ℕ} → v.coming ≡ rest → Behind v [] rest v
behind_none v e = record { coming = e; count = omega arith; stop = refl }

gives_by : {E A : Type 0} {m n : Outcome E A} {x : A} {v : View} {bs rest : List ℕ} → m ≡ n → Gives n x v bs rest → Gives m x v bs rest
gives_by e g = record { left = g.left; is = e ∙ g.is; behind = g.behind }

-- a read, and then another
pub then_gives : {E A B : Type 0} {m : Outcome E A} (f : A → View → Outcome E B) {x : A} {y : B} {v : View} (a b : List ℕ) {rest : List ℕ} →
    (g : Gives m x v a (b ++ rest)) → Gives (f x g.left) y g.left b rest → Gives (and_then m f) y v (a ++ b) rest
then_gives f a b g h = record { left = h.left; is = ap (λ m. and_then m f) g.is ∙ h.is; behind = behind_both a b g.behind h.behind }

-- a read, and what is made of what it gives
gives_as : {E A B : Type 0} {m : Outcome E A} (f : A → B) {x : A} {v : View} {bs rest : List ℕ} → Gives m x v bs rest → Gives (and_then m (λ a w. got (f a) w)) (f x) v bs rest
gives_as f g = record { left = g.left; is = ap (λ m. and_then m (λ a w. got (f a) w)) g.is; behind = g.behind }

pub placed_gives : {A : Type 0} (p : ℕ) {m : Outcome ReadError A} {x : A} {v : View} {bs rest : List ℕ} → Gives m x v bs rest → Gives (placed p m) x v bs rest
placed_gives p g = record { left = g.left; is = ap (placed p) g.is; behind = g.behind }

-- ---- bytes

-- a read of bytes that stand is granted where there is room for them, and refused for want of room where there is none
pub asked_room : (space : Option ℕ) {end : Option ℕ} {v : View} (bs : List ℕ) {rest : List ℕ} (n : ℕ) (full : Bool) → length bs ≡ n → cramped space n ≡ full → Stands end v bs rest →
    asked end v space n ≡ cond full (Some error.Room) None
asked_room space {end} {v} bs {rest} n full long room s =
    let ends : past end (v.count + n) ≡ false = ap (λ k. past end (v.count + k)) (sym long) ∙ s.before_end in
    let stops : past v.stop (v.count + n) ≡ false = ap (λ k. past v.stop (v.count + k)) (sym long) ∙ s.before_stop in
    let there : nat_lt (length v.coming) n ≡ false = le-ltb (length v.coming) n (omega (arith, ap length s.coming, length-append bs rest)) in
    rw (ends, stops, room, there) (chosen full)
  where
    chosen : (full : Bool) → judged false (cond full (Some fault.Room) None) ≡ cond full (Some error.Room) None
    chosen true = refl
    chosen false = refl

-- what is made of so many bytes to come
pub taking : {A : Type 0} (lends : Bool) (space : Option ℕ) {end : Option ℕ} {v : View} (bs : List ℕ) {rest : List ℕ} (n : ℕ) (x : A) → length bs ≡ n → cramped space n ≡ false → Stands end v bs rest →
    Gives (answer (asked end v space n) v x (advanced lends n v)) x v bs rest
taking lends space {end} {v} bs {rest} n x long room s = record {
  left = advanced lends n v;
  is = ap (λ o. answer o v x (advanced lends n v)) (asked_room space bs n false long room s);
  behind = record { coming = ap (drop n) s.coming ∙ drop_at bs rest n long; count = ap (λ k. v.count + k) (sym long); stop = refl };
}

-- the bytes to come are these
pub front_of : {end : Option ℕ} {v : View} (bs : List ℕ) {rest : List ℕ} (n : ℕ) → length bs ≡ n → Stands end v bs rest → take n v.coming ≡ bs
front_of bs {rest} n long s = ap (take n) s.coming ∙ take_at bs rest n long

pub bytes_give : (lends : Bool) (space : Option ℕ) {end : Option ℕ} {v : View} (bs : List ℕ) {rest : List ℕ} (n : ℕ) → length bs ≡ n → cramped space n ≡ false → Stands end v bs rest →
    Gives (bytes_read lends end space n v) (lies lends v) v bs rest
bytes_give lends space {v = v} bs n long room s = taking lends space bs n (lies lends v) long room s

pub text_gives : (lends : Bool) (space : Option ℕ) {end : Option ℕ} {v : View} (bs : List ℕ) {rest : List ℕ} (n : ℕ) → length bs ≡ n → cramped space n ≡ false → utf8 bs ≡ true → Stands end v bs rest →
    Gives (text_read lends end space n v) (lies lends v) v bs rest
unfolding text_read
text_gives lends space {end} {v} bs n long room formed s =
    let g = bytes_give lends space bs n long room s in
    record {
      left = g.left;
      is = ap (λ m. and_then m (textual (utf8 (take n v.coming)))) g.is ∙ ap (λ b. textual b (lies lends v) g.left) (ap utf8 (front_of bs n long s) ∙ formed);
      behind = g.behind;
    }

-- ---- a tag that is shown, and then taken

module _ {end : Option ℕ} {v : View} (t : ℕ) (bs : List ℕ) {rest : List ℕ} (s : Stands end v (t ∷ bs) rest) where
  pub peek_gives : peek_read end v ≡ got t (held v)
  peek_gives =
      ap (λ o. answer o v (get_or v.coming 0 0) (held v)) (asked_room None (t ∷ []) 1 false refl refl (stands_front (t ∷ []) bs s))
      ∙ ap (λ l. got (get_or l 0 0) (held v)) s.coming

  behind_tag_byte : (lends : Bool) → Behind v (t ∷ []) (bs ++ rest) (discarded lends (held v))
  behind_tag_byte lends = record { coming = ap (drop 1) s.coming; count = refl; stop = refl }

  pub stands_behind_tag : (lends : Bool) → Stands end (discarded lends (held v)) bs rest
  stands_behind_tag lends = stands_back (t ∷ []) bs s (behind_tag_byte lends)

  tag_gives : {E A : Type 0} (lends : Bool) {m : Outcome E A} {x : A} → Gives m x (discarded lends (held v)) bs rest → Gives m x v (t ∷ bs) rest
  tag_gives lends g = record { left = g.left; is = g.is; behind = behind_both (t ∷ []) bs (behind_tag_byte lends) g.behind }

-- ---- numbers

pub int_gives : (lends : Bool) {end : Option ℕ} {v : View} (w : Width) (z : ℤ) {rest : List ℕ} → Fits w z → Stands end v (digits (bytes_of w) (bits_of w z)) rest →
    Gives (int_read lends end w v) z v (digits (bytes_of w) (bits_of w z)) rest
int_gives lends {end} {v} w z {rest} f s =
    let long = length_digits (bytes_of w) (bits_of w z) in
    let bs = digits (bytes_of w) (bits_of w z) in
    let value : twos_complement w (little_endian (take (bytes_of w) v.coming)) ≡ z = ap (λ l. twos_complement w (little_endian l)) (front_of bs (bytes_of w) long s) ∙ int_back w z f in
    subst (λ x. Gives (int_read lends end w v) x v bs rest) value (taking lends None bs (bytes_of w) _ long refl s)

pub real_gives : (lends : Bool) {end : Option ℕ} {v : View} (n : ℕ) {rest : List ℕ} → n < 2 ^ 64 → Stands end v (digits 8 n) rest → Gives (real_read lends end v) n v (digits 8 n) rest
real_gives lends {end} {v} n {rest} f s =
    let long = length_digits 8 n in
    let value : little_endian (take 8 v.coming) ≡ n = ap little_endian (front_of (digits 8 n) 8 long s) ∙ digits_value 8 n f in
    subst (λ x. Gives (real_read lends end v) x v (digits 8 n) rest) value (taking lends None (digits 8 n) 8 _ long refl s)

int_width_is : (w : Width) → int_width (int_tag w) ≡ Ok w
int_width_is W8 = refl
int_width_is W16 = refl
int_width_is W32 = refl
int_width_is W64 = refl

tagged_int_gives : (lends : Bool) {end : Option ℕ} {v : View} (w : Width) (z : ℤ) {rest : List ℕ} → Fits w z → Stands end v (int_encoding w z) rest → Gives (tagged_int_read lends end v) z v (int_encoding w z) rest
unfolding tagged_int_read
tagged_int_gives lends {end} {v} w z f s =
    let behind = digits (bytes_of w) (bits_of w z) in
    gives_by
    (ap (λ m. and_then m (λ t u. behind_tag lends end (int_width t) u)) (peek_gives (int_tag w) behind s) ∙ ap (λ r. behind_tag lends end r (held v)) (int_width_is w))
    (tag_gives (int_tag w) behind s lends (int_gives lends w z f (stands_behind_tag (int_tag w) behind s lends)))

count_gives : (lends : Bool) {end : Option ℕ} {v : View} (w : Width) (n : ℕ) {rest : List ℕ} → Fits w (pos n) → Stands end v (count_encoding w n) rest → Gives (count_read lends end v) n v (count_encoding w n) rest
unfolding count_read count_encoding
count_gives lends {end} {v} w n f s =
    let g = tagged_int_gives lends w (pos n) f s in
    record { left = g.left; is = ap (λ m. and_then m (λ z u. told_as (count_of z) u)) g.is; behind = g.behind }

pub placed_count_gives : (lends : Bool) {end : Option ℕ} {v : View} (w : Width) (n : ℕ) {rest : List ℕ} → Fits w (pos n) → Stands end v (count_encoding w n) rest → Gives (placed_count lends end v) n v (count_encoding w n) rest
placed_count_gives lends {v = v} w n f s = placed_gives v.count (count_gives lends w n f s)

-- ---- keys

begins_a_key : (t : KeyTag) → begins_key (key_tag t) ≡ true
begins_a_key as_bytes = refl
begins_a_key as_text = refl

pub key_length_gives : (lends : Bool) {end : Option ℕ} (kind : Kind) {v : View} (t : KeyTag) (w : Width) (n : ℕ) {rest : List ℕ} → Fits w (pos n) → Stands end v (key_tag t ∷ count_encoding w n) rest →
    Gives (key_length_read lends end kind v) n v (key_tag t ∷ count_encoding w n) rest
unfolding key_length_read
key_length_gives lends {end} kind {v} t w n f s =
    gives_by
    (ap (λ m. and_then (placed v.count m) (behind_key_tag lends end kind)) (peek_gives (key_tag t) (count_encoding w n) s)
    ∙ ap (λ b. cond b (placed_count lends end (discarded lends (held v))) (bad (at (error.Byte kind (key_tag t)) v.count) (held v))) (begins_a_key t))
    (tag_gives (key_tag t) (count_encoding w n) s lends (placed_count_gives lends w n f (stands_behind_tag (key_tag t) (count_encoding w n) s lends)))

in_key_room_gives : {A : Type 0} (p : ℕ) {m : Outcome ReadError A} {x : A} {v : View} {bs rest : List ℕ} → Gives m x v bs rest → Gives (in_key_room p m) x v bs rest
in_key_room_gives p g = record { left = g.left; is = ap (in_key_room p) g.is; behind = g.behind }

-- a key goes to key room, and the bytes of its column are counted of a reader that copies
pub record KeyGives (lends : Bool) (end : Option ℕ) (held_now : ℕ) (k : Key) (v : View) (rest : List ℕ) : Type 0 where
  pub column : Column
  copied_bytes : lends ≡ false → column_bytes (column ∷ []) ≡ length k.name
  pub gives : Gives (key_read lends end held_now v) column v (key_encoding k) rest

key_gives : (lends : Bool) {end : Option ℕ} (held_now : ℕ) (k : Key) {v : View} {rest : List ℕ} → KeyFormed k → cramped (key_space lends held_now) (length k.name) ≡ false → Stands end v (key_encoding k) rest →
    KeyGives lends end held_now k v rest
unfolding key_read
key_gives lends {end} held_now k {v} {rest} f room s =
    let n = length k.name in
    let front = key_tag k.tag ∷ count_encoding k.width n in
    let g = key_length_gives lends TemplateKey k.tag k.width n f.0.0 (stands_front front k.name s) in
    let w = g.left in
    let t = stands_back front k.name s g.behind in
    let h = text_gives lends (key_space lends held_now) k.name n refl room f.1 t in
    record {
      column = column_of lends n w;
      copied_bytes = counted lends w t;
      gives = then_gives (key_text_read lends end held_now) front k.name g (gives_as (λ _. column_of lends n w) (in_key_room_gives w.count h));
    }
  where
    counted : (lends : Bool) (w : View) → Stands end w k.name rest → lends ≡ false → column_bytes (column_of lends (length k.name) w ∷ []) ≡ length k.name
    counted true w t e = absurd (cc e)
    counted false w t e = let there : take (length k.name) w.coming ≡ k.name = front_of k.name (length k.name) refl t in omega (arith, ap length there)

-- ---- key lists

key_room : (lends : Bool) (held_now n more : ℕ) → RoomForKeyBytes (limits lends) (held_now + (n + more)) → cramped (key_space lends held_now) n ≡ false
key_room true held_now n more h = refl
key_room false held_now n more h = le-ltb (4096 - held_now) n (omega arith)

room_left : (lends : Bool) (held_now n more m : ℕ) → RoomForKeyBytes (limits lends) (held_now + (n + more)) → (lends ≡ false → m ≡ n) → RoomForKeyBytes (limits lends) (held_now + m + more)
room_left true held_now n more m h e = tt
room_left false held_now n more m h e = omega (arith, e refl)

pub record KeysGive (m : Outcome Refusal (List Column)) (ks : List Key) (v : View) (bs rest : List ℕ) : Type 0 where
  pub columns : List Column
  pub all : length columns ≡ length ks
  pub gives : Gives m columns v bs rest

keys_give : (lends : Bool) {end : Option ℕ} (held_now : ℕ) (ks : List Key) {v : View} {rest : List ℕ} → KeysFormed ks → RoomForKeyBytes (limits lends) (held_now + key_bytes ks) → Stands end v (keys_encoding ks) rest →
    KeysGive (keys_read lends end held_now (length ks) v) ks v (keys_encoding ks) rest
keys_give lends held_now [] {v} f room s = record { columns = []; all = refl; gives = record { left = v; is = refl; behind = behind_none v s.coming } }
keys_give lends {end} held_now (k ∷ ks) {v} {rest} f room s =
    let one = key_gives lends held_now k f.0 (key_room lends held_now (length k.name) (key_bytes ks) room) (stands_front (key_encoding k) (keys_encoding ks) s) in
    let g = one.gives in
    let c = one.column in
    let left = room_left lends held_now (length k.name) (key_bytes ks) (column_bytes (c ∷ [])) room one.copied_bytes in
    let more = keys_give lends (held_now + column_bytes (c ∷ [])) ks f.1 left (stands_back (key_encoding k) (keys_encoding ks) s g.behind) in
    record {
      columns = c ∷ more.columns;
      all = ap suc more.all;
      gives = then_gives (λ k w. and_then (keys_read lends end (held_now + column_bytes (k ∷ [])) (length ks) w) (λ ks u. got (k ∷ ks) u)) (key_encoding k) (keys_encoding ks) g (gives_as (λ ks. c ∷ ks) more.gives);
    }

abbrev pub key_list_encoding : Width → List Key → List ℕ
key_list_encoding w ks = 0x00 ∷ (count_encoding w (length ks) ++ keys_encoding ks)

pub key_list_gives : (lends : Bool) {end : Option ℕ} (levels_now keys_now held_now : ℕ) (w : Width) (ks : List Key) {v : View} {rest : List ℕ} → Fits w (pos (length ks)) → KeysFormed ks →
    suc levels_now < 128 → keys_now + length ks ≤ 256 → RoomForKeyBytes (limits lends) (held_now + key_bytes ks) →
    Stands end v (key_list_encoding w ks) rest →
    KeysGive (key_list_read lends end levels_now keys_now held_now v) ks v (key_list_encoding w ks) rest
unfolding key_list_read
key_list_gives lends {end} levels_now keys_now held_now w ks {v} {rest} f g level few room s =
    let n = length ks in
    let counted = count_encoding w n in
    let bytes = counted ++ keys_encoding ks in
    let u = discarded lends (held v) in
    let t = stands_behind_tag 0x00 bytes s lends in
    let c = placed_count_gives lends w n f (stands_front counted (keys_encoding ks) t) in
    let k = keys_give lends held_now ks g room (stands_back counted (keys_encoding ks) t c.behind) in
    record {
      columns = k.columns;
      all = k.all;
      gives = gives_by
          (ap (λ m. and_then (placed v.count m) (listed lends end levels_now keys_now held_now)) (peek_gives 0x00 bytes s)
          ∙ ap (λ b. cond b (and_then (placed_count lends end u) (counted_keys lends end keys_now held_now u.count)) (bad (record { place = v.count; cause = Depth }) (held v))) (lt-ltb (suc levels_now) 128 level))
          (tag_gives 0x00 bytes s lends
          (then_gives (counted_keys lends end keys_now held_now u.count) counted (keys_encoding ks) c
          (gives_by (ap (λ b. cond b (keys_read lends end held_now n c.left) (bad (record { place = u.count; cause = KeyRoom }) c.left)) (le-leb (keys_now + n) 256 few)) k.gives)));
    }
