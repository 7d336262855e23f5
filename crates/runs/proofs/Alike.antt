-- Two takings from the same levels whose bytes begin the same list are the same.
use Rattle.std.proofs.Common.{◌≡◌, Bool, true, false, ℕ, zero, suc, ◌<◌, ◌^◌, true, List, [], ◌∷◌, ◌++◌, length, get_or, drop, cond, nat_lt, ◌&&◌, refl, sym, ap, ◌∙◌, arith, append_assoc}
use Rattle.format.specs.declared.width.Width.{Width}
use Rattle.format.specs.declared.width.Width.TheVariants.{W8, W16, W32, W64}
use Rattle.format.specs.Integers.{little_endian}
use Rattle.values.specs.Values.{KeyTag, as_bytes, as_text, Key, Event, key, digits, int_tag, count_encoding, text_encoding, key_tag, key_encoding, keys_encoding, TextFormed, KeyFormed, KeysFormed}
use Rattle.values.specs.Limits.{Limits}
use Rattle.room.specs.Open.{start, items, pairs, field, rows, row, cell, filled}
use Rattle.runs.proofs.Taking.{Level, template_front, Takes}
use Rattle.runs.proofs.Shapes.{Item, null_item, yes_item, no_item, gap_item, integer_item, real_item, bytes_item, text_item, array_item, object_item, template_item, item_bytes, item_event, within_item, ItemFormed, Comes, Turns, KeyComes, Shape, shaped}
use Rattle.runs.proofs.Counts.{same_fronts, length_digits, digits_value, int_same, count_same}

-- ---- texts and keys

text_same : {w u : Width} {bs cs : List ℕ} (r q : List ℕ) → TextFormed w bs → TextFormed u cs → text_encoding w bs ++ r ≡ text_encoding u cs ++ q → (w ≡ u) × (bs ≡ cs) × (r ≡ q)
text_same {w} {u} {bs} {cs} r q f g e =
    let parts = sym (append_assoc (count_encoding w (length bs)) bs r) ∙ e ∙ append_assoc (count_encoding u (length cs)) cs q in
    let counts = count_same (bs ++ r) (cs ++ q) f.0 g.0 parts in
    let texts = same_fronts bs cs counts.1 counts.2 in
    (counts.0, texts.0, texts.1)

same_key_tag : (t u : KeyTag) → key_tag t ≡ key_tag u → t ≡ u
same_key_tag as_bytes as_bytes e = refl
same_key_tag as_text as_text e = refl
same_key_tag _ _ e = absurd (omega arith)

key_same : {k l : Key} (r q : List ℕ) → KeyFormed k → KeyFormed l → key_encoding k ++ r ≡ key_encoding l ++ q → (k ≡ l) × (r ≡ q)
key_same {k} {l} r q f g e =
    let tag : k.tag ≡ l.tag = same_key_tag k.tag l.tag (ap (λ x. get_or x 0 0) e) in
    let texts = text_same {w = k.width} {u = l.width} {bs = k.name} {cs = l.name} r q f.0 g.0 (ap (drop 1) e) in
    (same_parts k l tag texts.0 texts.1, texts.2)
  where
    same_parts : (k l : Key) → k.tag ≡ l.tag → k.width ≡ l.width → k.name ≡ l.name → k ≡ l
    same_parts k l tag width name =
        ap (λ t. record { tag = t; width = k.width; name = k.name }) tag
        ∙ ap (λ w. record { tag = l.tag; width = w; name = k.name }) width
        ∙ ap (λ n. record { tag = l.tag; width = l.width; name = n }) name

keys_same : (ks ls : List Key) {r q : List ℕ} → length ks ≡ length ls → KeysFormed ks → KeysFormed ls → keys_encoding ks ++ r ≡ keys_encoding ls ++ q → (ks ≡ ls) × (r ≡ q)
keys_same [] [] long f g e = (refl, e)
keys_same [] (l ∷ ls) long f g e = absurd (omega arith)
keys_same (k ∷ ks) [] long f g e = absurd (omega arith)
keys_same (k ∷ ks) (l ∷ ls) {r} {q} long f g e =
    let parts = sym (append_assoc (key_encoding k) (keys_encoding ks) r) ∙ e ∙ append_assoc (key_encoding l) (keys_encoding ls) q in
    let one = key_same {k = k} {l = l} (keys_encoding ks ++ r) (keys_encoding ls ++ q) f.0 g.0 parts in
    let more = keys_same ks ls (omega arith) f.1 g.1 one.1 in
    let key : k ≡ l = one.0 in
    let keys : ks ≡ ls = more.0 in
    (cc, more.1)

-- ---- items

-- the byte with which an item begins, or that of the narrowest for an integer of any width
abbrev pub item_kind : Item → ℕ
item_kind null_item = 0x0a
item_kind yes_item = 0x08
item_kind no_item = 0x09
item_kind gap_item = 0x0c
item_kind (integer_item w z) = 0x03
item_kind (real_item n) = 0x07
item_kind (bytes_item w bs) = 0x02
item_kind (text_item w bs) = 0x0d
item_kind (array_item w n) = 0x00
item_kind (object_item w n) = 0x01
item_kind (template_item w ks u n) = 0x0b

abbrev pub kind_of : ℕ → ℕ
kind_of t = cond (nat_lt 3 t && nat_lt t 7) 3 t

int_kind : (w : Width) → kind_of (int_tag w) ≡ 3
int_kind W8 = refl
int_kind W16 = refl
int_kind W32 = refl
int_kind W64 = refl

pub begins_kind : (a : Item) (r : List ℕ) → kind_of (get_or (item_bytes a ++ r) 0 0) ≡ item_kind a
begins_kind null_item r = refl
begins_kind yes_item r = refl
begins_kind no_item r = refl
begins_kind gap_item r = refl
begins_kind (integer_item w z) r = int_kind w
begins_kind (real_item n) r = refl
begins_kind (bytes_item w bs) r = refl
begins_kind (text_item w bs) r = refl
begins_kind (array_item w n) r = refl
begins_kind (object_item w n) r = refl
begins_kind (template_item w ks u n) r = refl

real_same : (n m : ℕ) (r q : List ℕ) → n < 2 ^ 64 → m < 2 ^ 64 → digits 8 n ++ r ≡ digits 8 m ++ q → n ≡ m
real_same n m r q f g e =
    let fronts = same_fronts (digits 8 n) (digits 8 m) (length_digits 8 n ∙ sym (length_digits 8 m)) e in
    sym (digits_value 8 n f) ∙ ap little_endian fronts.0 ∙ digits_value 8 m g

-- the parts of a template's front
front_parts : (w : Width) (ks : List Key) (u : Width) (n : ℕ) (r : List ℕ) →
    template_front w ks u n ++ r ≡ 0x0b ∷ 0x00 ∷ (count_encoding w (length ks) ++ (keys_encoding ks ++ (count_encoding u n ++ r)))
front_parts w ks u n r = rw (append_assoc (count_encoding w (length ks)) (keys_encoding ks ++ count_encoding u n) r, append_assoc (keys_encoding ks) (count_encoding u n) r) refl

template_same : (w u x y : Width) (ks ls : List Key) (n m : ℕ) (r q : List ℕ) → ItemFormed (template_item w ks u n) → ItemFormed (template_item x ls y m) →
    template_front w ks u n ++ r ≡ template_front x ls y m ++ q → template_item w ks u n ≡ template_item x ls y m
template_same w u x y ks ls n m r q f g e =
    let parts = sym (front_parts w ks u n r) ∙ e ∙ front_parts x ls y m q in
    let counted = count_same (keys_encoding ks ++ (count_encoding u n ++ r)) (keys_encoding ls ++ (count_encoding y m ++ q)) f.0 g.0 (ap (drop 2) parts) in
    let keyed = keys_same ks ls counted.1 f.1 g.1 counted.2 in
    let rowed = count_same r q f.2 g.2 keyed.1 in
    let width : w ≡ x = counted.0 in
    let keys : ks ≡ ls = keyed.0 in
    let wide : u ≡ y = rowed.0 in
    let lines : n ≡ m = rowed.1 in
    cc

both : {A B C : Type 0} (f : A → B → C) {a b : A} {c d : B} → a ≡ b → c ≡ d → f a c ≡ f b d
both f h k = cc

kind_same : (a b : Item) (r q : List ℕ) → item_kind a ≡ item_kind b → ItemFormed a → ItemFormed b → item_bytes a ++ r ≡ item_bytes b ++ q → a ≡ b
kind_same null_item null_item r q k f g e = refl
kind_same yes_item yes_item r q k f g e = refl
kind_same no_item no_item r q k f g e = refl
kind_same gap_item gap_item r q k f g e = refl
kind_same (integer_item w x) (integer_item u y) r q k f g e = let same = int_same {w = w} {u = u} {x = x} {y = y} r q f g e in both integer_item same.0 same.1
kind_same (real_item n) (real_item m) r q k f g e = ap real_item (real_same n m r q f g (ap (drop 1) e))
kind_same (bytes_item w bs) (bytes_item u cs) r q k f g e = let same = text_same r q f g (ap (drop 1) e) in both bytes_item same.0 same.1
kind_same (text_item w bs) (text_item u cs) r q k f g e = let same = text_same r q f.0 g.0 (ap (drop 1) e) in both text_item same.0 same.1
kind_same (array_item w n) (array_item u m) r q k f g e = let same = count_same r q f g (ap (drop 1) e) in both array_item same.0 same.1
kind_same (object_item w n) (object_item u m) r q k f g e = let same = count_same r q f g (ap (drop 1) e) in both object_item same.0 same.1
kind_same (template_item w ks u n) (template_item x ls y m) r q k f g e = template_same w u x y ks ls n m r q f g e
kind_same a b r q k f g e = absurd (omega (arith, k))

item_same : (a b : Item) (r q : List ℕ) → ItemFormed a → ItemFormed b → item_bytes a ++ r ≡ item_bytes b ++ q → a ≡ b
item_same a b r q f g e = kind_same a b r q (sym (begins_kind a r) ∙ ap (λ l. kind_of (get_or l 0 0)) e ∙ begins_kind b q) f g e

-- ---- takings

pub takes_same : {L K : Limits} {s t u : List Level} {b c : List ℕ} {d e : Event} (r q : List ℕ) → Takes L s b d t → Takes K s c e u → b ++ r ≡ c ++ q → (b ≡ c) × (d ≡ e) × (t ≡ u)
takes_same {L} {K} {s = s} {t = t} {u = u} {b = b} {c = c} {d = d} {e = e} r q h k same = go s (shaped h) (shaped k)
  where
    come : (may_gap : Bool) (s : List Level) → Comes L may_gap s b d t → Comes K may_gap s c e u → (b ≡ c) × (d ≡ e) × (t ≡ u)
    come may_gap s h k =
        let one : h.item ≡ k.item = item_same h.item k.item r q h.formed k.formed (ap (λ l. l ++ r) (sym h.bytes) ∙ same ∙ ap (λ l. l ++ q) k.bytes) in
        (h.bytes ∙ ap item_bytes one ∙ sym k.bytes, h.event ∙ ap item_event one ∙ sym k.event, h.after ∙ ap (λ i. within_item i (filled s)) one ∙ sym k.after)

    turn : {f : Event} {v : List Level} → Turns b d f t v → Turns c e f u v → (b ≡ c) × (d ≡ e) × (t ≡ u)
    turn h k = (h.bytes ∙ sym k.bytes, h.event ∙ sym k.event, h.after ∙ sym k.after)

    keys : {n : ℕ} {s : List Level} → KeyComes n s b d t → KeyComes n s c e u → (b ≡ c) × (d ≡ e) × (t ≡ u)
    keys h k =
        let one = key_same {k = h.the_key} {l = k.the_key} r q h.formed k.formed (ap (λ l. l ++ r) (sym h.bytes) ∙ same ∙ ap (λ l. l ++ q) k.bytes) in
        (h.bytes ∙ ap key_encoding one.0 ∙ sym k.bytes, h.event ∙ ap (λ k. key k.name) one.0 ∙ sym k.event, h.after ∙ sym k.after)

    go : (s : List Level) → Shape L s b d t → Shape K s c e u → (b ≡ c) × (d ≡ e) × (t ≡ u)
    go [] h k = absurd h
    go (start ∷ s) h k = come false (start ∷ s) h k
    go (items zero ∷ s) h k = turn h k
    go (items (suc n) ∷ s) h k = come false (items (suc n) ∷ s) h k
    go (pairs zero ∷ s) h k = turn h k
    go (pairs (suc n) ∷ s) h k = keys h k
    go (field n ∷ s) h k = come false (field n ∷ s) h k
    go (rows ks zero ∷ s) h k = turn h k
    go (rows ks (suc n) ∷ s) h k = turn h k
    go (row [] ks n ∷ s) h k = turn h k
    go (row (column ∷ l) ks n ∷ s) h k = turn h k
    go (cell l ks n ∷ s) h k = come true (cell l ks n ∷ s) h k
