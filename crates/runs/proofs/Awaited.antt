-- Where the tag and the length of a text were taken, what comes is that text.
use Rattle.std.proofs.Common.{◌≡◌, ℕ, zero, suc, ◌+◌, Bool, true, List, [], ◌∷◌, ◌++◌, length, get_or, drop, pos, Some, sym, ap, ◌∙◌, arith, length-append, append_assoc}
use Rattle.utf8.specs.Utf8.{utf8}
use Rattle.format.specs.declared.width.Width.{Width}
use Rattle.format.specs.Integers.{bytes_of}
use Rattle.bunser.specs.declared.text.TextKind.{TextKind}
use Rattle.bunser.specs.declared.text.TextKind.TheVariants as kind
use Rattle.bunser.specs.declared.text.Unread.{Unread}
use Rattle.bunser.specs.Texts.{checked}
use Rattle.values.specs.Values.{Event, key_tag, count_encoding, text_encoding, Fits}
use Rattle.values.specs.Limits.{Limits}
use Rattle.room.specs.Open.{start, items, pairs, field, rows, row, cell}
use Rattle.runs.specs.Law.{hands_out}
use Rattle.runs.proofs.Taking.{Level, Takes, Tagged, Front, head_taken, KeyWanted, TextWanted}
use Rattle.runs.proofs.Counts.{count_same, length_count}
use Rattle.runs.proofs.Shapes.{Item, bytes_item, text_item, item_bytes, item_event, ItemFormed, Comes, Shape, shaped, item_wanted}
use Rattle.runs.proofs.Alike.{item_kind, kind_of, begins_kind}

-- these bytes are a tag, a length and a text that is handed out
record Handed (k : TextKind) (taken : List ℕ) (ev : Event) : Type 0 where
  first : ℕ
  width : Width
  text : List ℕ
  fits : Fits width (pos (length text))
  formed : checked k ≡ true → utf8 text ≡ true
  bytes : taken ≡ first ∷ text_encoding width text
  event : hands_out ev ≡ Some text

bytes_handed : (i : Item) {ev : Event} {taken : List ℕ} → item_kind i ≡ 0x02 → ItemFormed i → ev ≡ item_event i → taken ≡ item_bytes i → Handed kind.Bytes taken ev
bytes_handed (bytes_item w bs) is f e b = record { first = 0x02; width = w; text = bs; fits = f.0; formed = λ c. absurd (cc c); bytes = b; event = ap hands_out e }
bytes_handed i is f e b = absurd (omega (arith, is))

text_handed : (i : Item) {ev : Event} {taken : List ℕ} → item_kind i ≡ 0x0d → ItemFormed i → ev ≡ item_event i → taken ≡ item_bytes i → Handed kind.Text taken ev
text_handed (text_item w bs) is f e b = record { first = 0x0d; width = w; text = bs; fits = f.0.0; formed = λ c. f.1; bytes = b; event = ap hands_out e }
text_handed i is f e b = absurd (omega (arith, is))

key_handed : (L : Limits) (s : List Level) {taken : List ℕ} {ev : Event} (t : List Level) → KeyWanted s → Shape L s taken ev t → Handed kind.Key taken ev
key_handed L (pairs (suc n) ∷ s) t w k = record { first = key_tag k.the_key.tag; width = k.the_key.width; text = k.the_key.name; fits = k.formed.0.0; formed = λ c. k.formed.1; bytes = k.bytes; event = ap hands_out k.event }
key_handed L [] t w k = absurd w
key_handed L (start ∷ s) t w k = absurd w
key_handed L (items n ∷ s) t w k = absurd w
key_handed L (pairs zero ∷ s) t w k = absurd w
key_handed L (field n ∷ s) t w k = absurd w
key_handed L (rows ks n ∷ s) t w k = absurd w
key_handed L (row l ks n ∷ s) t w k = absurd w
key_handed L (cell l ks n ∷ s) t w k = absurd w

-- the tag says of what kind the item is
module _ {L : Limits} {s t : List Level} {taken : List ℕ} {ev : Event} (tag : ℕ) (bs rest : List ℕ) (e : tag ∷ bs ≡ taken ++ rest) (h : Takes L s taken ev t) where
  item_of : {may_gap : Bool} → (k : Comes L may_gap s taken ev t) → item_kind k.item ≡ kind_of tag
  item_of k = sym (begins_kind k.item rest) ∙ ap (λ l. kind_of (get_or (l ++ rest) 0 0)) (sym k.bytes) ∙ ap (λ l. kind_of (get_or l 0 0)) (sym e)

  handed : (k : TextKind) → Tagged k tag → TextWanted k s → Handed k taken ev
  handed kind.Bytes is w = let k = (item_wanted L s w).to_item (shaped h) in bytes_handed k.item (item_of k ∙ ap kind_of is) k.formed k.event k.bytes
  handed kind.Text is w = let k = (item_wanted L s w).to_item (shaped h) in text_handed k.item (item_of k ∙ ap kind_of is) k.formed k.event k.bytes
  handed kind.Key is w = key_handed L s t w (shaped h)

pub record AwaitedText (u : Unread) (front taken coming rest : List ℕ) (ev : Event) : Type 0 where
  pub text : List ℕ
  pub long : length text ≡ u.len
  pub formed : checked u.kind ≡ true → utf8 text ≡ true
  pub handed : hands_out ev ≡ Some text
  pub comes : coming ≡ text ++ rest
  pub size : length taken ≡ length front + length text

pub awaited_text : {L : Limits} {s t : List Level} {u : Unread} {front taken : List ℕ} {ev : Event} (coming rest : List ℕ) → Front (Some u) front → TextWanted u.kind s → Takes L s taken ev t →
    front ++ coming ≡ taken ++ rest → AwaitedText u front taken coming rest ev
awaited_text {L} {s} {t} {taken = taken} {ev = ev} coming rest (head_taken {k} {n} tag w is fits) wanted h e =
    let a = handed tag (count_encoding w n ++ coming) rest e h k is wanted in
    let parts : count_encoding w n ++ coming ≡ count_encoding a.width (length a.text) ++ (a.text ++ rest) = ap (drop 1) (e ∙ ap (λ l. l ++ rest) a.bytes) ∙ append_assoc (count_encoding a.width (length a.text)) a.text rest in
    let same = count_same coming (a.text ++ rest) fits a.fits parts in
    let text : List ℕ = a.text in
    let head : length (count_encoding w n) ≡ suc (bytes_of w) = length_count w n in
    let own_head : length (count_encoding a.width (length text)) ≡ suc (bytes_of w) = length_count a.width (length text) ∙ ap (λ x. suc (bytes_of x)) (sym same.0) in
    let whole : length taken ≡ suc (length (count_encoding a.width (length text) ++ text)) = ap length a.bytes in
    record {
      text = text;
      long = sym same.1;
      formed = a.formed;
      handed = a.event;
      comes = same.2;
      size = omega (arith, whole, head, own_head, length-append (count_encoding a.width (length text)) text);
    }
