-- A header is read exactly where it stands.
use Rattle.std.proofs.Common.{◌≡◌, ℕ, ◌+◌, ◌-◌, ◌≤◌, Bool, true, false, cond, ◌&&◌, ◌==◌, List, [], ◌∷◌, ◌++◌, length, take, drop, slice_index, ℤ, pos, negsuc, Some, None, Ok, Err, Option, Result, refl, sym, ap, ◌∙◌, subst, length-append, arith}
use Rattle.std.proofs.lemmas.Bool.{le-ltb, ltb-false, eqb-true}
use Rattle.source.specs.Bytes.{Octets}
use Rattle.read.specs.Reader.{View, past, held, advanced, discarded}
use Rattle.format.specs.declared.width.Width.{Width}
use Rattle.format.specs.Integers.{bytes_of, little_endian, twos_complement}
use Rattle.format.specs.declared.refusal.ReadError.{ReadError}
use Rattle.format.specs.declared.refusal.ReadError.TheVariants.{Magic, TooLong}
use Rattle.format.specs.declared.refusal.Refusal.{Refusal}
use Rattle.values.specs.Values.{Fits, count_encoding}
use Rattle.bunser.specs.declared.Header.{Header}
use Rattle.bunser.specs.Outcome.{Outcome, got, bad, and_then, at, placed}
use Rattle.bunser.specs.Reads.{peek_read, array_read, int_width, behind_tag, tagged_int_read, count_of, told_as, count_read, magical, is_magic, magic_read, flags_read, capabilities_read, bounded, length_read, header_read}
use Rattle.runs.specs.Law.{from, HeaderAt}
use Rattle.runs.proofs.Stepped.{Took}
use Rattle.runs.proofs.Took.{took_more, octets_on, Gotten}
use Rattle.bunser.proofs.Granting.{asked_none}
use Rattle.runs.proofs.Reading.{Comes, Failed, Halted, halted_behind, then_comes, placed_comes, cond_comes, answer_comes, whole_comes}
use Rattle.runs.proofs.NumberReads.{CountRead, placed_count_reads}
use Rattle.runs.proofs.Standing.{Stands, Gives, stands_front, stands_back, then_gives, placed_gives, taking, front_of, placed_count_gives}

-- ---- what a header is read of

pub record Headed (lends : Bool) (v : View) (h : Header) (w : View) : Type 0 where
  pub header : HeaderAt v v.count h.capabilities h.start h.length
  pub bytes : List ℕ
  pub took : Took lends v w bytes
  pub starts : w.count ≡ h.start

pub from_here : (v : View) → from v v.count ≡ v.coming
from_here v = let none : v.count - v.count ≡ 0 = omega arith in ap (λ n. drop n v.coming) none

abbrev Anything : {A : Type 0} → A → View → Type 0
Anything a w = Unit {0}

-- a count that is read does not pass the stop
module _ (lends : Bool) (end : Option ℕ) (v : View) where
  Clear : {A : Type 0} → A → View → Type 0
  Clear a w = past v.stop w.count ≡ false

  int_clear : Comes Clear Anything (tagged_int_read lends end v)
  unfolding tagged_int_read Clear
  int_clear =
      then_comes (λ t w. w ≡ held v) Anything (Clear {A = ℤ}) Anything (peek_read end v) (λ t w. behind_tag lends end (int_width t) w)
      (answer_comes (λ t w. w ≡ held v) Anything end v None 1 (slice_index v.coming 0) (held v) (λ e. refl) (λ e h. tt)) (λ t w same. subst (λ w. Comes (Clear {A = ℤ}) Anything (behind_tag lends end (int_width t) w)) (sym same) (by_width (int_width t))) (λ e w h. tt)
    where
      by_width : (r : Result Width ReadError) → Comes (Clear {A = ℤ}) Anything (behind_tag lends end r (held v))
      by_width (Err e) = tt
      by_width (Ok k) =
          let w = discarded lends (held v) in
          answer_comes Clear Anything end w None (bytes_of k) (twos_complement k (little_endian (take (bytes_of k) w.coming))) (advanced lends (bytes_of k) w) (λ e. (asked_none end w None (bytes_of k) e).before_stop) (λ e h. tt)

  count_clear : Comes Clear Anything (count_read lends end v)
  unfolding count_read Clear
  count_clear = then_comes (Clear {A = ℤ}) Anything (Clear {A = ℕ}) Anything (tagged_int_read lends end v) (λ z w. told_as (count_of z) w) int_clear by_sign (λ e w h. tt)
    where
      by_sign : (z : ℤ) (w : View) → past v.stop w.count ≡ false → Comes (Clear {A = ℕ}) Anything (told_as (count_of z) w)
      by_sign (pos n) w h = h
      by_sign (negsuc n) w h = tt

-- ---- what is read is there

module _ (lends : Bool) (v : View) where
  record ArrayRead (n : ℕ) (bs : List ℕ) (w : View) : Type 0 where
    took : Took lends v w bs
    long : length bs ≡ n

  record MagicRead (u : Unit {0}) (w : View) : Type 0 where
    took : Took lends v w (0x00 ∷ 0x02 ∷ [])

  record FlagsRead (n : ℕ) (w : View) : Type 0 where
    flags : List ℕ
    four : length flags ≡ 4
    value : little_endian flags ≡ n
    took : Took lends v w flags

  record LengthRead (caps : ℕ) (h : Header) (w : View) : Type 0 where
    width : Width
    fits : Fits width (pos h.length)
    took : Took lends v w (count_encoding width h.length)
    clear : past v.stop w.count ≡ false
    capabilities : h.capabilities ≡ caps
    starts : w.count ≡ h.start
    bounded : h.start + h.length ≤ 1152921504606846976

  array_reads : (n : ℕ) → Comes (ArrayRead n) (Failed None v) (array_read lends None n v)
  array_reads n = whole_comes (ArrayRead n) lends None v n (take n v.coming) (λ g long. record { took = g.took; long = long })

magic_bytes : (bs : List ℕ) → length bs ≡ 2 → magical bs ≡ true → bs ≡ 0x00 ∷ 0x02 ∷ []
magic_bytes [] long e = absurd (omega arith)
magic_bytes (x ∷ []) long e = absurd (omega arith)
magic_bytes (x ∷ y ∷ []) long e = go (x == 0) refl e
  where
    go : (b : Bool) → (x == 0) ≡ b → (b && (y == 2)) ≡ true → x ∷ y ∷ [] ≡ 0x00 ∷ 0x02 ∷ []
    go false is e = absurd (cc)
    go true is e =
        let first = eqb-true x 0 is in
        let second = eqb-true y 2 e in
        cc
magic_bytes (x ∷ y ∷ z ∷ bs) long e = absurd (omega arith)

magic_reads : (lends : Bool) (v : View) → Comes (MagicRead lends v) (Halted None v) (magic_read lends None v)
unfolding magic_read
magic_reads lends v =
    then_comes (ArrayRead lends v 2) (Halted None v) (MagicRead lends v) (Halted None v) (placed v.count (array_read lends None 2 v)) (is_magic v.count)
    (placed_comes (ArrayRead lends v 2) (Failed None v) None v v.count (array_read lends None 2 v) (omega arith) (array_reads lends v 2) (λ e w h. h))
    (λ bs w a. cond_comes (MagicRead lends v) (Halted None v) (magical bs) (got tt w) (bad (at (Magic bs) v.count) w)
    (λ e. record { took = subst (Took lends v w) (magic_bytes bs a.long e) a.took }) (λ e. record { after = omega arith; latches = refl; inside = λ h. refl }))
    (λ f w h. h)

flags_reads : (lends : Bool) (v : View) → Comes (FlagsRead lends v) (Halted None v) (capabilities_read lends None v)
unfolding capabilities_read
flags_reads lends v =
    placed_comes (FlagsRead lends v) (Failed None v) None v v.count (flags_read lends None v) (omega arith)
    (whole_comes (FlagsRead lends v) lends None v 4 (little_endian (take 4 v.coming)) (λ g long. record { flags = take 4 v.coming; four = long; value = refl; took = g.took })) (λ e w h. h)

length_reads : (lends : Bool) (v : View) (caps : ℕ) → Octets v.coming → Comes (LengthRead lends v caps) (Halted None v) (length_read lends None caps v)
unfolding length_read Clear
length_reads lends v caps octets = go (count_read lends None v) (placed_count_reads lends None v octets) (count_clear lends None v)
  where
    go : (m : Outcome ReadError ℕ) → Comes (CountRead lends None v) (Halted None v) (placed v.count m) → Comes (λ n w. past v.stop w.count ≡ false) Anything m →
        Comes (LengthRead lends v caps) (Halted None v) (and_then (placed v.count m) (bounded v.count caps))
    go (bad e w) h clear = h
    go (got n w) c clear =
        cond_comes (LengthRead lends v caps) (Halted None v) (past (Some 1152921504606846976) (w.count + n)) (bad (at TooLong v.count) w) (got (record { capabilities = caps; start = w.count; length = n }) w)
        (λ e. record { after = omega arith; latches = refl; inside = λ h. refl })
        (λ e. record { width = c.width; fits = c.fits; took = c.gotten.took; clear = clear; capabilities = refl; starts = refl; bounded = ltb-false 1152921504606846976 (w.count + n) e })

headed : {lends : Bool} {v w u x : View} {caps : ℕ} {h : Header} → MagicRead lends v tt w → FlagsRead lends w caps u → LengthRead lends u caps h x → Headed lends v h x
headed {lends} {v} {w} {u} {x} {caps} {h} m f l = record {
  header = record {
    flags = f.flags;
    four = f.four;
    capabilities = f.value ∙ sym l.capabilities;
    width = l.width;
    fits = l.fits;
    there = (x.coming, from_here v ∙ took.coming);
    begins = let four = f.four in let count = took.count in let starts = l.starts in let parts = length-append f.flags (count_encoding l.width h.length) in omega arith;
    clear = ap (λ n. past v.stop n) (sym l.starts) ∙ ap (λ s. past s x.count) (sym (f.took.stop ∙ m.took.stop)) ∙ l.clear;
    bounded = l.bounded;
  };
  bytes = 0x00 ∷ 0x02 ∷ (f.flags ++ count_encoding l.width h.length);
  took = took;
  starts = l.starts;
}
  where
    took : Took lends v x (0x00 ∷ 0x02 ∷ (f.flags ++ count_encoding l.width h.length))
    took = took_more m.took (took_more f.took l.took)

pub header_reads : (lends : Bool) (v : View) → Octets v.coming → Comes (Headed lends v) (Halted None v) (header_read lends v)
unfolding header_read
header_reads lends v octets =
    then_comes (MagicRead lends v) (Halted None v) (Headed lends v) (Halted None v) (magic_read lends None v) (λ _ w. and_then (capabilities_read lends None w) (length_read lends None)) (magic_reads lends v)
    (λ u w m.
    then_comes (FlagsRead lends w) (Halted None w) (Headed lends v) (Halted None v) (capabilities_read lends None w) (length_read lends None) (flags_reads lends w)
    (λ caps x f. lengths m f (length_read lends None caps x) (length_reads lends x caps (octets_on f.took (octets_on m.took octets))))
    (λ r x h. halted_behind (gotten m.took) h))
    (λ r w h. h)
  where
    gotten : {w u : View} {bs : List ℕ} → Took lends w u bs → Gotten lends None w u bs
    gotten t = record { took = t; inside = λ h. refl }

    lengths : {w x : View} {caps : ℕ} → MagicRead lends v tt w → FlagsRead lends w caps x → (m : Outcome Refusal Header) → Comes (LengthRead lends x caps) (Halted None x) m →
        Comes (Headed lends v) (Halted None v) m
    lengths m f (got h y) l = headed m f l
    lengths m f (bad r y) h = halted_behind (gotten m.took) (halted_behind (gotten f.took) h)

-- ---- what is there is read

magic_gives : (lends : Bool) {v : View} {rest : List ℕ} → Stands None v (0x00 ∷ 0x02 ∷ []) rest → Gives (magic_read lends None v) tt v (0x00 ∷ 0x02 ∷ []) rest
unfolding magic_read
magic_gives lends {v} s =
    let bs : List ℕ = 0x00 ∷ 0x02 ∷ [] in
    let g = placed_gives v.count (taking lends None bs 2 (take 2 v.coming) refl refl s) in
    record {
      left = g.left;
      is = ap (λ m. and_then m (is_magic v.count)) g.is ∙ ap (λ bs. is_magic v.count bs g.left) (front_of bs 2 refl s);
      behind = g.behind;
    }

flags_give : (lends : Bool) {v : View} (flags : List ℕ) {rest : List ℕ} → length flags ≡ 4 → Stands None v flags rest → Gives (capabilities_read lends None v) (little_endian flags) v flags rest
unfolding capabilities_read
flags_give lends {v} flags {rest} four s =
    placed_gives v.count (subst (λ bs. Gives (flags_read lends None v) (little_endian bs) v flags rest) (front_of flags 4 four s) (taking lends None flags 4 (little_endian (take 4 v.coming)) four refl s))

length_gives : (lends : Bool) {v : View} (w : Width) (caps start size : ℕ) {rest : List ℕ} → Fits w (pos size) → start ≡ v.count + length (count_encoding w size) →
    start + size ≤ 1152921504606846976 → Stands None v (count_encoding w size) rest →
    Gives (length_read lends None caps v) (record { capabilities = caps; start = start; length = size }) v (count_encoding w size) rest
unfolding length_read
length_gives lends {v} w caps start size fits begins near s =
    let g = placed_count_gives lends w size fits s in
    let there : g.left.count ≡ start = g.behind.count ∙ sym begins in
    let clear : past (Some 1152921504606846976) (g.left.count + size) ≡ false = le-ltb 1152921504606846976 (g.left.count + size) (omega arith) in
    record {
      left = g.left;
      is = ap (λ m. and_then m (bounded v.count caps)) g.is
          ∙ ap (λ b. cond b (bad (at TooLong v.count) g.left) (got (record { capabilities = caps; start = g.left.count; length = size }) g.left)) clear
          ∙ ap (λ n. got (record { capabilities = caps; start = n; length = size }) g.left) there;
      behind = g.behind;
    }

header_gives : (lends : Bool) {v : View} (flags : List ℕ) (w : Width) (start size : ℕ) {rest : List ℕ} → length flags ≡ 4 → Fits w (pos size) → start ≡ v.count + 6 + length (count_encoding w size) →
    start + size ≤ 1152921504606846976 →
    Stands None v (0x00 ∷ 0x02 ∷ (flags ++ count_encoding w size)) rest →
    Gives (header_read lends v) (record { capabilities = little_endian flags; start = start; length = size }) v (0x00 ∷ 0x02 ∷ (flags ++ count_encoding w size)) rest
unfolding header_read
header_gives lends flags w start size four fits begins near s =
    let magic : List ℕ = 0x00 ∷ 0x02 ∷ [] in
    let count = count_encoding w size in
    let m = magic_gives lends (stands_front magic (flags ++ count) s) in
    let behind = stands_back magic (flags ++ count) s m.behind in
    let f = flags_give lends flags four (stands_front flags count behind) in
    let place : start ≡ f.left.count + length count = (let at = f.behind.count in let before = m.behind.count in omega arith) in
    let l = length_gives lends w (little_endian flags) start size fits place near (stands_back flags count behind f.behind) in
    then_gives (λ _ w. and_then (capabilities_read lends None w) (length_read lends None)) magic (flags ++ count) m (then_gives (length_read lends None) flags count f l)

pub header_there : (lends : Bool) (v : View) (caps start size : ℕ) → HeaderAt v v.count caps start size →
    (w : View) × (header_read lends v ≡ got (record { capabilities = caps; start = start; length = size }) w)
header_there lends v caps start size h =
    let (rest, coming) = h.there in
    let four = h.four in
    let begins = h.begins in
    let long = length-append h.flags (count_encoding h.width size) in
    let far : v.count + length (0x00 ∷ 0x02 ∷ (h.flags ++ count_encoding h.width size)) ≡ start = omega arith in
    let s : Stands None v (0x00 ∷ 0x02 ∷ (h.flags ++ count_encoding h.width size)) rest = record { coming = sym (from_here v) ∙ coming; before_end = refl; before_stop = ap (past v.stop) far ∙ h.clear } in
    let g = header_gives lends h.flags h.width start size h.four h.fits h.begins h.bounded s in
    (g.left, subst (λ n. header_read lends v ≡ got (record { capabilities = n; start = start; length = size }) g.left) h.capabilities g.is)
