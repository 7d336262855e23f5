-- Over the same bytes a reader that lends and one that copies come to the same header.
use Rattle.std.proofs.Common.{◌≡◌, ℕ, ◌+◌, ◌≤◌, Bool, true, false, cond, eqb, ltb, List, ◌++◌, length, get_or, take, drop, Some, None, Ok, Err, Option, Result, sym, refl, ap, ◌∙◌, subst, arith}
use Rattle.std.proofs.lemmas.Bool.{le-ltb}
use Rattle.read.specs.declared.Fault.TheVariants as fault
use Rattle.source.specs.declared.fault.SourceFault.{SourceFault}
use Rattle.source.specs.Feed.{giving, chained}
use Rattle.read.specs.declared.slice.SliceRead.{SliceRead}
use Rattle.read.specs.Slice.{slice_view}
use Rattle.read.specs.Sound.{io_view}
use Rattle.read.specs.Reader.{View, past, shortfall, held, advanced, discarded}
use Rattle.format.specs.declared.width.Width.{Width}
use Rattle.format.specs.declared.width.Width.TheVariants.{W8, W16, W32, W64}
use Rattle.format.specs.declared.refusal.ReadError.{ReadError}
use Rattle.format.specs.declared.refusal.ReadError.TheVariants.{Magic, TooLong}
use Rattle.format.specs.declared.refusal.Refusal.{Refusal}
use Rattle.format.specs.Integers.{bytes_of, little_endian, twos_complement}
use Rattle.bunser.specs.declared.Header.{Header}
use Rattle.bunser.specs.Outcome.{Outcome, got, bad, and_then, at, placed, judged, asked, answer, TellsAt}
use Rattle.tablecheck.specs.Reports.{header_told}
use Rattle.bunser.specs.Reads.{peek_read, array_read, int_width, behind_tag, tagged_int_read, count_of, told_as, count_read, magical, is_magic, magic_read, capabilities_read, bounded, length_read, header_read}

-- the same reader but for lending and copying, and for a stop that is far away; so many bytes are taken at most
record Alike (most : ℕ) (v w : View) : Type 0 where
  coming : v.coming ≡ w.coming
  ending : v.ending ≡ w.ending
  count : v.count ≡ w.count
  peeked : v.peeked ≡ w.peeked
  unstopped : v.stop ≡ None
  stops : w.stop ≡ Some 1152921504606846992
  few : w.count ≤ most

abbrev questions : ℕ → List ℕ → Option SourceFault → Option ReadError
questions n xs e = judged false (cond (ltb (length xs) n) (Some (shortfall e)) None)

asked_alike : (most n : ℕ) (v w : View) → Alike most v w → most + n ≤ 1152921504606846992 → asked None v None n ≡ asked None w None n
asked_alike most n v w a near = lending ∙ middle ∙ sym copying
  where
    lending : asked None v None n ≡ questions n v.coming v.ending
    lending = ap (λ s. judged false (cond (past s (v.count + n)) (Some fault.Stop) (cond (ltb (length v.coming) n) (Some (shortfall v.ending)) None))) a.unstopped

    middle : questions n v.coming v.ending ≡ questions n w.coming w.ending
    middle = ap (λ xs. questions n xs v.ending) a.coming ∙ ap (λ e. questions n w.coming e) a.ending

    free : ltb 1152921504606846992 (w.count + n) ≡ false
    free = let few = a.few in le-ltb _ _ (omega arith)

    copying : asked None w None n ≡ questions n w.coming w.ending
    copying =
        ap (λ s. judged false (cond (past s (w.count + n)) (Some fault.Stop) (cond (ltb (length w.coming) n) (Some (shortfall w.ending)) None))) a.stops
        ∙ ap (λ b. judged false (cond b (Some fault.Stop) (cond (ltb (length w.coming) n) (Some (shortfall w.ending)) None))) free

-- two reads that come to the same
data Same {E A : Type 0} (most : ℕ) : Outcome E A → Outcome E A → Type 0 where
  both_got : {a : A} {v w : View} → Alike most v w → Same most (got a v) (got a w)
  both_bad : {e : E} {v w : View} → Same most (bad e v) (bad e w)

same_then : {E A B : Type 0} (most more : ℕ) (m n : Outcome E A) (f g : A → View → Outcome E B) → Same most m n → ((a : A) (v w : View) → Alike most v w → Same more (f a v) (g a w)) → Same more (and_then m f) (and_then n g)
same_then most more _ _ f g (both_got {a} {v} {w} h) k = k a v w h
same_then most more _ _ f g both_bad k = both_bad

same_placed : {A : Type 0} (most p q : ℕ) (m n : Outcome ReadError A) → p ≡ q → Same most m n → Same most (placed p m) (placed q n)
same_placed {A} most p q _ _ e (both_got h) = both_got h
same_placed {A} most p q _ _ e (both_bad {e = f} {v = v} {w = w}) = subst (λ k. Same {E = Refusal} {A = A} most (bad (at f p) v) (bad (at f k) w)) e both_bad

same_answer : {A : Type 0} (most : ℕ) (o : Option ReadError) (v w : View) (x : A) (t u : View) → Alike most t u → Same most (answer o v x t) (answer o w x u)
same_answer most None v w x t u h = both_got h
same_answer most (Some e) v w x t u h = both_bad

told_same : {A : Type 0} (most : ℕ) (m n : Outcome Refusal A) (r s : Result A Refusal) (v w : View) → Same most m n → TellsAt m r v → TellsAt n s w → r ≡ s
told_same most _ _ r s v w (both_got h) (e, p) (f, q) = e ∙ sym f
told_same most _ _ r s v w both_bad (e, p) (f, q) = e ∙ sym f

module _ (most : ℕ) (v w : View) (a : Alike most v w) where
  advanced_alike : (n : ℕ) → Alike (most + n) (advanced true n v) (advanced false n w)
  advanced_alike n = let few = a.few in record {
    coming = ap (drop n) a.coming;
    ending = a.ending;
    count = ap (λ k. k + n) a.count;
    peeked = ap (λ b. cond (eqb n 0) b false) a.peeked;
    unstopped = a.unstopped;
    stops = a.stops;
    few = omega arith;
  }

  held_alike : Alike most (held v) (held w)
  held_alike = record { coming = a.coming; ending = a.ending; count = a.count; peeked = refl; unstopped = a.unstopped; stops = a.stops; few = a.few }

  discarded_alike : Alike (most + 1) (discarded true v) (discarded false w)
  discarded_alike = go v.peeked w.peeked a.peeked
    where
      go : (b c : Bool) → b ≡ c → Alike (most + 1) (cond b (advanced true 1 v) v) (cond c (advanced false 1 w) w)
      go true true e = advanced_alike 1
      go false false e = let few = a.few in record { coming = a.coming; ending = a.ending; count = a.count; peeked = a.peeked; unstopped = a.unstopped; stops = a.stops; few = omega arith }
      go true false e = let z : ◌≡◌ {A = ℕ} 0 1 = cc in absurd (omega arith)
      go false true e = let z : ◌≡◌ {A = ℕ} 0 1 = cc in absurd (omega arith)

  -- a read of n bytes of which something is made
  taking : {A : Type 0} (n : ℕ) (f : List ℕ → A) → most + n ≤ 1152921504606846992 →
      Same (most + n) (answer (asked None v None n) v (f v.coming) (advanced true n v)) (answer (asked None w None n) w (f w.coming) (advanced false n w))
  taking n f near =
      subst (λ o. Same (most + n) (answer (asked None v None n) v (f v.coming) (advanced true n v)) (answer o w (f w.coming) (advanced false n w))) (asked_alike most n v w a near)
      (subst (λ xs. Same (most + n) (answer (asked None v None n) v (f v.coming) (advanced true n v)) (answer (asked None v None n) w (f xs) (advanced false n w))) a.coming
      (same_answer (most + n) (asked None v None n) v w (f v.coming) (advanced true n v) (advanced false n w) (advanced_alike n)))

  peeking : most + 1 ≤ 1152921504606846992 → Same most (peek_read None v) (peek_read None w)
  peeking near =
      subst (λ o. Same most (peek_read None v) (answer o w (get_or w.coming 0 0) (held w))) (asked_alike most 1 v w a near)
      (subst (λ xs. Same most (peek_read None v) (answer (asked None v None 1) w (get_or xs 0 0) (held w))) a.coming
      (same_answer most (asked None v None 1) v w (get_or v.coming 0 0) (held v) (held w) held_alike))

wide : (w : Width) → bytes_of w ≤ 8
wide W8 = omega arith
wide W16 = omega arith
wide W32 = omega arith
wide W64 = omega arith

wider : {E A : Type 0} (most more : ℕ) (m n : Outcome E A) → most ≤ more → Same most m n → Same more m n
wider most more _ _ h (both_got a) = let few = a.few in both_got (record { coming = a.coming; ending = a.ending; count = a.count; peeked = a.peeked; unstopped = a.unstopped; stops = a.stops; few = omega arith })
wider most more _ _ h both_bad = both_bad

module _ (most : ℕ) (small : most ≤ 100) where
  int_same : (r : Result Width ReadError) (v w : View) → Alike most v w → Same (most + 9) (behind_tag true None r v) (behind_tag false None r w)
  int_same (Err e) v w a = both_bad
  int_same (Ok k) v w a =
      let few = wide k in
      wider (most + 1 + bytes_of k) (most + 9) _ _ (omega arith)
      (taking (most + 1) (discarded true v) (discarded false w) (discarded_alike most v w a) (bytes_of k) (λ xs. twos_complement k (little_endian (take (bytes_of k) xs))) (omega arith))

  tagged_same : (v w : View) → Alike most v w → Same (most + 9) (tagged_int_read true None v) (tagged_int_read false None w)
  unfolding tagged_int_read
  tagged_same v w a =
      same_then most (most + 9) (peek_read None v) (peek_read None w) (λ t x. behind_tag true None (int_width t) x) (λ t x. behind_tag false None (int_width t) x) (peeking most v w a (omega arith))
      (λ t x y b. int_same (int_width t) x y b)

  counted_same : (r : Result ℕ ReadError) (v w : View) → Alike (most + 9) v w → Same (most + 9) (told_as r v) (told_as r w)
  counted_same (Ok n) v w a = both_got a
  counted_same (Err e) v w a = both_bad

  count_same : (v w : View) → Alike most v w → Same (most + 9) (count_read true None v) (count_read false None w)
  unfolding count_read
  count_same v w a =
      same_then (most + 9) (most + 9) (tagged_int_read true None v) (tagged_int_read false None w) (λ z x. told_as (count_of z) x) (λ z x. told_as (count_of z) x) (tagged_same v w a)
      (λ z x y b. counted_same (count_of z) x y b)

  bounded_same : (p q caps n : ℕ) (v w : View) → p ≡ q → Alike (most + 9) v w → Same {E = Refusal} {A = Header} (most + 9) (bounded p caps n v) (bounded q caps n w)
  bounded_same p q caps n v w e a =
      subst (λ k. Same {E = Refusal} {A = Header} (most + 9) (bounded p caps n v) (bounded k caps n w)) e
      (subst (λ k. Same {E = Refusal} {A = Header} (most + 9) (bounded p caps n v) (cond (past (Some 1152921504606846976) (k + n)) (bad (at TooLong p) w) (got (record { capabilities = caps; start = k; length = n }) w))) a.count (go (past (Some 1152921504606846976) (v.count + n))))
    where
      go : (b : Bool) → Same {E = Refusal} {A = Header} (most + 9) (cond b (bad (at TooLong p) v) (got (record { capabilities = caps; start = v.count; length = n }) v)) (cond b (bad (at TooLong p) w) (got (record { capabilities = caps; start = v.count; length = n }) w))
      go true = both_bad
      go false = both_got a

  length_same : (caps : ℕ) (v w : View) → Alike most v w → Same (most + 9) (length_read true None caps v) (length_read false None caps w)
  unfolding length_read
  length_same caps v w a =
      same_then (most + 9) (most + 9) (placed v.count (count_read true None v)) (placed w.count (count_read false None w)) (bounded v.count caps) (bounded w.count caps)
      (same_placed (most + 9) v.count w.count (count_read true None v) (count_read false None w) a.count (count_same v w a))
      (λ n x y b. bounded_same v.count w.count caps n x y a.count b)

magic_same : (most p q : ℕ) (bs : List ℕ) (v w : View) → p ≡ q → Alike most v w → Same {E = Refusal} {A = Unit {0}} most (is_magic p bs v) (is_magic q bs w)
magic_same most p q bs v w e a = subst (λ k. Same {E = Refusal} {A = Unit {0}} most (is_magic p bs v) (is_magic k bs w)) e (go (magical bs))
  where
    go : (b : Bool) → Same {E = Refusal} {A = Unit {0}} most (cond b (got tt v) (bad (at (Magic bs) p) v)) (cond b (got tt w) (bad (at (Magic bs) p) w))
    go true = both_got a
    go false = both_bad

header_same : (v w : View) → Alike 0 v w → Same 15 (header_read true v) (header_read false w)
unfolding header_read magic_read capabilities_read
header_same v w a =
    same_then 2 15 (magic_read true None v) (magic_read false None w) (λ _ x. and_then (capabilities_read true None x) (length_read true None)) (λ _ x. and_then (capabilities_read false None x) (length_read false None))
    (same_then 2 2 (placed v.count (array_read true None 2 v)) (placed w.count (array_read false None 2 w)) (is_magic v.count) (is_magic w.count)
    (same_placed 2 v.count w.count (array_read true None 2 v) (array_read false None 2 w) a.count (taking 0 v w a 2 (take 2) (omega arith)))
    (λ bs x y b. magic_same 2 v.count w.count bs x y a.count b))
    (λ _ x y b.
    same_then 6 15 (capabilities_read true None x) (capabilities_read false None y) (length_read true None) (length_read false None)
    (same_placed 6 x.count y.count _ _ b.count (taking 2 x y b 4 (λ xs. little_endian (take 4 xs)) (omega arith)))
    (λ caps s t d. length_same 6 (omega arith) caps s t d))

told_alike : (most : ℕ) (m n : Outcome Refusal Header) → Same most m n → header_told m ≡ header_told n
told_alike most _ _ (both_got h) = refl
told_alike most _ _ both_bad = refl

-- a file over a slice, and in a chain of two parts, as the readers have them when they are new
module _ (xs a b : List ℕ) (s : SliceRead) (k : ℕ) (ea eb : Option SourceFault) (o : Option ℕ) where
  alike : s.slice.now ≡ xs → s.index ≡ 0 → s.peeked ≡ false → a ++ b ≡ xs → ea ≡ None → eb ≡ None → o ≡ None → k ≡ 0 → Alike 0 (slice_view s) (io_view (chained (giving a ea) (giving b eb)) o k)
  alike is_s is_i is_p parts clean_a clean_b is_o is_k =
      rw (is_s, is_i, is_p, clean_a, clean_b, is_o, is_k) (record { coming = sym parts; ending = refl; count = refl; peeked = refl; unstopped = refl; stops = refl; few = omega arith })

  pub agree : s.slice.now ≡ xs → s.index ≡ 0 → s.peeked ≡ false → a ++ b ≡ xs → ea ≡ None → eb ≡ None → o ≡ None → k ≡ 0 → (r q : Result Header Refusal) (v w : View) →
      TellsAt (header_read true (slice_view s)) r v →
      TellsAt (header_read false (io_view (chained (giving a ea) (giving b eb)) o k)) q w → r ≡ q
  agree is_s is_i is_p parts clean_a clean_b is_o is_k r q v w h t =
      told_same 15 (header_read true (slice_view s)) (header_read false (io_view (chained (giving a ea) (giving b eb)) o k)) r q v w
      (header_same _ _ (alike is_s is_i is_p parts clean_a clean_b is_o is_k)) h t

  pub told_agree : s.slice.now ≡ xs → s.index ≡ 0 → s.peeked ≡ false → a ++ b ≡ xs → ea ≡ None → eb ≡ None → o ≡ None → k ≡ 0 →
      header_told (header_read true (slice_view s)) ≡ header_told (header_read false (io_view (chained (giving a ea) (giving b eb)) o k))
  told_agree is_s is_i is_p parts clean_a clean_b is_o is_k = told_alike 15 _ _ (header_same _ _ (alike is_s is_i is_p parts clean_a clean_b is_o is_k))

-- the result of a read is what the read tells
pub told_by : (m : Outcome Refusal Header) (r : Result Header Refusal) (w : View) → TellsAt m r w → r ≡ header_told m
told_by (got h v) r w t = t.0
told_by (bad f v) r w t = t.0
