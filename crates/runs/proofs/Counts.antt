-- Encodings of integers and counts are read back, and told apart from what follows them.
use Rattle.std.proofs.Common.{◌≡◌, ℕ, zero, suc, ◌*◌, ◌/◌, ◌^◌, ◌<◌, ◌≤◌, List, [], ◌∷◌, ◌++◌, length, ℤ, pos, negsuc, refl, ap, arith, pow-suc, sym, ◌∙◌, ◌-◌}
use Rattle.std.proofs.lemmas.Bool.{le-ltb, lt-ltb}
use Rattle.format.specs.declared.width.Width.{Width}
use Rattle.format.specs.declared.width.Width.TheVariants.{W8, W16, W32, W64}
use Rattle.format.specs.Integers.{bytes_of, half_of, little_endian, twos_complement}
use Rattle.values.specs.Values.{digits, bits_of, int_tag, int_encoding, count_encoding, Fits}

-- two lists whose fronts are of one length are the same in both parts
pub same_fronts : (a b : List ℕ) {r q : List ℕ} → length a ≡ length b → a ++ r ≡ b ++ q → (a ≡ b) × (r ≡ q)
same_fronts [] [] long e = (refl, e)
same_fronts [] (y ∷ b) long e = absurd (omega arith)
same_fronts (x ∷ a) [] long e = absurd (omega arith)
same_fronts (x ∷ a) (y ∷ b) {r} {q} long e =
    let heads : x ≡ y = cc in
    let tails : a ++ r ≡ b ++ q = cc in
    let (fronts, rests) = same_fronts a b (omega arith) tails in
    (cc, rests)

pub length_digits : (k n : ℕ) → length (digits k n) ≡ k
length_digits zero n = refl
length_digits (suc k) n = ap suc (length_digits k (n / 256))

pub digits_value : (k n : ℕ) → n < 256 ^ k → little_endian (digits k n) ≡ n
digits_value zero n h = omega arith
digits_value (suc k) n h =
    let wider : n < 256 ^ k * 256 = rw (pow-suc 256 k) at h in
    let rest = digits_value k (n / 256) (omega arith) in
    rw rest (omega arith)

pub whole_of : (w : Width) → 256 ^ bytes_of w ≡ 2 * half_of w
whole_of W8 = refl
whole_of W16 = refl
whole_of W32 = refl
whole_of W64 = refl

bits_below : (w : Width) (z : ℤ) → Fits w z → bits_of w z < 256 ^ bytes_of w
bits_below w (pos n) h = rw (whole_of w) (omega arith)
bits_below w (negsuc n) h = rw (whole_of w) (omega arith)

bits_back : (w : Width) (z : ℤ) → Fits w z → twos_complement w (bits_of w z) ≡ z
bits_back w (pos n) h = rw (lt-ltb n (half_of w) h) refl
bits_back w (negsuc n) h =
    let high : half_of w ≤ 2 * half_of w - suc n = omega arith in
    let back : 2 * half_of w - suc (2 * half_of w - suc n) ≡ n = omega arith in
    rw (le-ltb (2 * half_of w - suc n) (half_of w) high, back) refl

-- the bytes behind the tag of an integer mean it
pub int_back : (w : Width) (z : ℤ) → Fits w z → twos_complement w (little_endian (digits (bytes_of w) (bits_of w z))) ≡ z
int_back w z h = rw (digits_value (bytes_of w) (bits_of w z) (bits_below w z h)) (bits_back w z h)

same_width : (w u : Width) → int_tag w ≡ int_tag u → w ≡ u
same_width W8 W8 e = refl
same_width W16 W16 e = refl
same_width W32 W32 e = refl
same_width W64 W64 e = refl
same_width _ _ e = absurd (omega arith)

pub int_same : {w u : Width} {x y : ℤ} (r q : List ℕ) → Fits w x → Fits u y → int_encoding w x ++ r ≡ int_encoding u y ++ q → (w ≡ u) × (x ≡ y) × (r ≡ q)
int_same {w} {u} {x} {y} r q f g e =
    let tags : int_tag w ≡ int_tag u = cc in
    let tails : digits (bytes_of w) (bits_of w x) ++ r ≡ digits (bytes_of u) (bits_of u y) ++ q = cc in
    go u (same_width w u tags) y g tails
  where
    go : (u : Width) → w ≡ u → (y : ℤ) → Fits u y → digits (bytes_of w) (bits_of w x) ++ r ≡ digits (bytes_of u) (bits_of u y) ++ q → (w ≡ u) × (x ≡ y) × (r ≡ q)
    go u same y g tails =
        let one = digits (bytes_of w) (bits_of w x) in
        let other = digits (bytes_of u) (bits_of u y) in
        let long : length one ≡ length other = length_digits (bytes_of w) (bits_of w x) ∙ ap bytes_of same ∙ sym (length_digits (bytes_of u) (bits_of u y)) in
        let (fronts, rests) = same_fronts one other long tails in
        let back : twos_complement w (little_endian one) ≡ twos_complement u (little_endian other) = cc in
        (same, sym (int_back w x f) ∙ back ∙ int_back u y g, rests)

pub count_same : {w u : Width} {n m : ℕ} (r q : List ℕ) → Fits w (pos n) → Fits u (pos m) → count_encoding w n ++ r ≡ count_encoding u m ++ q → (w ≡ u) × (n ≡ m) × (r ≡ q)
unfolding count_encoding
count_same {w} {u} {n} {m} r q f g e =
    let same = int_same {w = w} {u = u} {x = pos n} {y = pos m} r q f g e in
    let numbers : pos n ≡ pos m = same.1 in
    (same.0, cc numbers, same.2)

pub length_count : (w : Width) (n : ℕ) → length (count_encoding w n) ≡ suc (bytes_of w)
unfolding count_encoding
length_count w n = ap suc (length_digits (bytes_of w) n)
