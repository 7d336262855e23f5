-- Reads of integers, reals, counts and the lengths of keys: what they give was encoded by the bytes that they took.
use Rattle.std.proofs.Common.{◌≡◌, ℕ, ◌^◌, ◌<◌, Bool, true, false, cond, eqb, ◌⊎◌, inl, inr, ◌∷◌, take, ℤ, pos, negsuc, Some, None, Ok, Err, Option, Result, sym, refl, ap, ◌∙◌, subst, arith}
use Rattle.std.proofs.lemmas.Bool.{eqb-true, or_cases}
use Rattle.source.specs.Bytes.{Octets}
use Rattle.source.specs.Sound.{octets_take}
use Rattle.read.specs.Reader.{View, discarded}
use Rattle.format.specs.Integers.{bytes_of, little_endian, twos_complement}
use Rattle.format.specs.Numbers.{read_latching}
use Rattle.format.specs.declared.width.Width.{Width}
use Rattle.format.specs.declared.width.Width.TheVariants.{W8, W16, W32, W64}
use Rattle.format.specs.declared.refusal.ReadError.{ReadError}
use Rattle.format.specs.declared.refusal.ReadError.TheVariants.{Byte, Negative}
use Rattle.format.specs.declared.refusal.Refusal.{Refusal}
use Rattle.format.specs.declared.refusal.Kind.{Kind}
use Rattle.format.specs.declared.refusal.Cause.TheVariants.{Read}
use Rattle.bunser.specs.Outcome.{Outcome, got, bad, at, placed}
use Rattle.bunser.specs.Reads.{peek_read, int_read, real_read, int_width_by, int_width, behind_tag, tagged_int_read, count_of, told_as, count_read}
use Rattle.bunser.specs.Texts.{begins_key, placed_count, behind_key_tag, key_length_read}
use Rattle.values.specs.Values.{digits, bits_of, int_tag, int_encoding, count_encoding, Fits}
use Rattle.runs.proofs.Digits.{digits_of_bytes, bytes_below, int_digits, int_fits}
use Rattle.runs.proofs.Took.{octets_on, Gotten, gotten_more, gotten_as}
use Rattle.runs.proofs.Reading.{Comes, Failed, Halted, failed_at, halted_before, failed_behind, halted_behind, then_comes, placed_comes, cond_comes, whole_comes, Peeked, peeked_untaken, peek_reads, placed_peek_reads}

module _ (lends : Bool) (end : Option ℕ) (v : View) where
  -- a number that fits its width was read of its digits
  pub record NumberRead (w : Width) (z : ℤ) (u : View) : Type 0 where
    pub fits : Fits w z
    pub gotten : Gotten lends end v u (digits (bytes_of w) (bits_of w z))

  pub record RealRead (n : ℕ) (u : View) : Type 0 where
    pub small : n < 2 ^ 64
    pub gotten : Gotten lends end v u (digits 8 n)

  -- an integer was read with its tag
  pub record IntegerRead (z : ℤ) (u : View) : Type 0 where
    pub width : Width
    pub fits : Fits width z
    pub gotten : Gotten lends end v u (int_encoding width z)

  -- a count was read of its encoding
  pub record CountRead (n : ℕ) (u : View) : Type 0 where
    pub width : Width
    pub fits : Fits width (pos n)
    pub gotten : Gotten lends end v u (count_encoding width n)

  -- the length of a key was read with the key's tag
  pub record KeyLengthRead (n : ℕ) (u : View) : Type 0 where
    pub tag : ℕ
    pub key : (tag ≡ 0x02) ⊎ (tag ≡ 0x0d)
    pub width : Width
    pub fits : Fits width (pos n)
    pub gotten : Gotten lends end v u (tag ∷ count_encoding width n)

-- a tag begins an integer of a width, or none
abbrev TagOf : ℕ → Result Width ReadError → Type 0
TagOf t (Ok w) = t ≡ int_tag w
TagOf t (Err e) = read_latching e ≡ true

tag_of : (t : ℕ) → TagOf t (int_width t)
tag_of t = go (eqb t 3) (eqb t 4) (eqb t 5) (eqb t 6) refl refl refl refl
  where
    go : (a b c d : Bool) → eqb t 3 ≡ a → eqb t 4 ≡ b → eqb t 5 ≡ c → eqb t 6 ≡ d →
        TagOf t (int_width_by (cond a (Some W8) (cond b (Some W16) (cond c (Some W32) (cond d (Some W64) None)))) t)
    go true b c d p q r s = eqb-true t 3 p
    go false true c d p q r s = eqb-true t 4 q
    go false false true d p q r s = eqb-true t 5 r
    go false false false true p q r s = eqb-true t 6 s
    go false false false false p q r s = refl

key_tag_of : (t : ℕ) → begins_key t ≡ true → (t ≡ 0x02) ⊎ (t ≡ 0x0d)
key_tag_of t e = go (or_cases (eqb t 0x02) (eqb t 0x0d) e)
  where
    go : (eqb t 0x02 ≡ true) ⊎ (eqb t 0x0d ≡ true) → (t ≡ 0x02) ⊎ (t ≡ 0x0d)
    go (inl h) = inl (eqb-true t 0x02 h)
    go (inr h) = inr (eqb-true t 0x0d h)

module _ (lends : Bool) (end : Option ℕ) (v : View) (octets : Octets v.coming) where
  front_octets : (n : ℕ) → Octets (take n v.coming)
  front_octets n = octets_take n v.coming octets

  pub int_reads : (w : Width) → Comes (NumberRead lends end v w) (Failed end v) (int_read lends end w v)
  int_reads w =
      whole_comes (NumberRead lends end v w) lends end v (bytes_of w) (twos_complement w (little_endian (take (bytes_of w) v.coming)))
      (λ g long.
      let bytes = take (bytes_of w) v.coming in
      record { fits = int_fits w bytes long (front_octets (bytes_of w)); gotten = gotten_as (sym (int_digits w bytes long (front_octets (bytes_of w)))) g })

  pub real_reads : Comes (RealRead lends end v) (Failed end v) (real_read lends end v)
  real_reads =
      whole_comes (RealRead lends end v) lends end v 8 (little_endian (take 8 v.coming))
      (λ g long.
      let bytes = take 8 v.coming in
      record {
        small = subst (λ k. little_endian bytes < 256 ^ k) long (bytes_below bytes (front_octets 8));
        gotten = gotten_as (sym (ap (λ k. digits k (little_endian bytes)) (sym long) ∙ digits_of_bytes bytes (front_octets 8))) g;
      })

module _ (lends : Bool) (end : Option ℕ) (v : View) (octets : Octets v.coming) where
  tagged_int_reads : Comes (IntegerRead lends end v) (Failed end v) (tagged_int_read lends end v)
  unfolding tagged_int_read
  tagged_int_reads =
      then_comes (Peeked lends end v) (Failed end v) (IntegerRead lends end v) (Failed end v) (peek_read end v) (λ t w. behind_tag lends end (int_width t) w) (peek_reads lends end v)
      (λ t w s. by_width t w s (int_width t) (tag_of t)) (λ e w f. f)
    where
      by_width : (t : ℕ) (w : View) → Peeked lends end v t w → (r : Result Width ReadError) → TagOf t r → Comes (IntegerRead lends end v) (Failed end v) (behind_tag lends end r w)
      by_width t w s (Err e) l = failed_behind (peeked_untaken s) (failed_at end w e l)
      by_width t w s (Ok k) is = numbers (int_read lends end k (discarded lends w)) (int_reads lends end (discarded lends w) (octets_on s.gotten.took octets) k)
        where
          numbers : (m : Outcome ReadError ℤ) → Comes (NumberRead lends end (discarded lends w) k) (Failed end (discarded lends w)) m → Comes (IntegerRead lends end v) (Failed end v) m
          numbers (got z u) n = record { width = k; fits = n.fits; gotten = gotten_as (ap (λ t. t ∷ digits (bytes_of k) (bits_of k z)) is) (gotten_more s.gotten n.gotten) }
          numbers (bad e u) n = failed_behind s.gotten n

  count_reads : Comes (CountRead lends end v) (Failed end v) (count_read lends end v)
  unfolding count_read count_encoding
  count_reads =
      then_comes (IntegerRead lends end v) (Failed end v) (CountRead lends end v) (Failed end v) (tagged_int_read lends end v) (λ z w. told_as (count_of z) w) tagged_int_reads by_sign (λ e w f. f)
    where
      by_sign : (z : ℤ) (w : View) → IntegerRead lends end v z w → Comes (CountRead lends end v) (Failed end v) (told_as (count_of z) w)
      by_sign (pos n) w i = record { width = i.width; fits = i.fits; gotten = i.gotten }
      by_sign (negsuc n) w i = failed_behind i.gotten (failed_at end w Negative refl)

  pub placed_count_reads : Comes (CountRead lends end v) (Halted end v) (placed_count lends end v)
  placed_count_reads = placed_comes (CountRead lends end v) (Failed end v) end v v.count (count_read lends end v) (omega arith) count_reads (λ e w h. h)

module _ (lends : Bool) (end : Option ℕ) (kind : Kind) (v : View) (octets : Octets v.coming) where
  pub key_length_reads : Comes (KeyLengthRead lends end v) (Halted end v) (key_length_read lends end kind v)
  unfolding key_length_read
  key_length_reads =
      then_comes (Peeked lends end v) (Halted end v) (KeyLengthRead lends end v) (Halted end v) (placed v.count (peek_read end v)) (behind_key_tag lends end kind)
      (placed_peek_reads lends end v) by_tag (λ f w h. h)
    where
      by_tag : (t : ℕ) (w : View) → Peeked lends end v t w → Comes (KeyLengthRead lends end v) (Halted end v) (behind_key_tag lends end kind t w)
      by_tag t w s =
          cond_comes (KeyLengthRead lends end v) (Halted end v) (begins_key t) (placed_count lends end (discarded lends w)) (bad (at (Byte kind t) w.count) w)
          (λ e. counts (key_tag_of t e) (placed_count lends end (discarded lends w)) (placed_count_reads lends end (discarded lends w) (octets_on s.gotten.took octets)))
          (λ e. halted_before s (Read (Byte kind t)) refl)
        where
          counts : (t ≡ 0x02) ⊎ (t ≡ 0x0d) → (m : Outcome Refusal ℕ) → Comes (CountRead lends end (discarded lends w)) (Halted end (discarded lends w)) m →
              Comes (KeyLengthRead lends end v) (Halted end v) m
          counts is (got n u) c = record { tag = t; key = is; width = c.width; fits = c.fits; gotten = gotten_more s.gotten c.gotten }
          counts is (bad f u) h = halted_behind s.gotten h
