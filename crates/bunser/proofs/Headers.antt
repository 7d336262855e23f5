-- How the parts of a header are told.
use Rattle.std.proofs.Common.{◌≡◌, ℕ, ◌+◌, ◌≤◌, Bool, true, false, cond, List, IsErrAnd, IfOk, Some, None, Ok, Err, Option, Result, sym, refl, ap, ◌∙◌, subst, arith}
use Rattle.std.proofs.lemmas.Bool.{ltb-false}
use Rattle.read.specs.Reader.{View, past}
use Rattle.format.specs.declared.refusal.ReadError.{ReadError}
use Rattle.format.specs.declared.refusal.ReadError.TheVariants.{Magic, TooLong}
use Rattle.format.specs.declared.refusal.Refusal.{Refusal}
use Rattle.bunser.specs.declared.Header.{Header}
use Rattle.bunser.specs.Outcome.{Outcome, got, bad, and_then, at, placed, placed_result, RefusalLeaves, Tells, TellsAt}
use Rattle.bunser.specs.Reads.{array_read, count_read, magical, is_magic, magic_read, capabilities_read, bounded, length_read, header_read}
use Rattle.bunser.proofs.Telling.{told_ok, told_placed, then_ok, then_stop, on_true, on_false, ok_err}

-- a placed read that gave something gave it unplaced
pub unplaced : {A : Type 0} (p : ℕ) (a : A) (r : Result A ReadError) → Ok a ≡ placed_result p r → r ≡ Ok a
unplaced p a (Ok b) e = let k : b ≡ a = cc in ap Ok k
unplaced p a (Err f) e = ok_err e

module _ (lends : Bool) (end : Option ℕ) (v w : View) (p : ℕ) (here : p ≡ v.count) where
  module _ (r : Result (List ℕ) ReadError) (reads : Tells (array_read lends end 2 v) r w) where
    bytes_told : (s : Result (List ℕ) Refusal) → s ≡ placed_result p r → TellsAt (placed v.count (array_read lends end 2 v)) s w
    bytes_told s is = told_placed (array_read lends end 2 v) p v.count r s w here reads is

    pub magic_stop : (f : Refusal) (s : Result Unit Refusal) → Err f ≡ placed_result p r → IsErrAnd s (λ e. e ≡ f) → TellsAt (magic_read lends end v) s w
    unfolding magic_read
    magic_stop f s is by = then_stop RefusalLeaves (placed v.count (array_read lends end 2 v)) (is_magic v.count) f w s (bytes_told (Err f) is) by

    judge : List ℕ → Outcome Refusal Unit
    judge bytes = is_magic v.count bytes w

    pub magic_wrong : (bytes : List ℕ) (f : Refusal) → Ok bytes ≡ placed_result p r → magical bytes ≡ false → f ≡ at (Magic bytes) p →
        TellsAt (magic_read lends end v) (Err f) w
    unfolding magic_read
    magic_wrong bytes f is wrong by =
        then_ok RefusalLeaves (placed v.count (array_read lends end 2 v)) (is_magic v.count) bytes w (Err f) w (bytes_told (Ok bytes) is)
        (on_false RefusalLeaves (magical bytes) (got tt w) (bad (at (Magic bytes) v.count) w) (Err f) w wrong
        (ap Err (by ∙ ap (at (Magic bytes)) here), refl))

    pub magic_right : (bytes : List ℕ) → Ok bytes ≡ placed_result p r → magical bytes ≡ true → TellsAt (magic_read lends end v) (Ok tt) w
    unfolding magic_read
    magic_right bytes is right =
        then_ok RefusalLeaves (placed v.count (array_read lends end 2 v)) (is_magic v.count) bytes w (Ok tt) w (bytes_told (Ok bytes) is)
        (on_true RefusalLeaves (magical bytes) (got tt w) (bad (at (Magic bytes) v.count) w) (Ok tt) w right (refl, refl))

  module _ (caps : ℕ) where
    pub length_stop : (f : Refusal) (s : Result Header Refusal) → TellsAt (placed v.count (count_read lends end v)) (Err f) w → IsErrAnd s (λ e. e ≡ f) → TellsAt (length_read lends end caps v) s w
    unfolding length_read
    length_stop f s h by = then_stop RefusalLeaves (placed v.count (count_read lends end v)) (bounded v.count caps) f w s h by

    module _ (n : ℕ) (counted : TellsAt (placed v.count (count_read lends end v)) (Ok n) w) (start : ℕ) (there : start ≡ w.count) where
      far : past (Some 1152921504606846976) (start + n) ≡ past (Some 1152921504606846976) (w.count + n)
      far = ap (λ k. past (Some 1152921504606846976) (k + n)) there

      pub length_far : (f : Refusal) → past (Some 1152921504606846976) (start + n) ≡ true → f ≡ at TooLong p → TellsAt (length_read lends end caps v) (Err f) w
      unfolding length_read
      length_far f passes by =
          then_ok RefusalLeaves (placed v.count (count_read lends end v)) (bounded v.count caps) n w (Err f) w counted
          (on_true RefusalLeaves (past (Some 1152921504606846976) (w.count + n)) (bad (at TooLong v.count) w) (got (record { capabilities = caps; start = w.count; length = n }) w) (Err f) w (sym far ∙ passes)
          (ap Err (by ∙ ap (at TooLong) here), refl))

      pub length_near : past (Some 1152921504606846976) (start + n) ≡ false → TellsAt (length_read lends end caps v) (Ok (record { capabilities = caps; start = start; length = n })) w
      unfolding length_read
      length_near stays =
          then_ok RefusalLeaves (placed v.count (count_read lends end v)) (bounded v.count caps) n w _ w counted
          (on_false RefusalLeaves (past (Some 1152921504606846976) (w.count + n)) (bad (at TooLong v.count) w) (got (record { capabilities = caps; start = w.count; length = n }) w) _ w (sym far ∙ stays)
          (ap (λ k. Ok (record { capabilities = caps; start = k; length = n })) there, refl))

-- an accepted body ends by 2 ^ 60
bounded_sum : (p caps n : ℕ) (v : View) (h : Header) (w : View) → bounded p caps n v ≡ got h w → h.start + h.length ≤ 1152921504606846976
bounded_sum p caps n v h w e = go (past (Some 1152921504606846976) (v.count + n)) refl e
  where
    go : (b : Bool) → past (Some 1152921504606846976) (v.count + n) ≡ b → cond b (bad (at TooLong p) v) (got (record { capabilities = caps; start = v.count; length = n }) v) ≡ got h w → h.start + h.length ≤ 1152921504606846976
    go true q e = let z : ◌≡◌ {A = ℕ} 0 1 = cc in absurd (omega arith)
    go false q e =
        let same : record { capabilities = caps; start = v.count; length = n } ≡ h = cc in
        subst (λ (x : Header). x.start + x.length ≤ 1152921504606846976) same (ltb-false 1152921504606846976 (v.count + n) q)

pub length_sum : (lends : Bool) (end : Option ℕ) (caps : ℕ) (v : View) (r : Result Header Refusal) (w : View) → TellsAt (length_read lends end caps v) r w → IfOk r (λ h. h.start + h.length ≤ 1152921504606846976)
unfolding length_read
length_sum lends end caps v (Err f) w t = tt
length_sum lends end caps v (Ok h) w t = go (placed v.count (count_read lends end v)) (told_ok RefusalLeaves (length_read lends end caps v) h w t)
  where
    go : (m : Outcome Refusal ℕ) → and_then m (bounded v.count caps) ≡ got h w → h.start + h.length ≤ 1152921504606846976
    go (got n u) e = bounded_sum v.count caps n u h w e
    go (bad f u) e = let z : ◌≡◌ {A = ℕ} 0 1 = cc in absurd (omega arith)

-- ---- the whole header, whose parts are read while no end is declared

module _ (lends : Bool) (v : View) where
  unended : (end : Option ℕ) → end ≡ None → (r : Result Unit Refusal) (w : View) → TellsAt (magic_read lends end v) r w → TellsAt (magic_read lends None v) r w
  unended end none r w h = subst (λ e. TellsAt (magic_read lends e v) r w) none h

  pub header_stop : (end : Option ℕ) → end ≡ None → (w : View) (f : Refusal) (s : Result Header Refusal) → TellsAt (magic_read lends end v) (Err f) w → IsErrAnd s (λ e. e ≡ f) → TellsAt (header_read lends v) s w
  unfolding header_read
  header_stop end none w f s h by = then_stop RefusalLeaves (magic_read lends None v) (λ _ w. and_then (capabilities_read lends None w) (length_read lends None)) f w s (unended end none (Err f) w h) by

  module _ (w : View) (end₀ : Option ℕ) (none₀ : end₀ ≡ None) (first : TellsAt (magic_read lends end₀ v) (Ok tt) w) (end : Option ℕ) (none : end ≡ None) where
    behind_magic : (s : Result Header Refusal) (u : View) → TellsAt (and_then (capabilities_read lends None w) (length_read lends None)) s u → TellsAt (header_read lends v) s u
    unfolding header_read
    behind_magic s u h = then_ok RefusalLeaves (magic_read lends None v) (λ _ w. and_then (capabilities_read lends None w) (length_read lends None)) tt w s u (unended end₀ none₀ (Ok tt) w first) h

    pub header_stop_capabilities : (u : View) (f : Refusal) (s : Result Header Refusal) → TellsAt (capabilities_read lends end w) (Err f) u → IsErrAnd s (λ e. e ≡ f) → TellsAt (header_read lends v) s u
    header_stop_capabilities u f s h by =
        behind_magic s u (then_stop RefusalLeaves (capabilities_read lends None w) (length_read lends None) f u s (subst (λ e. TellsAt (capabilities_read lends e w) (Err f) u) none h) by)

    module _ (u : View) (caps : ℕ) (end₂ : Option ℕ) (none₂ : end₂ ≡ end) (second : TellsAt (capabilities_read lends end w) (Ok caps) u) where
      pub header_told : (s : Result Header Refusal) (x : View) → TellsAt (length_read lends end₂ caps u) s x → TellsAt (header_read lends v) s x
      header_told s x h =
          behind_magic s x (then_ok RefusalLeaves (capabilities_read lends None w) (length_read lends None) caps u s x (subst (λ e. TellsAt (capabilities_read lends e w) (Ok caps) u) none second)
          (subst (λ e. TellsAt (length_read lends e caps u) s x) (none₂ ∙ none) h))
