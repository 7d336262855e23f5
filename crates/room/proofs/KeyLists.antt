-- How the read of a key list is told of what is open.
use Rattle.std.proofs.Common.{◌≡◌, ℕ, suc, ◌+◌, ◌-◌, ◌<◌, ◌≤◌, Bool, true, false, cond, ltb, List, [], ◌++◌, length, drop, IsErrAnd, Some, None, Ok, Err, Option, Result, sym, refl, ap, ◌∙◌, subst, subst₂, ◌==◌, slice_index, ne_eqb, arith}
use Rattle.read.specs.Reader.{View}
use Rattle.read.specs.Reader.{held as held_of}
use Rattle.format.specs.declared.refusal.Refusal.{Refusal}
use Rattle.format.specs.declared.refusal.ReadError.{ReadError}
use Rattle.format.specs.declared.refusal.ReadError.TheVariants.{Byte}
use Rattle.format.specs.declared.refusal.Kind.TheVariants.{KeyList}
use Rattle.format.specs.declared.refusal.Cause.TheVariants.{Depth as TooDeep}
use Rattle.bunser.specs.Outcome.{Outcome, got, bad, and_then, at, placed, placed_result, asked, answer, Tells, TellsAt}
use Rattle.bunser.specs.Reads.{peek_read}
use Rattle.bunser.proofs.Telling.{ok_err, err_is, told_placed}
use Rattle.room.specs.Open.{Column, Open, column_bytes, depth, keys_held, bytes_held}
use Rattle.room.specs.Opened.{Opened}
use Rattle.room.specs.KeyList.{listed_read, levelled, listed, key_list_read, KeysTold, ListTold}
use Rattle.room.specs.declared.depth.Depth.{Depth}
use Rattle.room.specs.Opens.{opened, Kept}
use Rattle.room.specs.declared.opens.Opens.TheInside.{Inside}
use Rattle.room.proofs.Innermost.{two_left, own_keys, own_bytes, listing_kept, listing_opened}

-- the keys go behind those that are there
record Grown (m : Outcome Refusal (List Column)) (keys : List Column) (r : Result Unit Refusal) (keys' : List Column) (w : View) : Type 0 where
  more : List Column
  grown : keys' ≡ keys ++ more
  told : (old : List (Open Column)) → r ≡ Ok tt → ListTold m old r (record { opens = old; listed = more }) w

grown_by : (m : Outcome Refusal (List Column)) (keys : List Column) (r : Result Unit Refusal) (keys' : List Column) (w : View) → KeysTold m keys r keys' w → Grown m keys r keys' w
grown_by (got ks v) keys r keys' w (x, y, z) = record { more = ks; grown = z; told = λ old ok. (x, y, refl) }
grown_by (bad f v) keys r keys' w (x, y, more, z) = record { more = more; grown = z; told = λ old ok. ok_err (sym ok ∙ x) }

-- a list was read, and both levels are given back
module _ (r : Inside) (kept : Kept r) (old : Opened) (is : opened r ≡ old) (none : old.listed ≡ []) (free : depth old.opens + 1 < 128) (below d : Depth) (one : ℕ)
    (taken : below ≡ record { free = r.depth.free - 2 }) (list : one ≡ below.free + 1) (own : d ≡ record { free = one + 1 })
    (lends : Bool) (end : Option ℕ) (v w : View) (keys : List Column) (few : length keys ≤ 256) (s : Result Unit Refusal) (h : KeysTold (listed_read lends end (length r.keys) (column_bytes r.keys) v) r.keys s keys w) where
  same : d.free ≡ r.depth.free
  same = let two = two_left r kept old is free in let a = ap (λ d. d.free) own in let b = ap (λ d. d.free) taken in omega arith

  none_left : drop r.own r.keys ≡ []
  none_left = ap (λ o. o.listed) is ∙ none

  it : Grown (listed_read lends end (length r.keys) (column_bytes r.keys) v) r.keys s keys w
  it = grown_by (listed_read lends end (length r.keys) (column_bytes r.keys) v) r.keys s keys w h

  pub list_kept : Kept (record { top = r.top; frames = r.frames; depth = d; rows = r.rows; keys = keys; own = r.own })
  list_kept = listing_kept r kept none_left keys it.more d same few it.grown

  list_opened : opened (record { top = r.top; frames = r.frames; depth = d; rows = r.rows; keys = keys; own = r.own }) ≡ record { opens = old.opens; listed = it.more }
  list_opened = listing_opened r kept none_left keys it.more d same few it.grown ∙ ap (λ o. record { opens = o.opens; listed = it.more }) is

  many : length r.keys ≡ keys_held old.opens
  many = own_keys r kept none_left ∙ ap (λ o. keys_held o.opens) is

  long : column_bytes r.keys ≡ bytes_held column_bytes old.opens
  long = own_bytes r kept none_left ∙ ap (λ o. bytes_held column_bytes o.opens) is

  pub list_told : s ≡ Ok tt → ListTold (listed_read lends end (keys_held old.opens) (bytes_held column_bytes old.opens) v) old.opens s (opened (record { top = r.top; frames = r.frames; depth = d; rows = r.rows; keys = keys; own = r.own })) w
  list_told ok =
      subst (λ o. ListTold (listed_read lends end (keys_held old.opens) (bytes_held column_bytes old.opens) v) old.opens s o w) (sym list_opened)
      (subst₂ (λ n k. ListTold (listed_read lends end n k v) old.opens s (record { opens = old.opens; listed = it.more }) w) many long (it.told old.opens ok))

  pub list_stop : (f : Refusal) (new : Opened) → s ≡ Err f → new ≡ record { opens = (opened (record { top = r.top; frames = r.frames; depth = d; rows = r.rows; keys = keys; own = r.own })).opens; listed = [] } →
      ListTold (listed_read lends end (keys_held old.opens) (bytes_held column_bytes old.opens) v) old.opens (Err f) new w
  list_stop f new err forgot = subst₂ (λ n k. ListTold (listed_read lends end n k v) old.opens (Err f) new w) many long (go (listed_read lends end (length r.keys) (column_bytes r.keys) v) (subst (λ s. KeysTold (listed_read lends end (length r.keys) (column_bytes r.keys) v) r.keys s keys w) err h))
    where
      go : (m : Outcome Refusal (List Column)) → KeysTold m r.keys (Err f) keys w → ListTold m old.opens (Err f) new w
      go (got ks v) (x, y, z) = ok_err (sym x)
      go (bad g v) (x, y, more, z) = (x, y, forgot ∙ ap (λ o. record { opens = o.opens; listed = [] }) list_opened)

-- ---- the list with its tag

module _ (lends : Bool) (end : Option ℕ) (old : List (Open Column)) (new : Opened) (levels keys held : ℕ) (v w : View) where
  shown_stop : (m : Outcome Refusal ℕ) (f : Refusal) (s : Result Unit Refusal) → TellsAt m (Err f) w → IsErrAnd s (λ g. g ≡ f) → new ≡ record { opens = old; listed = [] } →
      ListTold (and_then m (listed lends end levels keys held)) old s new w
  shown_stop (got t u) f s (x, y) e none = ok_err (sym x)
  shown_stop (bad g u) f s (x, y) e none = let z : f ≡ g = cc in (err_is s f e ∙ ap Err z, y, none)

  pub keys_stop : (p : ℕ) (r : Result ℕ ReadError) (k : Result ℕ Refusal) (f : Refusal) (s : Result Unit Refusal) → p ≡ v.count → Tells (peek_read end v) r w → k ≡ placed_result p r → k ≡ Err f → IsErrAnd s (λ g. g ≡ f) →
      new ≡ record { opens = old; listed = [] } → ListTold (key_list_read lends end levels keys held v) old s new w
  unfolding key_list_read
  keys_stop p r k f s at h is err e none = shown_stop (placed v.count (peek_read end v)) f s (subst (λ k. TellsAt (placed v.count (peek_read end v)) k w) err (told_placed (peek_read end v) p v.count r k w at h is)) e none

  -- the byte that was shown
  module _ (p : ℕ) (at_it : p ≡ v.count) (r : Result ℕ ReadError) (h : Tells (peek_read end v) r w) (k : Result ℕ Refusal) (is : k ≡ placed_result p r) (t : ℕ) (ok : k ≡ Ok t) where
    shown : TellsAt (placed v.count (peek_read end v)) (Ok t) w
    shown = subst (λ k. TellsAt (placed v.count (peek_read end v)) k w) ok (told_placed (peek_read end v) p v.count r k w at_it h is)

    same_count : w.count ≡ v.count
    same_count = go (asked end v None 1) shown
      where
        go : (o : Option ReadError) → TellsAt (placed v.count (answer o v (slice_index v.coming 0) (held_of v))) (Ok t) w → w.count ≡ v.count
        go None (x, y) = ap (λ w. w.count) y
        go (Some e) (x, y) = ok_err x

    shown_told : (s : Result Unit Refusal) (u : View) → ListTold (listed lends end levels keys held t w) old s new u → ListTold (key_list_read lends end levels keys held v) old s new u
    unfolding key_list_read
    shown_told s u = go (placed v.count (peek_read end v)) shown
      where
        go : (m : Outcome Refusal ℕ) → TellsAt m (Ok t) w → ListTold (listed lends end levels keys held t w) old s new u → ListTold (and_then m (listed lends end levels keys held)) old s new u
        go (got b x) (y, z) q = let same : t ≡ b = cc in subst₂ (λ b x. ListTold (listed lends end levels keys held b x) old s new u) same z q
        go (bad g x) (y, z) q = ok_err y

    pub keys_no_list : (f : Refusal) → (t ≡ 0 → ⊥) → f ≡ at (Byte KeyList t) p → new ≡ record { opens = old; listed = [] } → ListTold (key_list_read lends end levels keys held v) old (Err f) new w
    keys_no_list f other told none =
        shown_told (Err f) w
        (subst (λ b. ListTold (cond b (levelled lends end levels keys held w) (bad (at (Byte KeyList t) w.count) w)) old (Err f) new w) (sym (ne_eqb t 0 other))
        (ap Err (told ∙ ap (at (Byte KeyList t)) (at_it ∙ sym same_count)), refl, none))

    listed_here : t ≡ 0 → (s : Result Unit Refusal) (u : View) → ListTold (levelled lends end levels keys held w) old s new u → ListTold (key_list_read lends end levels keys held v) old s new u
    listed_here zero_it s u q =
        shown_told s u (subst (λ b. ListTold (cond b (levelled lends end levels keys held w) (bad (at (Byte KeyList t) w.count) w)) old s new u) (sym (ap (λ t. t == 0) zero_it)) q)

    pub keys_deep : t ≡ 0 → ltb (suc levels) 128 ≡ false → new ≡ record { opens = old; listed = [] } → ListTold (key_list_read lends end levels keys held v) old (Err (record { place = p; cause = TooDeep })) new w
    keys_deep zero_it full none =
        listed_here zero_it (Err (record { place = p; cause = TooDeep })) w
        (subst (λ b. ListTold (cond b (listed_read lends end keys held w) (bad (record { place = w.count; cause = TooDeep }) w)) old (Err (record { place = p; cause = TooDeep })) new w) (sym full)
        (ap (λ p. Err (record { place = p; cause = TooDeep })) (at_it ∙ sym same_count), refl, none))

    pub keys_told : (s : Result Unit Refusal) (u : View) → t ≡ 0 → ltb (suc levels) 128 ≡ true → ListTold (listed_read lends end keys held w) old s new u → ListTold (key_list_read lends end levels keys held v) old s new u
    keys_told s u zero_it free q =
        listed_here zero_it s u (subst (λ b. ListTold (cond b (listed_read lends end keys held w) (bad (record { place = w.count; cause = TooDeep }) w)) old s new u) (sym free) q)
