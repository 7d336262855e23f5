-- What is left of a reader over a source that ended before a part of the buffer was filled.
use Rattle.std.proofs.Common.{◌≡◌, ℕ, ◌+◌, ◌<◌, ◌≤◌, Bool, true, false, ltb, List, ◌++◌, length, take, drop, replicate, is_some, is_err, option_to_list, Some, None, Err, Option, sym, refl, ap, subst, arith, length-take}
use lib.ListN.{length-replicate}
use Rattle.std.proofs.lemmas.Bool.{true≢false, ltb-true, lt-ltb, le-ltb}
use Rattle.source.specs.declared.fault.SourceFault.{SourceFault}
use Rattle.source.specs.Feed.{Feed, after, fronted}
use Rattle.read.specs.declared.Fault.{Fault}
use Rattle.read.specs.Reader.{View, past, thinned, Spent, shortfall, Leaves, wiped, NextBytes}
use Rattle.read.specs.Held.{FetchedBy, Fetch}
use Rattle.read.specs.Sound.{io_view}

spent : (f : Feed) (o : Option ℕ) (k : ℕ) → Spent (io_view f o k) (io_view (after (length f.bytes) f) o k)
spent f o k = record { lost = length f.bytes; coming = lose o; ending = refl; count = refl; stop = refl; peeked = refl; kept = refl }
  where
    lose : (p : Option ℕ) → option_to_list p ++ drop (length f.bytes) f.bytes ≡ thinned (length f.bytes) (is_some p) (option_to_list p ++ f.bytes)
    lose None = refl
    lose (Some b) = refl

short_leaves : (e : Option SourceFault) (v w : View) → Spent v w → Leaves (shortfall e) v w
short_leaves None v w h = h
short_leaves (Some f) v w h = h

short_wipes : (e : Option SourceFault) (n : ℕ) (buf : List ℕ) → wiped false (shortfall e) n buf ≡ fronted (replicate n 0) buf
short_wipes None n buf = refl
short_wipes (Some f) n buf = refl

pub zeroed : (f g : Feed) (o : Option ℕ) (k n : ℕ) (buf part : List ℕ) (e : Fault) → past (Some 1152921504606846992) (k + n) ≡ false → n ≤ length buf → Fetch o f (take n buf) (Err e) g part →
    NextBytes false (io_view f o k) n buf (Err e) (io_view g o k) (part ++ drop n buf)
zeroed f g o k n buf part e unstopped fits h = go (ltb (length (option_to_list o ++ f.bytes)) (length (take n buf))) refl h
  where
    long : length (take n buf) ≡ n
    long = rw length-take (omega arith)

    go : (t : Bool) → ltb (length (option_to_list o ++ f.bytes)) (length (take n buf)) ≡ t → FetchedBy t o f (take n buf) (Err e) g part → NextBytes false (io_view f o k) n buf (Err e) (io_view g o k) (part ++ drop n buf)
    go false q h = let z : false ≡ true = ap is_err (sym h.0) in absurd (true≢false (sym z))
    go true q h =
        let lacks : length (option_to_list o ++ f.bytes) < n = subst (λ l. length (option_to_list o ++ f.bytes) < l) long (ltb-true _ _ q) in
        let is : e ≡ shortfall f.ending = cc h.0 in
        rw (unstopped, le-ltb (length buf) n fits, lt-ltb (length (option_to_list o ++ f.bytes)) n lacks)
        (ap Err is, short_leaves f.ending (io_view f o k) (io_view g o k) (rw h.1 (spent f o k)), rw (h.2, long, short_wipes f.ending n buf, length-replicate {A = ℕ} n 0) refl)
