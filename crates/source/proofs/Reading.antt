-- What one read tells, and what a loop that fills a buffer keeps.
use Rattle.std.proofs.Common.{◌≡◌, ℕ, ◌+◌, ◌-◌, ◌<◌, ◌≤◌, List, ◌++◌, length, take, drop, None, Ok, Option, refl, ap, append_assoc, append-nil, arith, length-drop, length-take, drop-drop, take-add}
use borrow.Rule.Slice.PartMut.{put_mid}
use Rattle.std.proofs.lemmas.Bool.{ne_eqb}
use Rattle.std.proofs.lemmas.Bool.Decides.{nat_tests}
use Rattle.std.proofs.lemmas.List.{take_at, drop_at, drop_all, take_rest, drop-append-le, take-append-drop}
use Rattle.source.specs.declared.fault.SourceFault.{SourceFault}
use Rattle.source.specs.Feed.{Feed, giving, after, fronted, Read}

-- a portion of n bytes came
pub record Came (f : Feed) (buf : List ℕ) (n : ℕ) (g : Feed) (buf' : List ℕ) : Type 0 where
  pub some : 1 ≤ n
  pub room : n ≤ length buf
  pub there : n ≤ length f.bytes
  pub left : g ≡ after n f
  pub put : buf' ≡ fronted (take n f.bytes) buf

module _ (f g : Feed) (buf buf' : List ℕ) where
  pub came : (n : ℕ) → Read f buf (Ok n) g buf' → 0 < length buf → (n ≡ 0 → ⊥) → Came f buf n g buf'
  came n h more some = record { some = grind (arith, nat_tests); room = grind (arith, nat_tests); there = grind (arith, nat_tests); left = grind (arith, nat_tests); put = grind (arith, nat_tests) }

-- the first `at` bytes of the buffer have been filled; `old` is the buffer at the start
pub record Filling (f : Feed) (old : List ℕ) (at : ℕ) (now_left : Feed) (buf : List ℕ) : Type 0 where
  pub within : at ≤ length old
  pub enough : at ≤ length f.bytes
  pub left : now_left ≡ after at f
  pub front : buf ≡ take at f.bytes ++ drop at old

pub room_left : (buf : List ℕ) (at : ℕ) → at < length buf → 0 < length (take (length buf - at) (drop at buf))
room_left buf at h = simp (length-take, length-drop) (omega arith)

module _ (f f1 : Feed) (old buf : List ℕ) (at : ℕ) (i : Filling f old at f1 buf) where
  front_long : length (take at f.bytes) ≡ at
  front_long = let e = i.enough in simp length-take (omega arith)

  -- the part that is handed to the source
  pub wanted : take (length buf - at) (drop at buf) ≡ drop at old
  wanted = rw (take_rest buf at, i.front, drop_at (take at f.bytes) (drop at old) at front_long) refl

  -- the whole buffer once the part is back
  back : (part : List ℕ) → put_mid at (length buf - at) buf part ≡ take at f.bytes ++ part
  back part =
      let short : length (drop at buf) ≤ length buf - at = rw length-drop (omega arith) in
      rw (drop_all (length buf - at) (drop at buf) short, append-nil, i.front, take_at (take at f.bytes) (drop at old) at front_long) refl

  pub fill_more : (n : ℕ) (g : Feed) (part : List ℕ) → Came f1 (take (length buf - at) (drop at buf)) n g part → Filling f old (at + n) g (put_mid at (length buf - at) buf part)
  fill_more n g part h =
      let c : Came (after at f) (drop at old) n g part = rw (i.left, wanted) at h in
      let long : length (take n (drop at f.bytes)) ≡ n = let e = c.there in simp length-take (omega arith) in
      let within = i.within in
      let enough = i.enough in
      record {
        within = let a : n ≤ length old - at = simp length-drop at c.room in omega arith;
        enough = let a : n ≤ length f.bytes - at = simp length-drop at c.there in omega arith;
        left = rw (c.left, drop-drop n at f.bytes) refl;
        front = rw (back part, c.put, long, take-add, drop-drop n at old, append_assoc) refl;
      }
