-- What is open by the frames, and how the columns of its templates lie in key room.
use Rattle.std.specs.Prelude.{◌≡◌, ℕ, zero, suc, ◌+◌, ◌-◌, ◌≤◌, List, [], length, get_or, drop}
use Rattle.room.specs.Open.{Column, Open}
use Rattle.room.specs.Frames.{over, below, Ground, Ends, in_row}
use Rattle.room.specs.Opened.{Opened}
use Rattle.room.specs.declared.frame.Frame.{Frame}
use Rattle.room.specs.declared.frame.Frame.TheVariants as frame
use Rattle.room.specs.declared.opens.Opens.TheInside.{Inside}

abbrev pub frame_at : List Frame → ℕ → Frame
frame_at fs i = get_or fs i (frame.Items 0)

-- a frame over the first so many, of which the last is the next below
abbrev pub opens_in : List Column → Frame → List Frame → ℕ → List (Open Column)
opens_in held f fs zero = over held f []
opens_in held f fs (suc n) = over held f (opens_in held (frame_at fs n) fs n)

-- each is of a level but the lowest, and the columns lie one behind the other
abbrev pub Stacked : Frame → List Frame → ℕ → ℕ → Type 0
Stacked f fs zero own = Ground f × (own ≡ 0)
Stacked f fs (suc n) own = Ends f own × Stacked (frame_at fs n) fs n (below f own)

abbrev pub rows_in : Frame → List Frame → ℕ → ℕ
rows_in f fs zero = 0
rows_in f fs (suc n) = in_row f + rows_in (frame_at fs n) fs n

abbrev pub count_of : Inside → ℕ
count_of r = 128 - r.depth.free

abbrev pub opened : Inside → Opened
opened r = record { opens = opens_in r.keys r.top r.frames (count_of r); listed = drop r.own r.keys }

pub record Kept (r : Inside) : Type 0 where
  pub all : length r.frames ≡ 128
  pub free : r.depth.free ≤ 128
  pub stacked : Stacked r.top r.frames (count_of r) r.own
  pub own : r.own ≤ length r.keys
  pub few : length r.keys ≤ 256
  pub rows : r.rows ≡ rows_in r.top r.frames (count_of r)
