-- What a reader over a source fetches, behind a byte that it may hold back.
use Rattle.std.specs.Prelude.{◌≡◌, ℕ, ◌-◌, Bool, true, false, List, ◌++◌, length, take, replicate, Ok, Err, Option, Result, nat_lt, slice_index, option_to_list}
use Rattle.source.specs.Feed.{Feed, after}
use Rattle.read.specs.declared.Fault.{Fault}
use Rattle.read.specs.Reader.{shortfall}

-- One byte is fetched from a source, or the source has ended.
abbrev pub OneBy : Bool → Feed → Result ℕ Fault → Feed → Type 0
OneBy true f r g = (r ≡ Err (shortfall f.ending)) × (g ≡ f)
OneBy false f r g = (r ≡ Ok (slice_index f.bytes 0)) × (g ≡ after 1 f)

abbrev pub FetchOne : Feed → Result ℕ Fault → Feed → Type 0
FetchOne f r g = OneBy (nat_lt (length f.bytes) 1) f r g

abbrev pub FetchedBy : Bool → Option ℕ → Feed → List ℕ → Result Unit Fault → Feed → List ℕ → Type 0
FetchedBy false o f part r g part' = (r ≡ Ok tt) × (g ≡ after (length part - length (option_to_list o)) f) × (part' ≡ take (length part) (option_to_list o ++ f.bytes))
FetchedBy true o f part r g part' = (r ≡ Err (shortfall f.ending)) × (g ≡ after (length f.bytes) f) × (part' ≡ replicate (length part) 0)

-- A part of a buffer is filled with a held byte and what a source gives, or zeroed where it ends.
abbrev pub Fetch : Option ℕ → Feed → List ℕ → Result Unit Fault → Feed → List ℕ → Type 0
Fetch o f part r g part' = FetchedBy (nat_lt (length (option_to_list o ++ f.bytes)) (length part)) o f part r g part'
