-- What an event or a refusal of a step says of the body before it.
use Rattle.std.proofs.Common.{◌≡◌, ℕ, Bool, true, false, cond, inl, List, [], ◌++◌, Some, None, Option, sym, refl, subst}
use Rattle.source.specs.Feed.{fronted}
use Rattle.read.specs.Reader.{View}
use Rattle.format.specs.declared.refusal.Refusal.{Refusal}
use Rattle.bunser.specs.Outcome.{Outcome, got, bad}
use Rattle.room.specs.Open.{Column, Open}
use Rattle.values.specs.Values as value
use Rattle.de.specs.declared.event.Event.{Event}
use Rattle.de.specs.Shown.{shown}
use Rattle.de.specs.Steps.{Body, Coming, Out, gives, stops, moved, behind, reading, finishing}
use Rattle.runs.specs.Law.{HandedOut, limits}
use Rattle.runs.proofs.Taking.{none_ahead, levels, Fit, Takes}
use Rattle.runs.proofs.Stepped.{Ready, Stepped, Stopped}
use Rattle.runs.proofs.Levels.{takes_within}
use Rattle.runs.proofs.Took.{Gotten, gotten_on}
use Rattle.runs.proofs.Reading.{Comes, Halted}

-- what an event or a refusal says of the body before it
abbrev pub Made : Bool → List ℕ → Option ℕ → Body → Out → Type 0
Made lends input space b (gives (Some e) c x) = Stepped lends input b e c x
Made lends input space b (gives None c x) = Unit {0}
Made lends input space b (stops f c x) = Stopped lends input space b f c

-- what comes, and then what is finished with this room
abbrev pub Goes : Bool → List ℕ → Option ℕ → Body → Coming → Type 0
Goes lends input space b m = Made lends input space b (finishing lends space m)

pub cond_made : (lends : Bool) (input : List ℕ) (space : Option ℕ) (b : Body) (q : Bool) (m n : Coming) → (q ≡ true → Goes lends input space b m) → (q ≡ false → Goes lends input space b n) →
    Goes lends input space b (cond q m n)
cond_made lends input space b true m n h k = h refl
cond_made lends input space b false m n h k = k refl

module _ (lends : Bool) (input : List ℕ) (b : Body) (ready : Ready lends input b) where
  -- an event has passed, of these bytes
  module _ (calm : b.unread ≡ None) (e : Event) (x : List ℕ) (t : value.Event) (w : View) (bs : List ℕ) (o : List (Open Column)) where
    pub passed : Gotten lends b.end b.reader w bs → Takes (limits lends) (levels input b.opens) bs t (levels input o) → Fit lends o → HandedOut lends e → ((buf : List ℕ) → shown input (fronted x buf) e ≡ t) →
        Stepped lends input b e (behind b w o) x
    passed g takes fit origin shows = record {
      bytes = bs;
      says = t;
      took = g.took;
      end = refl;
      inside = g.inside;
      calm = refl;
      events = refl;
      takes = λ front h. subst (λ l. Takes (limits lends) (levels input b.opens) (l ++ bs) t (levels input o)) (sym (none_ahead h calm)) takes;
      ready = record { solid = gotten_on g ready.solid; fit = fit; waits = tt; held = takes_within ready.held takes };
      origin = origin;
      shows = shows;
    }

  -- a refusal for good
  pub halted : {space : Option ℕ} → (b.opens ≡ [] → ⊥) → (f : Refusal) (w : View) → Halted b.end b.reader f w → Stopped lends input space b f (moved b w)
  halted more f w h = record { after = h.after; end = refl; opens = refl; events = refl; inside = h.inside; more = more; kind = inl h.latches }

pub reading_made : {A : Type 0} (gave : A → View → Type 0) (left : Refusal → View → Type 0) (lends : Bool) (input : List ℕ) (space : Option ℕ) (b c : Body) (m : Outcome Refusal A)
    (f : A → View → Coming) → Comes gave left m → ((r : Refusal) (w : View) → left r w → Stopped lends input space b r (moved c w)) → ((a : A) (w : View) → gave a w → Goes lends input space b (f a w)) →
    Goes lends input space b (reading m c f)
reading_made gave left lends input space b c (got a w) f h k l = l a w h
reading_made gave left lends input space b c (bad r w) f h k l = k r w h
