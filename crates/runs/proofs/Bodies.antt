-- A body of an open PDU: what holds of it between two events, and what a step makes of that.
use Rattle.std.proofs.Common.{◌≡◌, ℕ, suc, ◌+◌, ◌-◌, ◌≤◌, Bool, true, false, List, [], ◌∷◌, ◌++◌, length, take, drop, Some, None, Option, refl, sym, ap, ◌∙◌, subst, append_assoc, append-nil, length-append, arith}
use Rattle.std.proofs.lemmas.Bool.{le-ltb, ltb-false}
use Rattle.std.proofs.lemmas.List.{take-append-drop}
use Rattle.std.proofs.Math.Seq.{take-append-add, take-append_seam, drop-append_seam}
use Rattle.read.specs.Reader.{View, past}
use Rattle.format.specs.Numbers.{latching}
use Rattle.format.specs.declared.refusal.Refusal.{Refusal}
use Rattle.format.specs.declared.refusal.Cause.{Cause}
use Rattle.format.specs.declared.refusal.Cause.TheVariants as cause
use Rattle.format.specs.declared.refusal.ReadError.{ReadError}
use Rattle.format.specs.declared.refusal.ReadError.TheVariants as error
use Rattle.values.specs.Values.{Value, encoding, events}
use Rattle.values.specs.Values as value
use Rattle.values.specs.Limits.{none}
use Rattle.bunser.specs.declared.text.TextKind.{TextKind}
use Rattle.bunser.specs.declared.text.TextKind.TheVariants as text
use Rattle.bunser.specs.declared.text.Unread.{Unread}
use Rattle.bunser.specs.Outcome.{ReadLeaves, CauseLeaves}
use Rattle.room.specs.Open.{Column, Open}
use Rattle.de.specs.declared.event.Event.{Event}
use Rattle.de.specs.Steps.{Body, stops, counted, step, Apart}
use Rattle.runs.specs.Law.{all_bytes, Begins, from, limits, Declared, Whole, Ended}
use Rattle.runs.proofs.Taking.{Level, levels, Takes, Front, none_taken, TextWanted, Waits}
use Rattle.runs.proofs.Coming.{Completes, at_end, goes, all_come}
use Rattle.runs.proofs.Reached.{Reached, reached_more, whole_body}
use Rattle.runs.proofs.Stepped.{Took, Ready, Stepped, Waiting, Stopped, Can, can_give, must_wait}
use Rattle.runs.proofs.Took.{took_none, took_more}
use Rattle.runs.proofs.Standing.{past_less}
use Rattle.runs.proofs.Giving.{step_can}

-- ---- a reader, from which bytes have been taken since the first call

pub record Drawn (lends : Bool) (v w : View) : Type 0 where
  pub bytes : List ℕ
  pub took : Took lends v w bytes

pub drawn_none : (lends : Bool) (v : View) → Drawn lends v v
drawn_none lends v = record { bytes = []; took = took_none lends v }

pub drawn_more : {lends : Bool} {v w u : View} {bs : List ℕ} → Drawn lends v w → Took lends w u bs → Drawn lends v u
drawn_more d t = record { bytes = _; took = took_more d.took t }

-- from its count on, the bytes are those to come
pub from_count : {lends : Bool} {v w : View} → Drawn lends v w → from v w.count ≡ w.coming
from_count {lends} {v} {w} d =
    let long : w.count - v.count ≡ length d.bytes = (let n = d.took.count in omega arith) in
    rw (long, d.took.coming) (drop-append_seam d.bytes w.coming)

-- ---- counts before an end

pub before : {n end : ℕ} → n ≤ end → past (Some end) n ≡ false
before {n} {end} h = le-ltb end n h

not_past : {n end : ℕ} → past (Some end) n ≡ false → n ≤ end
not_past {n} {end} h = ltb-false end n h

-- ---- what holds of a body

-- these events have passed, and these bytes were taken up to the last of them
pub record Passing (lends : Bool) (v : View) (start size : ℕ) (taken : List ℕ) (es : List value.Event) (b : Body) : Type 0 where
  pub reached : Reached lends taken es (levels (all_bytes v) b.opens)
  pub counts : b.events ≡ length es
  pub begins : Begins taken (from v start)
  pub fits : length taken ≤ size

-- nothing was refused for good: then bytes of an awaited text were taken, and the others come
pub record Live (lends : Bool) (v : View) (start size : ℕ) (taken : List ℕ) (es : List value.Event) (b : Body) : Type 0 where
  pub reached : Reached lends taken es (levels (all_bytes v) b.opens)
  pub counts : b.events ≡ length es
  pub drawn : Drawn lends v b.reader
  pub ready : Ready lends (all_bytes v) b
  pub end : b.end ≡ Some (start + size)
  pub front : List ℕ
  pub fronts : Front b.unread front
  pub split : from v start ≡ taken ++ (front ++ b.reader.coming)
  pub count : b.reader.count ≡ start + (length taken + length front)
  pub inside : b.reader.count ≤ start + size

-- a step was refused for good
pub record Stuck (lends : Bool) (v : View) (start size : ℕ) (taken : List ℕ) (es : List value.Event) (f : Refusal) (b : Body) : Type 0 where
  pub passing : Passing lends v start size taken es b
  pub after : start + length taken ≤ f.place
  pub inside : b.reader.count ≤ start + size
  pub more : b.opens ≡ [] → ⊥
  pub none_whole : (w : Value) → Whole lends v start size w → ⊥

-- an event has passed: the bytes taken are now those up to it
pub record Advanced (lends : Bool) (v : View) (start size : ℕ) (taken : List ℕ) (es : List value.Event) (b : Body) : Type 0 where
  pub taken_now : List ℕ
  pub live : Live lends v start size taken_now es b
  pub here : b.reader.count ≡ start + length taken_now
  pub grows : length taken ≤ length taken_now

-- what an outer list of bytes is, cut behind what was taken
cut_behind : (taken l : List ℕ) (n : ℕ) → length taken ≤ n → (r q : List ℕ) × (take n (taken ++ l) ≡ taken ++ r) × (l ≡ r ++ q)
cut_behind taken l n h =
    let m : length taken + (n - length taken) ≡ n = omega arith in
    (take (n - length taken) l, drop (n - length taken) l, subst (λ k. take k (taken ++ l) ≡ taken ++ take (n - length taken) l) m (take-append-add taken l (n - length taken)), sym (take-append-drop (n - length taken) l))

pub no_levels : (input : List ℕ) (o : List (Open Column)) → levels input o ≡ [] → o ≡ []
no_levels input [] e = refl
no_levels input (x ∷ o) e = absurd (cc)

-- where nothing is open, no text is awaited
pub none_awaited : (input : List ℕ) (u : Option Unread) (o : List (Open Column)) → Waits u (levels input o) → o ≡ [] → u ≡ None
none_awaited input None o w e = refl
none_awaited input (Some u) [] w e = absurd (none_wanted u.kind w)
  where
    none_wanted : (k : TextKind) → TextWanted k [] → ⊥
    none_wanted text.Bytes w = w
    none_wanted text.Text w = w
    none_wanted text.Key w = w
none_awaited input (Some u) (x ∷ o) w e = absurd (cc)

-- what comes next in a whole body: its end, or an event that a step can give
pub data Outlook (lends : Bool) (space : Option ℕ) (b : Body) (es : List value.Event) (w : Value) : Type 0 where
  at_the_end : b.opens ≡ [] → es ≡ events w → Outlook lends space b es w
  more_comes : (t : value.Event) (x : List value.Event) → Can lends space b t → events w ≡ es ++ (t ∷ x) → Outlook lends space b es w

-- the count of a reader after a refusal
read_count : (e : ReadError) (v w : View) → ReadLeaves e v w → w.count ≡ v.count
read_count error.Short v w h = h.count
read_count (error.Source code) v w h = h.count
read_count _ v w h = ap (λ x. x.count) h

pub count_left : (c : Cause) (v w : View) → CauseLeaves c v w → w.count ≡ v.count
count_left (cause.Read e) v w h = read_count e v w h
count_left _ v w h = ap (λ x. x.count) h

-- where there is no room, the body is as it was left
pub same_body : {f : Refusal} {b c : Body} → f.cause ≡ cause.Read error.Room → Apart f b c → c ≡ b
same_body {f} {b} {c} r a =
    let reader : c.reader ≡ b.reader = subst (λ k. CauseLeaves k b.reader c.reader) r a.reader in
    λ i. record { reader = reader i; end = a.end i; opens = a.opens i; unread = a.unread i; events = a.events i }

-- what has passed hangs on what is open and on the number of events
pub passing_still : {lends : Bool} {v : View} {start size : ℕ} {taken : List ℕ} {es : List value.Event} {b c : Body} → Passing lends v start size taken es b → c.opens ≡ b.opens →
    c.events ≡ b.events → Passing lends v start size taken es c
passing_still p o e = record { reached = rw o p.reached; counts = e ∙ p.counts; begins = p.begins; fits = p.fits }

-- the bytes up to the last event that has passed
pub bytes_taken : {lends : Bool} {v : View} {start size : ℕ} {taken : List ℕ} {es : List value.Event} {b : Body} → Passing lends v start size taken es b →
    take (start + length taken - start) (from v start) ≡ taken
bytes_taken {start = start} {taken = taken} p =
    let long : start + length taken - start ≡ length taken = omega arith in
    rw (long, p.begins.1) (take-append_seam taken p.begins.0)

pub none_more : (es x : List value.Event) → es ≡ es ++ x → x ≡ []
none_more es [] e = refl
none_more es (t ∷ x) e = absurd (omega (arith, simp length-append at (ap length e)))

-- a value has ended exactly where nothing is open
pub has_ended : {lends : Bool} {v : View} {start size : ℕ} {taken : List ℕ} {es : List value.Event} {b : Body} → Passing lends v start size taken es b → b.opens ≡ [] →
    (w : Value) × Ended v start es (start + length taken) w
has_ended {lends} {v} {taken = taken} {es = es} p closed =
    let (w, formed, body, told) = whole_body (subst (λ o. Reached lends taken es (levels (all_bytes v) o)) closed p.reached) in
    (w, record { formed = formed; bytes = body ∙ sym (bytes_taken p); told = told })

pub nothing_open : {lends : Bool} {v : View} {start size : ℕ} {taken : List ℕ} {es : List value.Event} {b : Body} → Passing lends v start size taken es b → (w : Value) →
    Ended v start es (start + length taken) w → b.opens ≡ []
nothing_open {lends} {v} {taken = taken} {es = es} {b = b} p w ended =
    let (x, told, completes) = p.reached.every w ended.formed [] (ended.bytes ∙ bytes_taken p ∙ sym (append-nil taken)) in
    no_levels (all_bytes v) b.opens (all_come completes (none_more es x (sym ended.told ∙ told))).0

-- what is still to come of a whole body
pub still_to_come : {lends : Bool} {v : View} {start size : ℕ} {taken : List ℕ} {es : List value.Event} {b : Body} → Passing lends v start size taken es b → (w : Value) → Declared v start size w →
    (r : List ℕ) × (x : List value.Event) × (encoding w ≡ taken ++ r) × (events w ≡ es ++ x) × Completes none (levels (all_bytes v) b.opens) r x
still_to_come {size = size} {taken = taken} p w declared =
    let (l, begins) = p.begins in
    let (r, q, cut, rest) = cut_behind taken l size p.fits in
    let body : encoding w ≡ taken ++ r = sym declared.there ∙ ap (take size) begins ∙ cut in
    let (x, told, completes) = p.reached.every w declared.formed r body in
    (r, x, body, told, completes)

module _ {lends : Bool} {v : View} {start size : ℕ} where
  pub passing_of : {taken : List ℕ} {es : List value.Event} {b : Body} → Live lends v start size taken es b → Passing lends v start size taken es b
  passing_of l =
      let inside = l.inside in
      let count = l.count in
      record { reached = l.reached; counts = l.counts; begins = (_, l.split); fits = omega arith }

  pub before_end : {taken : List ℕ} {es : List value.Event} {b : Body} → Live lends v start size taken es b → past b.end b.reader.count ≡ false
  before_end {b = b} l = rw l.end (before l.inside)

  pub after_end : {taken : List ℕ} {es : List value.Event} {b : Body} (n : ℕ) → Live lends v start size taken es b → past b.end n ≡ false → n ≤ start + size
  after_end n l h = not_past (rw l.end at h)

  -- few enough events for the number that counts them
  pub counts_one : {taken : List ℕ} {es : List value.Event} {b : Body} (n : ℕ) → start + size ≤ 1152921504606846976 → Live lends v start size taken es b → n ≤ length es → counted n ≡ suc n
  counts_one {taken} {es} n small l h =
      let paid = l.reached.paid in
      let count = l.count in
      let inside = l.inside in
      omega arith

  pub advance : {taken : List ℕ} {es : List value.Event} {b c : Body} {e : Event} {x : List ℕ} → start + size ≤ 1152921504606846976 → (l : Live lends v start size taken es b) →
      (s : Stepped lends (all_bytes v) b e c x) → Advanced lends v start size taken (es ++ (s.says ∷ [])) c
  advance {taken} {es} {b} {c} small l s =
      let now : List ℕ = taken ++ (l.front ++ s.bytes) in
      let long : length now ≡ length taken + (length l.front + length s.bytes) = simp length-append in
      let there = l.count in
      let took = s.took.count in
      let count : c.reader.count ≡ start + length now = omega arith in
      record {
        taken_now = now;
        live = record {
          reached = reached_more l.reached (s.takes l.front l.fronts);
          counts = s.events ∙ ap counted l.counts ∙ counts_one (length es) small l (omega arith) ∙ simp length-append (omega arith);
          drawn = drawn_more l.drawn s.took;
          ready = s.ready;
          end = s.end ∙ l.end;
          front = [];
          fronts = rw s.calm none_taken;
          split = l.split ∙ ap (λ z. taken ++ (l.front ++ z)) s.took.coming ∙ simp append_assoc;
          count = omega arith;
          inside = after_end c.reader.count l (s.inside (before_end l));
        };
        here = count;
        grows = omega arith;
      }

  pub stopped_inside : {space : Option ℕ} {taken : List ℕ} {es : List value.Event} {b c : Body} {f : Refusal} → Live lends v start size taken es b →
      Stopped lends (all_bytes v) space b f c → c.reader.count ≤ start + size
  stopped_inside {c = c} l s = after_end c.reader.count l (s.inside (before_end l))

  -- a text is awaited
  pub wait : {space : Option ℕ} {taken : List ℕ} {es : List value.Event} {b c : Body} {f : Refusal} → Live lends v start size taken es b →
      Stopped lends (all_bytes v) space b f c → Waiting lends (all_bytes v) b c →
      Live lends v start size taken es c
  wait {taken} {es} {b} {c} l s t =
      let there = l.count in
      let took = t.took.count in
      record {
        reached = rw s.opens l.reached;
        counts = s.events ∙ l.counts;
        drawn = drawn_more l.drawn t.took;
        ready = t.ready;
        end = s.end ∙ l.end;
        front = l.front ++ t.bytes;
        fronts = t.front l.front l.fronts;
        split = l.split ∙ ap (λ z. taken ++ (l.front ++ z)) t.took.coming ∙ simp append_assoc;
        count = simp length-append (omega arith);
        inside = stopped_inside l s;
      }

  -- ---- over a whole body

  pub outlook : {taken : List ℕ} {es : List value.Event} {b : Body} (space : Option ℕ) → Live lends v start size taken es b → (w : Value) → Whole lends v start size w → Outlook lends space b es w
  outlook {taken} {es} {b} space l w whole =
      let count = l.count in
      let inside = l.inside in
      let (r, q, cut, rest) = cut_behind taken (l.front ++ b.reader.coming) size (omega arith) in
      let body : encoding w ≡ taken ++ r = sym whole.declared.there ∙ ap (take size) l.split ∙ cut in
      let (x, told, completes) = l.reached.whole w whole.declared.formed whole.within r body in
      go (levels (all_bytes v) b.opens) refl completes q rest told (sym whole.declared.long ∙ ap length body ∙ length-append taken r)
    where
      go : (s : List Level) → levels (all_bytes v) b.opens ≡ s → {r : List ℕ} {x : List value.Event} → Completes (limits lends) s r x → (q : List ℕ) → l.front ++ b.reader.coming ≡ r ++ q →
          events w ≡ es ++ x → size ≡ length taken + length r →
          Outlook lends space b es w
      go s here at_end q rest told long = at_the_end (no_levels (all_bytes v) b.opens here) (sym (told ∙ append-nil es))
      go s here (goes {t = after} {c = c} {b = r} {e = t} {x = x} k more) q rest told long =
          let count = l.count in
          let inside = l.inside in
          let parts = length-append c r in
          let close : b.reader.count + (length c - length l.front) ≤ start + size = omega arith in
          more_comes t x
          (step_can space b (r ++ q) l.ready l.fronts (subst (λ s. Takes (limits lends) s c t after) (sym here) k) (rest ∙ append_assoc c r q)
          (record { before_end = rw l.end (before close); before_stop = rw l.drawn.took.stop (past_less v.stop _ (start + size) close whole.clear) })) told

  -- no step refuses for good
  never_stuck : {taken : List ℕ} {es : List value.Event} {b c : Body} {f : Refusal} {x : List ℕ} (space : Option ℕ) → Live lends v start size taken es b → (b.opens ≡ [] → ⊥) →
      step lends space b ≡ stops f c x →
      latching f.cause ≡ true → (w : Value) → Whole lends v start size w → ⊥
  never_stuck {es = es} {b = b} {c = c} {f = f} {x = x} space l more stop latches w whole = go (outlook space l w whole)
    where
      go : Outlook lends space b es w → ⊥
      go (at_the_end e told) = more e
      go (more_comes t y (can_give ev d z gave loose) told) = absurd (cc)
      go (more_comes t y (must_wait g d z waits room tight) told) =
          let both : stops f c x ≡ stops g d z = sym stop ∙ waits in
          let same : f ≡ g = cc in
          let no : false ≡ true = sym (ap latching (ap (λ h. h.cause) same ∙ room)) ∙ latches in
          absurd (cc)

  -- a step was refused for good
  pub stuck : {taken : List ℕ} {es : List value.Event} {b c : Body} {f : Refusal} {x : List ℕ} (space : Option ℕ) → Live lends v start size taken es b →
      Stopped lends (all_bytes v) space b f c →
      step lends space b ≡ stops f c x → latching f.cause ≡ true →
      (d : Body) → d.opens ≡ c.opens → d.events ≡ c.events → d.reader.count ≤ start + size → Stuck lends v start size taken es f d
  stuck space l s stop latches d opens events inside =
      let count = l.count in
      let after = s.after in
      record {
        passing = passing_still (passing_of l) (opens ∙ s.opens) (events ∙ s.events);
        after = omega arith;
        inside = inside;
        more = λ e. s.more (sym (opens ∙ s.opens) ∙ e);
        none_whole = never_stuck space l s.more stop latches;
      }
