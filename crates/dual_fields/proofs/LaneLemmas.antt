-- A lane in a field: where its units stand, and that those that come again change nothing.
use Rattle.std.proofs.Common.{◌≡◌, ℕ, ◌+◌, ◌<◌, ◌≤◌, ◌==◌, Bool, true, false, cond, List, [], ◌∷◌, Option, Some, None, refl, sym, ap, ◌∙◌, subst, arith, ⊎_elim}
use Rattle.std.specs.Prelude.{⊤, if◌then◌else◌}
use Rattle.std.specs.Option.{option_or}
use Rattle.std.proofs.lemmas.Bool.{cases_lt}
use Rattle.std.proofs.lemmas.Bool.Decides.{nat_tests}
use Rattle.line21_codes.specs.Reading.{code_of}
use Rattle.line21_author.specs.declared.unit.Unit.{Unit}
use Rattle.line21_screen.specs.declared.modes.Mode.{Mode}
use Rattle.lanes.specs.LaneTimeline.{stands, lane_timeline}
use Rattle.lanes.specs.Timeline.{Timeline}
use Rattle.dual_fields.specs.Parts.{part_slots}
use Rattle.dual_fields.specs.ResumedLane.{IsResume, Stand}
use Rattle.dual_fields.specs.Slots.{Slots}
use Rattle.dual_fields.specs.declared.part.Part.{Part}
use Rattle.dual_fields.specs.Lanes.{AreCues, AreQuiet, Begins, Continues, IsBehind, IsLane, again, part_chunks}
use Rattle.dual_fields.specs.Resuming.{AreResumed, IsResumed, keeps_mode, opens}

-- a unit takes a slot, and two where it is doubled
pub some_size : (part : Part) → 1 ≤ part_slots part
some_size part = by_doubled part.chunk.unit.doubled
  where
    by_doubled : (b : Bool) → 1 ≤ (if b then 2 else 1)
    by_doubled true = omega arith
    by_doubled false = omega arith

pub few_size : (part : Part) → part_slots part ≤ 2
few_size part = by_doubled part.chunk.unit.doubled
  where
    by_doubled : (b : Bool) → (if b then 2 else 1) ≤ 2
    by_doubled true = omega arith
    by_doubled false = omega arith

pub two_size : (part : Part) → part.chunk.unit.doubled ≡ true → part_slots part ≡ 2
two_size part doubled = ap (λ b. cond b 2 1) doubled

-- what stands first stands at its slot
pub stands_at : (part : Part) (parts : List Part) (f : ℕ) (fs : List ℕ) (n : ℕ) (b : Bool) → (n == f) ≡ b
    → stands (part_chunks (part ∷ parts)) (f ∷ fs) n ≡ (if b then Some part.chunk.unit else stands (part_chunks parts) fs n)
stands_at part parts f fs n b test = rw test refl

pub again_at : (part : Part) (parts : List Part) (at : ℕ) (rs : List (Option ℕ)) (n : ℕ) (b : Bool) → (n == at) ≡ b
    → again (part ∷ parts) (Some at ∷ rs) n ≡ (if b then Some part.first else again parts rs n)
again_at part parts at rs n b test = rw test refl

-- no unit stands before the end of those before it
pub stands_none : (slots : Slots) (end : ℕ) (parts : List Part) (fs : List ℕ) (rs : List (Option ℕ)) (n : ℕ) → Stand slots end parts fs rs
    → n < end → stands (part_chunks parts) fs n ≡ None
stands_none slots end [] fs rs n stand low = refl
stands_none slots end (part ∷ parts) [] rs n stand low = refl
stands_none slots end (part ∷ parts) (f ∷ fs) [] n stand low = absurd stand
stands_none slots end (part ∷ parts) (f ∷ fs) (r ∷ rs) n stand low =
    let behind : end ≤ f = stand.0.behind in
    let test : (n == f) ≡ false = grind (arith, nat_tests) in
    stands_at part parts f fs n false test ∙ stands_none slots (f + part_slots part) parts fs rs n stand.2 (omega arith)

-- nor does one come again
pub again_none : (slots : Slots) (end : ℕ) (parts : List Part) (fs : List ℕ) (rs : List (Option ℕ)) (n : ℕ) → Stand slots end parts fs rs
    → n < end → again parts rs n ≡ None
again_none slots end [] fs rs n stand low = refl
again_none slots end (part ∷ parts) fs [] n stand low = refl
again_none slots end (part ∷ parts) [] (r ∷ rs) n stand low = absurd stand
again_none slots end (part ∷ parts) (f ∷ fs) (None ∷ rs) n stand low =
    again_none slots (f + part_slots part) parts fs rs n stand.2 (omega (arith, stand.0.behind))
again_none slots end (part ∷ parts) (f ∷ fs) (Some at ∷ rs) n stand low =
    let high : end < at = omega (arith, stand.1.1.last_is.behind, stand.1.1.at_is.behind) in
    let test : (n == at) ≡ false = grind (arith, nat_tests) in
    again_at part parts at rs n false test ∙ again_none slots (f + part_slots part) parts fs rs n stand.2 (omega (arith, stand.0.behind))

-- nothing of a lane's own events begins in a slot that is free, nor in the one after an event
pub free_none : (slots : Slots) (events : Timeline) → ((n : ℕ) (unit : Unit) → events n ≡ Some unit → (slots.free n ≡ false) × (slots.free (n + 1) ≡ false))
    → (n : ℕ) → slots.free n ≡ true → events n ≡ None
free_none slots events held n free = by_event (events n) refl
  where
    by_event : (u : Option Unit) → events n ≡ u → events n ≡ None
    by_event None is = is
    by_event (Some unit) is = let wrong : slots.free n ≡ false = (held n unit is).0 in absurd (cc)

-- a cue is under way: its first unit stands at a slot before `end`, and from there on nothing changes the mode
pub record IsUnderWay (t : Timeline) (end : ℕ) (former : Part) : Type 0 where
  pub at : ℕ
  pub before : at < end
  pub begins : t at ≡ Some former.first
  pub mode : Mode
  pub opens_it : opens (code_of former.first.pair) ≡ Some mode
  pub kept : (n : ℕ) (other : Unit) → at < n → n < end → t n ≡ Some other → keeps_mode (code_of other.pair) ≡ true
  pub loaded : former.chunk.load ≤ at

abbrev pub UnderWay : Timeline → ℕ → Option Part → Type 0
UnderWay t end None = ⊤
UnderWay t end (Some former) = IsUnderWay t end former

module _ (slots : Slots) (events t : Timeline)
    (held : (n : ℕ) (unit : Unit) → events n ≡ Some unit → (slots.free n ≡ false) × (slots.free (n + 1) ≡ false)) where
  -- one unit, after the units before it
  module _ (end : ℕ) (part : Part) (parts : List Part) (f : ℕ) (fs : List ℕ) (r : Option ℕ) (rs : List (Option ℕ))
      (stand : Stand slots end (part ∷ parts) (f ∷ fs) (r ∷ rs))
      (same : (n : ℕ) → end ≤ n → t n ≡ option_or (events n) (stands (part_chunks (part ∷ parts)) (f ∷ fs) n)) where
    -- in front of it the events are alone
    pub in_front : (n : ℕ) → end ≤ n → n < f → t n ≡ events n
    in_front n high low =
        let test : (n == f) ≡ false = grind (arith, nat_tests) in
        let none : stands (part_chunks (part ∷ parts)) (f ∷ fs) n ≡ None =
        stands_at part parts f fs n false test ∙ stands_none slots (f + part_slots part) parts fs rs n stand.2 (omega arith) in
        same n high ∙ ap (option_or (events n)) none ∙ or_nothing (events n)
      where
        or_nothing : (u : Option Unit) → option_or u None ≡ u
        or_nothing None = refl
        or_nothing (Some unit) = refl

    -- at its slot it begins
    pub at_slot : t f ≡ Some part.chunk.unit
    at_slot =
        let none : events f ≡ None = free_none slots events held f (stand.0.free f (omega arith) (omega (arith, some_size part))) in
        let test : (f == f) ≡ true = grind (arith, nat_tests) in
        same f stand.0.behind ∙ ap (λ u. option_or u (stands (part_chunks (part ∷ parts)) (f ∷ fs) f)) none ∙ stands_at part parts f fs f true test

    -- and in its second slot nothing does
    pub in_second : (n : ℕ) → f < n → n < f + part_slots part → t n ≡ None
    in_second n high low =
        let none : events n ≡ None = free_none slots events held n (stand.0.free n (omega arith) low) in
        let test : (n == f) ≡ false = grind (arith, nat_tests) in
        same n (omega (arith, stand.0.behind)) ∙ ap (λ u. option_or u (stands (part_chunks (part ∷ parts)) (f ∷ fs) n)) none
        ∙ stands_at part parts f fs n false test ∙ stands_none slots (f + part_slots part) parts fs rs n stand.2 low

    -- after it the rest goes on
    pub same_behind : (n : ℕ) → f + part_slots part ≤ n → t n ≡ option_or (events n) (stands (part_chunks parts) fs n)
    same_behind n high =
        let test : (n == f) ≡ false = let s = some_size part in grind (arith, nat_tests) in
        same n (omega (arith, stand.0.behind)) ∙ ap (option_or (events n)) (stands_at part parts f fs n false test)

    -- a cue's first unit puts it under way
    pub begun : Begins part → IsUnderWay t (f + part_slots part) part
    begun begins = record {
      at = f;
      before = omega (arith, some_size part);
      begins = at_slot ∙ ap Some (sym begins.first);
      mode = begins.mode;
      opens_it = begins.opens_it;
      kept = λ n other high low is. let none : t n ≡ None = in_second n high low in let wrong : Some other ≡ None = sym is ∙ none in absurd (cc);
      loaded = stand.0.loaded;
    }

    module _ (former : Part) (under : IsUnderWay t end former) (continues : Continues former part)
        (quiet : (n : ℕ) (unit : Unit) → part.chunk.load < n → n < part.chunk.until → events n ≡ Some unit → keeps_mode (code_of unit.pair) ≡ true) where
      pub kept_to : (n : ℕ) (other : Unit) → under.at < n → n < f → t n ≡ Some other → keeps_mode (code_of other.pair) ≡ true
      kept_to n other high low is =
          ⊎_elim
          (λ (before : n < end). under.kept n other high before is)
          (λ (behind : end ≤ n).
          quiet n other (omega (arith, continues.load, under.loaded)) (omega (arith, stand.0.ended)) (sym (in_front n behind low) ∙ is))
          (cases_lt n end)

      -- a later one leaves it under way
      pub goes_on : IsUnderWay t (f + part_slots part) part
      goes_on = record {
        at = under.at;
        before = omega (arith, under.before, stand.0.behind);
        begins = under.begins ∙ ap Some (sym continues.first);
        mode = under.mode;
        opens_it = ap (λ (u : Unit). opens (code_of u.pair)) continues.first ∙ under.opens_it;
        kept = λ n other high low is.
            ⊎_elim
            (λ (before : n < f). kept_to n other high before is)
            (λ (behind : f ≤ n).
            ⊎_elim
            (λ (second : f < n). let none : t n ≡ None = in_second n second low in let wrong : Some other ≡ None = sym is ∙ none in absurd (cc))
            (λ (first : n ≤ f).
            let here : n ≡ f = omega arith in
            let it : Some part.chunk.unit ≡ Some other = sym at_slot ∙ ap t (sym here) ∙ is in
            let unit : part.chunk.unit ≡ other = cc in
            ap (λ (u : Unit). keeps_mode (code_of u.pair)) (sym unit) ∙ continues.keeps_it)
            (cases_lt f n))
            (cases_lt n f);
        loaded = omega (arith, continues.load, under.loaded);
      }

      -- before it the cue's first unit comes again while the cue is under way
      pub comes_again : (at : ℕ) → IsResume slots end f at → IsResumed t at part.first
      comes_again at is = record {
        at = under.at;
        before = omega (arith, under.before, is.last_is.behind, is.at_is.behind);
        begins = under.begins ∙ ap Some (sym continues.first);
        mode = under.mode;
        opens_it = ap (λ (u : Unit). opens (code_of u.pair)) continues.first ∙ under.opens_it;
        kept = λ n other high low. kept_to n other high (omega (arith, is.at_is.before));
        nothing = in_front at (omega (arith, is.last_is.behind, is.at_is.behind)) (omega (arith, is.at_is.before)) ∙ free_none slots events held at is.at_is.first;
      }

  -- a unit after the units before it puts its cue under way, or leaves it so
  under_next : (end : ℕ) (part : Part) (parts : List Part) (f : ℕ) (fs : List ℕ) (r : Option ℕ) (rs : List (Option ℕ))
      (stand : Stand slots end (part ∷ parts) (f ∷ fs) (r ∷ rs))
      (same : (n : ℕ) → end ≤ n → t n ≡ option_or (events n) (stands (part_chunks (part ∷ parts)) (f ∷ fs) n))
      (former : Option Part) (later : Bool) → IsBehind later former part → UnderWay t end former
      → ((n : ℕ) (unit : Unit) → part.chunk.load < n → n < part.chunk.until → events n ≡ Some unit → keeps_mode (code_of unit.pair) ≡ true)
      → IsUnderWay t (f + part_slots part) part
  under_next end part parts f fs r rs stand same former false behind under quiet = begun end part parts f fs r rs stand same behind
  under_next end part parts f fs r rs stand same None true behind under quiet = absurd behind
  under_next end part parts f fs r rs stand same (Some former) true behind under quiet = goes_on end part parts f fs r rs stand same former under behind quiet

  resumed_at : (end : ℕ) (part : Part) (parts : List Part) (f : ℕ) (fs : List ℕ) (r : Option ℕ) (rs : List (Option ℕ))
      (stand : Stand slots end (part ∷ parts) (f ∷ fs) (r ∷ rs))
      (same : (n : ℕ) → end ≤ n → t n ≡ option_or (events n) (stands (part_chunks (part ∷ parts)) (f ∷ fs) n))
      (former : Option Part) (later : Bool) → later ≡ true → IsBehind later former part → UnderWay t end former
      → ((n : ℕ) (unit : Unit) → part.chunk.load < n → n < part.chunk.until → events n ≡ Some unit → keeps_mode (code_of unit.pair) ≡ true)
      → (at : ℕ) → IsResume slots end f at → IsResumed t at part.first
  resumed_at end part parts f fs r rs stand same former false is behind under quiet at resume = cc
  resumed_at end part parts f fs r rs stand same None true is behind under quiet at resume = absurd behind
  resumed_at end part parts f fs r rs stand same (Some former) true is behind under quiet at resume =
      comes_again end part parts f fs r rs stand same former under behind quiet at resume

  -- all that come again do so while their cue is under way
  resumed_all : (end : ℕ) (former : Option Part) (parts : List Part) (fs : List ℕ) (rs : List (Option ℕ)) → Stand slots end parts fs rs
      → ((n : ℕ) → end ≤ n → t n ≡ option_or (events n) (stands (part_chunks parts) fs n)) → AreCues former parts → AreQuiet events parts → UnderWay t end former
      → (at : ℕ) (unit : Unit) → again parts rs at ≡ Some unit → IsResumed t at unit
  resumed_all end former [] fs rs stand same cues quiet under at unit is = cc
  resumed_all end former (part ∷ parts) fs [] stand same cues quiet under at unit is = cc
  resumed_all end former (part ∷ parts) [] (r ∷ rs) stand same cues quiet under at unit is = absurd stand
  resumed_all end former (part ∷ parts) (f ∷ fs) (None ∷ rs) stand same cues quiet under at unit is =
      resumed_all (f + part_slots part) (Some part) parts fs rs stand.2 (same_behind end part parts f fs None rs stand same) cues.1 quiet.1
      (under_next end part parts f fs None rs stand same former part.later cues.0 under quiet.0) at unit is
  resumed_all end former (part ∷ parts) (f ∷ fs) (Some q ∷ rs) stand same cues quiet under at unit is =
      by_slot (at == q) refl
      (λ rest. resumed_all (f + part_slots part) (Some part) parts fs rs stand.2 (same_behind end part parts f fs (Some q) rs stand same) cues.1 quiet.1
      (under_next end part parts f fs (Some q) rs stand same former part.later cues.0 under quiet.0) at unit rest)
    where
      by_slot : (b : Bool) → (at == q) ≡ b → (again parts rs at ≡ Some unit → IsResumed t at unit) → IsResumed t at unit
      by_slot true test rest =
          let here : q ≡ at = grind (arith, nat_tests) in
          let it : Some part.first ≡ Some unit = sym (again_at part parts q rs at true test) ∙ is in
          let first : part.first ≡ unit = cc in
          subst (λ (u : Unit). IsResumed t at u) first (subst (λ m. IsResumed t m part.first) here
          (resumed_at end part parts f fs (Some q) rs stand same former part.later stand.1.0 cues.0 under quiet.0 q stand.1.1))
      by_slot false test rest = rest (sym (again_at part parts q rs at false test) ∙ is)

-- the first units of a lane that come again change nothing
pub lane_resumed : (slots : Slots) (events : Timeline) (parts : List Part) (fs : List ℕ) (rs : List (Option ℕ)) → IsLane slots events parts fs rs
    → AreResumed (lane_timeline events (part_chunks parts) fs) (again parts rs)
lane_resumed slots events parts fs rs is =
    resumed_all slots events (lane_timeline events (part_chunks parts) fs) is.held 0 None parts fs rs is.stand (λ n from. refl) is.cues is.quiet tt
