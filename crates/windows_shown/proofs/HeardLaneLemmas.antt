-- What a service hears of its lane where nothing is heard of the frames before one: the lane without them, which is sound if the whole
-- is.
use Rattle.std.proofs.Common.{◌≡◌, ◌∙◌, ℕ, zero, suc, ◌+◌, ◌-◌, ◌≤◌, nat_lt, Bool, true, false, if◌then◌else◌, List, [], length, Some, None, refl, sym, ap, arith}
use Rattle.std.proofs.lemmas.Bool.Decides.{nat_tests}
use Rattle.dtvcc_author.specs.declared.frame_events.Delay.{Delay}
use Rattle.dtvcc_screen.specs.Meaning.{Served, served_after}
use Rattle.windows_shown.specs.ServiceLanes.{Lane, lane_frame_events, served, spent}
use Rattle.windows_shown.specs.Soundness.{ArePlain, HasOnlyLoads, IsSoundLane}
use Rattle.windows_shown.proofs.PlainLemmas.{nothing_plain}

-- the lane without what comes before a frame
abbrev pub heard_lane : ℕ → Lane → Lane
heard_lane since lane = record {
  rate = lane.rate;
  events = λ frame. if nat_lt frame since then [] else lane.events frame;
  delay = λ frame. if nat_lt frame since then None else lane.delay frame;
  loads = λ frame. if nat_lt frame since then [] else lane.loads frame;
}

-- from there on it has the frames as they are
pub same_events : (lane : Lane) (since frame : ℕ) → since ≤ frame → lane_frame_events (heard_lane since lane) frame ≡ lane_frame_events lane frame
same_events lane since frame low = let test : nat_lt frame since ≡ false = grind (arith, nat_tests) in rw test refl

-- all of a lane is heard from frame 0 on
pub whole_served : (lane : Lane) (n : ℕ) → served (heard_lane 0 lane) n ≡ served lane n
whole_served lane zero = refl
whole_served lane (suc n) =
    ap (served_after (served (heard_lane 0 lane) n)) (same_events lane 0 n (omega arith))
    ∙ ap (λ (s : Served). served_after s (lane_frame_events lane n)) (whole_served lane n)

plain_or_none : (b : Bool) (bytes : List ℕ) → ArePlain bytes → ArePlain (if b then [] else bytes)
plain_or_none true bytes plain = nothing_plain
plain_or_none false bytes plain = plain

module _ (since : ℕ) (lane : Lane) (sound : IsSoundLane lane) where
  abbrev heard : Lane
  heard = heard_lane since lane

  -- a delay that is heard starts after the frames of which nothing is
  starts_there : (start : ℕ) (delay : Delay) → heard.delay start ≡ Some delay → (since ≤ start) × (lane.delay start ≡ Some delay)
  starts_there start delay is = at (nat_lt start since) refl
    where
      at : (b : Bool) → nat_lt start since ≡ b → (since ≤ start) × (lane.delay start ≡ Some delay)
      at true test = let wrong : None ≡ Some delay = sym (rw test refl) ∙ is in cc
      at false test = (grind (arith, nat_tests), sym (rw test refl) ∙ is)

  same_loads : (frame : ℕ) → since ≤ frame → heard.loads frame ≡ lane.loads frame
  same_loads frame low = let test : nat_lt frame since ≡ false = grind (arith, nat_tests) in rw test refl

  same_spent : (start count : ℕ) → since ≤ start → spent heard start count ≡ spent lane start count
  same_spent start zero low = refl
  same_spent start (suc count) low =
      ap (λ n. n + length (heard.loads (start + count))) (same_spent start count low)
      ∙ ap (λ (bytes : List ℕ). spent lane start count + length bytes) (same_loads (start + count) (omega arith))

  only_loads : (frame : ℕ) → since ≤ frame → HasOnlyLoads lane frame → HasOnlyLoads heard frame
  only_loads frame low is =
      let test : nat_lt frame since ≡ false = grind (arith, nat_tests) in
      record { events = rw test is.events; delay = rw test is.delay }

  pub heard_sound : IsSoundLane heard
  heard_sound = record {
    events = λ frame. plain_or_none (nat_lt frame since) (lane.events frame) (sound.events frame);
    loads = λ frame. plain_or_none (nat_lt frame since) (lane.loads frame) (sound.loads frame);
    lasting = λ start delay is.
        let w = starts_there start delay is in
        let l = sound.lasting start delay w.1 in
        record { some = l.some; ends_is = l.ends_is; after = l.after };
    quiet = λ start frame delay is after before.
        let w = starts_there start delay is in
        let low = w.0 in
        only_loads frame (omega arith) (sound.quiet start frame delay w.1 after before);
    budget = λ start delay is.
        let w = starts_there start delay is in
        let most = sound.budget start delay w.1 in
        let same = same_spent start (delay.ends - start) w.0 in
        omega arith;
  }
