-- The worked example is in form, keeps the rules and is placed.
use Rattle.std.proofs.Common.{◌≡◌, ℕ, suc, ◌+◌, ◌<◌, ◌≤◌, ◌&&◌, Bool, true, false, List, [], ◌∷◌, ◌++◌, refl, arith}
use Rattle.std.specs.Prelude.{IsSome, nat_le, nat_lt, if◌then◌else◌, sum_by}
use Rattle.std.specs.List.{list_all}
use Rattle.std.proofs.lemmas.Bool.{and_parts}
use Rattle.std.proofs.lemmas.Bool.Decides.{nat_tests}
use Rattle.std.proofs.lemmas.List.Elements.{All-cons, All-from_recursion, All-nil}
use Rattle.std.proofs.lemmas.List.Sums.{sum_by-cons}
use Rattle.cue_types.specs.Cues.{IsCueFormed}
use Rattle.cue_types.specs.Listing.{IsFormed}
use Rattle.cue_types.specs.Shares.{IsShare}
use Rattle.cue_types.specs.Windows.{IsWindowRun}
use Rattle.frame_scheduler.specs.Rules.{IsRuled}
use Rattle.frame_scheduler.specs.Rules.Tests.{verdicts}
use Rattle.frame_scheduler.specs.Rules.Examples.{window}
use Rattle.frame_scheduler.proofs.RulesSaid.{faultless_ruled}
use Rattle.dtvcc_codes.specs.CharacterSpellings.{dtvcc_spelling}
use Rattle.dtvcc_codes.specs.Writing.{bytes_of_command}
use Rattle.dtvcc_author.specs.FrameEvents.{delay_end}
use Rattle.dtvcc_author.specs.declared.caption.Caption.{Caption}
use Rattle.frame_scheduler.specs.Planned.{captions_in, chunks_in, share_in}
use Rattle.frame_scheduler.specs.Placing.{IsPlaced}
use Rattle.frame_scheduler.specs.Chunks.{ServiceChunk}
use Rattle.frame_scheduler.specs.ServiceLane.{AreUpTo, IsAllowedInService, bytes_between, chunk_size, is_between, most_in_delay, used}
use Rattle.frame_scheduler.specs.ServiceRoom.{caption_lane, frame_room}
use Rattle.windows_shown.specs.AuthoredShown.{IsServicePlaced}
use Rattle.windows_shown.specs.Examples.{delayed_frames, delayed_list}

-- a window of the example in its ranges
cue_formed : (id load show hide tenths : ℕ) → id ≤ 7 → load < 100 → show < 100 → hide < 100 → tenths ≤ 255 → IsCueFormed (window id load show hide tenths)
unfolding dtvcc_spelling
cue_formed id load show hide tenths a b c d e = record {
  load = omega arith;
  show = omega arith;
  hide = omega arith;
  some = omega arith;
  kind = (
    record {
      service = (omega arith, omega arith);
      id = a;
      delay = e;
      anchor = omega arith;
      av = omega arith;
      ah = omega arith;
      rows = (omega arith, omega arith);
      cols = (omega arith, omega arith);
      priority = omega arith;
      ws = (omega arith, omega arith);
      ps = (omega arith, omega arith);
      attr = tt;
    },
    refl,
    All-cons (IsWindowRun _) _ [] (record {
      row = omega arith;
      col = omega arith;
      pen = tt;
      some = omega arith;
      fits = omega arith;
      coded = All-cons (λ ch. IsSome (dtvcc_spelling ch)) 65 [] refl (All-nil (λ ch. IsSome (dtvcc_spelling ch)));
      colors = tt;
    }) (All-nil (IsWindowRun _)),
  );
}

pub list_formed : IsFormed delayed_list
list_formed = record {
  rate = tt;
  some = omega arith;
  frames = omega arith;
  shares = record {
    each = All-cons IsShare _ [] (record { service = (omega arith, omega arith); bytes = (omega arith, omega arith) }) (All-nil IsShare);
    once = λ i j d before within. absurd (omega arith);
    fits = omega arith;
  };
  few = omega arith;
  cues = All-from_recursion IsCueFormed delayed_list.cues (
    cue_formed 0 0 4 12 0 (omega arith) (omega arith) (omega arith) (omega arith) (omega arith),
    (
      cue_formed 1 1 10 20 1 (omega arith) (omega arith) (omega arith) (omega arith) (omega arith),
      (
        cue_formed 2 8 15 20 0 (omega arith) (omega arith) (omega arith) (omega arith) (omega arith),
        (cue_formed 0 12 16 22 0 (omega arith) (omega arith) (omega arith) (omega arith) (omega arith), tt),
      ),
    ),
  );
}

pub list_ruled : IsRuled delayed_list
unfolding verdicts
list_ruled = faultless_ruled delayed_list (refl, (refl, (refl, (refl, tt))))

-- the bytes of placed units, in whatever frames
abbrev all_bytes : List (ServiceChunk × ℕ) → ℕ
all_bytes placed = sum_by (λ (each : ServiceChunk × ℕ). chunk_size each.0) placed

used_most : (from to : ℕ) (placed : List (ServiceChunk × ℕ)) → used from to placed ≤ all_bytes placed
used_most from to [] = omega arith
used_most from to (each ∷ placed) =
    let rest = used_most from to placed in
    let some = sum_by-cons (bytes_between from to) each placed in
    let most = sum_by-cons (λ (one : ServiceChunk × ℕ). chunk_size one.0) each placed in
    let own = at (is_between from to each.1) in
    rw (some, most) (omega (arith, rest, own))
  where
    at : (b : Bool) → (if b then chunk_size each.0 else 0) ≤ chunk_size each.0
    at true = omega arith
    at false = omega arith

-- whether a unit may stand in a frame after others, if all of them stood in one delay
abbrev is_allowed : ℕ → List Caption → List (ServiceChunk × ℕ) → ServiceChunk → ℕ → Bool
is_allowed share cs before u f =
    list_all (λ (each : ServiceChunk × ℕ). nat_le each.1 f) before
    && (nat_le u.load f && (nat_lt f u.until
    && (nat_le (used f (f + 1) before + chunk_size u) (frame_room share cs f) && nat_le (all_bytes before + chunk_size u) most_in_delay)))

abbrev are_allowed : ℕ → List Caption → List (ServiceChunk × ℕ) → List ServiceChunk → List ℕ → Bool
are_allowed share cs before [] [] = true
are_allowed share cs before [] (f ∷ fs) = false
are_allowed share cs before (u ∷ us) [] = false
are_allowed share cs before (u ∷ us) (f ∷ fs) = is_allowed share cs before u f && are_allowed share cs (before ++ (u, f) ∷ []) us fs

le_holds : (a b : ℕ) → nat_le a b ≡ true → a ≤ b
le_holds a b test = grind (arith, nat_tests)

up_to : (f : ℕ) (before : List (ServiceChunk × ℕ)) → list_all (λ (each : ServiceChunk × ℕ). nat_le each.1 f) before ≡ true → AreUpTo f before
up_to f [] test = tt
up_to f (each ∷ before) test =
    let parts = and_parts (nat_le each.1 f) (list_all (λ (one : ServiceChunk × ℕ). nat_le one.1 f) before) test in
    (le_holds each.1 f parts.0, up_to f before parts.1)

allowed_by : (share : ℕ) (cs : List Caption) (before : List (ServiceChunk × ℕ)) (u : ServiceChunk) (f : ℕ) → is_allowed share cs before u f ≡ true
    → IsAllowedInService (frame_room share cs) (delay_end cs) before u f
allowed_by share cs before u f test =
    let first = and_parts (list_all (λ (each : ServiceChunk × ℕ). nat_le each.1 f) before) _ test in
    let second = and_parts (nat_le u.load f) _ first.1 in
    let third = and_parts (nat_lt f u.until) _ second.1 in
    let fourth = and_parts (nat_le (used f (f + 1) before + chunk_size u) (frame_room share cs f)) (nat_le (all_bytes before + chunk_size u) most_in_delay) third.1 in
    let few = le_holds (all_bytes before + chunk_size u) most_in_delay fourth.1 in
    record {
      order = up_to f before first.0;
      loaded = le_holds u.load f second.0;
      ended = le_holds (suc f) u.until third.0;
      fits = le_holds (used f (f + 1) before + chunk_size u) (frame_room share cs f) fourth.0;
      delayed = λ start end ends from to. let most = used_most start end before in omega (arith, most, few);
    }

placed_by : (share : ℕ) (cs : List Caption) (before : List (ServiceChunk × ℕ)) (us : List ServiceChunk) (fs : List ℕ) → are_allowed share cs before us fs ≡ true
    → IsPlaced (caption_lane share cs) before us fs
placed_by share cs before [] [] test = tt
placed_by share cs before [] (f ∷ fs) test = cc
placed_by share cs before (u ∷ us) [] test = cc
placed_by share cs before (u ∷ us) (f ∷ fs) test =
    let parts = and_parts (is_allowed share cs before u f) (are_allowed share cs (before ++ (u, f) ∷ []) us fs) test in
    (allowed_by share cs before u f parts.0, placed_by share cs (before ++ (u, f) ∷ []) us fs parts.1)

pub units_placed : IsServicePlaced delayed_list 1 delayed_frames
unfolding bytes_of_command dtvcc_spelling
units_placed = placed_by (share_in delayed_list 1) (captions_in delayed_list 1) [] (chunks_in delayed_list 1) delayed_frames refl
