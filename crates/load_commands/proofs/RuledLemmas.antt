-- The list of a load keeps the rules: two captions of one lane have the same turn, so 270 frames lie between their LOADs.
use Rattle.std.proofs.Common.{◌≡◌, ℕ, zero, suc, ◌+◌, ◌*◌, ◌<◌, ◌≤◌, ◌%◌, Bool, true, false, List, [], ◌∷◌, map, Some, All, refl, sym, subst, arith, eqb-true}
use Rattle.std.specs.List.{AllByRecursion, range_with_len}
use Rattle.std.proofs.lemmas.List.Elements.{All-cons, All-from_recursion, All-nil}
use Rattle.cc_base.specs.declared.rate.Rate.TheVariants.{F2997}
use Rattle.line21_codes.specs.declared.channels.Chan.{Chan}
use Rattle.line21_codes.specs.declared.channels.Chan.TheVariants.{Cc1, Cc2, Cc3, Cc4}
use Rattle.cue_lists.specs.Cadence.TheVariants.{EveryFrame}
use Rattle.cue_types.specs.Channels.{cues_of_service, cues_on, is_of_service, is_on}
use Rattle.cue_types.specs.declared.cue.Cue.{Cue}
use Rattle.cue_lists.specs.Rules.{IsRuled}
use Rattle.cue_lists.proofs.RulesSaid.{ruled_from_lanes}
use Rattle.cue_lists.proofs.ServiceRules.{HidesWindow}
use Rattle.cue_lists.specs.Rules.Sentences.{AreInSequence, AreInService, ComesAfter, IsOnSlots, IsSound, IsSoundWindow, KeepsClear}
use Rattle.load_commands.proofs.FormedLemmas.{load_kind, load_run}
use Rattle.load_commands.specs.LoadList.{load_cue, load_list}

-- caption k, as the caption of a turn
abbrev turned : ℕ → ℕ → Cue
turned k turn = record { load = 90 * k; show = 90 * k + 60; hide = Some (90 * k + 150); kind = load_kind k turn; runs = load_run k turn ∷ [] }

-- a turn is one of three
below_3 : (k : ℕ) → k % 3 < 3
below_3 k = omega arith

-- later captions of the same turn are three further on, at least
three_on : (a j turn : ℕ) → a % 3 ≡ turn → j % 3 ≡ turn → a < j → a + 3 ≤ j
three_on a j turn first second less = omega arith

-- the turn of a channel, if it has one
abbrev turn_on : Chan → ℕ
turn_on Cc1 = 0
turn_on Cc2 = 3
turn_on Cc3 = 2
turn_on Cc4 = 3

on_in_turn : (channel : Chan) (k turn : ℕ) → turn < 3 → is_on channel (load_kind k turn) ≡ true → turn ≡ turn_on channel
on_in_turn Cc1 k zero below is = refl
on_in_turn Cc1 k (suc zero) below is = cc
on_in_turn Cc1 k (suc (suc turn)) below is = cc
on_in_turn Cc2 k zero below is = cc
on_in_turn Cc2 k (suc zero) below is = cc
on_in_turn Cc2 k (suc (suc turn)) below is = cc
on_in_turn Cc3 k zero below is = cc
on_in_turn Cc3 k (suc zero) below is = cc
on_in_turn Cc3 k (suc (suc turn)) below is = omega arith
on_in_turn Cc4 k zero below is = cc
on_in_turn Cc4 k (suc zero) below is = cc
on_in_turn Cc4 k (suc (suc turn)) below is = cc

channel_turn : (channel : Chan) (k : ℕ) → is_on channel (load_cue k).kind ≡ true → k % 3 ≡ turn_on channel
channel_turn channel k is = on_in_turn channel k (k % 3) (below_3 k) is

-- a caption by itself
sound : (frames k : ℕ) → 90 * k + 152 ≤ frames → IsSound 1 frames (load_cue k)
sound frames k within = record {
  loaded = omega arith;
  hidden = omega arith;
  apart = refl;
  stays = λ pop. omega arith;
  ended = omega arith;
}

-- two on a channel
comes_after : (a j : ℕ) → a + 3 ≤ j → ComesAfter 1 (load_cue a) (load_cue j)
comes_after a j far = record {
  loaded = omega arith;
  shown = omega arith;
  apart = λ pop less. omega arith;
  cleared = λ other. omega arith;
  continued = λ none. cc;
}

-- the first of captions on a channel is one from a number on
abbrev BeginsFrom : Chan → ℕ → List Cue → Type 0
BeginsFrom channel a [] = Unit {0}
BeginsFrom channel a (cue ∷ later) = (j : ℕ) × (a ≤ j) × (cue ≡ load_cue j) × (is_on channel (load_cue j).kind ≡ true)

begins_later : (channel : Chan) (a : ℕ) (cues : List Cue) → BeginsFrom channel (a + 1) cues → BeginsFrom channel a cues
begins_later channel a [] begins = tt
begins_later channel a (cue ∷ later) begins = (begins.0, omega (arith, begins.1), begins.2, begins.3)

abbrev captions : ℕ → ℕ → List Cue
captions a n = map load_cue (range_with_len a n)

begins : (channel : Chan) (a n : ℕ) → BeginsFrom channel a (cues_on channel (captions a n))
begins channel a zero = tt
begins channel a (suc n) = at (is_on channel (load_cue a).kind) refl (begins channel (a + 1) n)
  where
    at : (b : Bool) → is_on channel (load_cue a).kind ≡ b → BeginsFrom channel (a + 1) (cues_on channel (captions (a + 1) n))
        → BeginsFrom channel a (cues_on channel (captions a (suc n)))
    at true is rest = rw is (a, omega arith, refl, is)
    at false is rest = rw is (begins_later channel a (cues_on channel (captions (a + 1) n)) rest)

-- one more in front of those on a channel
one_before : (channel : Chan) (frames a : ℕ) (cues : List Cue) → 90 * a + 152 ≤ frames → is_on channel (load_cue a).kind ≡ true
    → BeginsFrom channel (a + 1) cues → AreInSequence 1 frames cues → AreInSequence 1 frames (load_cue a ∷ cues)
one_before channel frames a [] within is begins rest = sound frames a within
one_before channel frames a (cue ∷ later) within is begins rest =
    let far = three_on a begins.0 (turn_on channel) (channel_turn channel a is) (channel_turn channel begins.0 begins.3) (let e = begins.1 in omega arith) in
    (sound frames a within, subst (λ next. ComesAfter 1 (load_cue a) next) (sym begins.2) (comes_after a begins.0 far), rest)

in_sequence : (channel : Chan) (frames a n : ℕ) → 90 * (a + n) + 120 ≤ frames → AreInSequence 1 frames (cues_on channel (captions a n))
in_sequence channel frames a zero within = tt
in_sequence channel frames a (suc n) within = at (is_on channel (load_cue a).kind) refl (in_sequence channel frames (a + 1) n (omega arith))
  where
    at : (b : Bool) → is_on channel (load_cue a).kind ≡ b → AreInSequence 1 frames (cues_on channel (captions (a + 1) n))
        → AreInSequence 1 frames (cues_on channel (captions a (suc n)))
    at true is rest = rw is (one_before channel frames a (cues_on channel (captions (a + 1) n)) (omega arith) is (begins channel (a + 1) n) rest)
    at false is rest = rw is rest

-- each frame has a slot
on_slots : (channel : Chan) (a n : ℕ) → All (IsOnSlots EveryFrame) (cues_on channel (captions a n))
on_slots channel a zero = All-nil (IsOnSlots EveryFrame)
on_slots channel a (suc n) = at (is_on channel (load_cue a).kind) refl (on_slots channel (a + 1) n)
  where
    at : (b : Bool) → is_on channel (load_cue a).kind ≡ b → All (IsOnSlots EveryFrame) (cues_on channel (captions (a + 1) n))
        → All (IsOnSlots EveryFrame) (cues_on channel (captions a (suc n)))
    at true is rest =
        rw is (All-cons (IsOnSlots EveryFrame) (load_cue a) (cues_on channel (captions (a + 1) n)) (record { show = refl; hide = refl }) rest)
    at false is rest = rw is rest

-- captions of a service are the second turn's, and the service is number 1
service_turn : (service k turn : ℕ) → turn < 3 → is_of_service service (load_kind k turn) ≡ true → (turn ≡ 1) × (service ≡ 1)
service_turn service k zero below is = cc
service_turn service k (suc zero) below is = (refl, eqb-true service 1 is)
service_turn service k (suc (suc turn)) below is = cc

-- a caption of the service by itself
sound_window : (count k : ℕ) → 90 * k + 150 < 90 * count + 120 → IsSoundWindow (load_list count) 1 (turned k 1)
sound_window count k within = record {
  loaded = omega arith;
  hidden = omega arith;
  delayed = λ some. omega arith;
  apart = refl;
  shared = refl;
  ended = omega arith;
}

-- two of the service
keeps_clear : (a j : ℕ) → a + 3 ≤ j → KeepsClear F2997 (turned a 1) (turned j 1)
keeps_clear a j far = record {
  loaded = omega arith;
  vacated = λ same. omega arith;
  starts = λ same. omega arith;
  undisturbed = (λ after. omega arith, (λ after. omega arith, tt));
  undisturbing = (λ after. omega arith, (λ after. omega arith, tt));
}

all_clear : (service a b n : ℕ) → a % 3 ≡ 1 → a < b → AllByRecursion (KeepsClear F2997 (load_cue a)) (cues_of_service service (captions b n))
all_clear service a b zero turn less = tt
all_clear service a b (suc n) turn less = at (is_of_service service (load_cue b).kind) refl (all_clear service a (b + 1) n turn (omega arith))
  where
    clear : b % 3 ≡ 1 → KeepsClear F2997 (load_cue a) (load_cue b)
    clear also =
        subst (λ t. KeepsClear F2997 (turned a t) (load_cue b)) (sym turn)
        (subst (λ t. KeepsClear F2997 (turned a 1) (turned b t)) (sym also) (keeps_clear a b (three_on a b 1 turn also less)))

    at : (t : Bool) → is_of_service service (load_cue b).kind ≡ t → AllByRecursion (KeepsClear F2997 (load_cue a)) (cues_of_service service (captions (b + 1) n))
        → AllByRecursion (KeepsClear F2997 (load_cue a)) (cues_of_service service (captions b (suc n)))
    at true is rest = rw is (clear (service_turn service b (b % 3) (below_3 b) is).0, rest)
    at false is rest = rw is rest

in_service : (service count a n : ℕ) → a + n ≤ count → AreInService (load_list count) service (cues_of_service service (captions a n))
in_service service count a zero within = tt
in_service service count a (suc n) within = at (is_of_service service (load_cue a).kind) refl (in_service service count (a + 1) n (omega arith))
  where
    sound_here : a % 3 ≡ 1 → service ≡ 1 → IsSoundWindow (load_list count) service (load_cue a)
    sound_here turn same =
        subst (λ s. IsSoundWindow (load_list count) s (load_cue a)) (sym same)
        (subst (λ t. IsSoundWindow (load_list count) 1 (turned a t)) (sym turn) (sound_window count a (omega arith)))

    at : (t : Bool) → is_of_service service (load_cue a).kind ≡ t → AreInService (load_list count) service (cues_of_service service (captions (a + 1) n))
        → AreInService (load_list count) service (cues_of_service service (captions a (suc n)))
    at true is rest =
        let turn = service_turn service a (a % 3) (below_3 a) is in
        rw is (sound_here turn.0 turn.1, all_clear service a (a + 1) n turn.0 (omega arith), rest)
    at false is rest = rw is rest

-- each caption is hidden
hidden : (a n : ℕ) → AllByRecursion HidesWindow (captions a n)
hidden a zero = tt
hidden a (suc n) = (λ window. refl, hidden (a + 1) n)

pub list_ruled : (count : ℕ) → IsRuled (load_list count)
list_ruled count =
    ruled_from_lanes (load_list count) (All-from_recursion HidesWindow (captions 0 count) (hidden 0 count))
    (record {
      channels = λ channel. in_sequence channel (90 * count + 120) 0 count (omega arith);
      on_slots = λ channel. on_slots channel 0 count;
      services = λ service. in_service service count 0 count (omega arith);
    })
