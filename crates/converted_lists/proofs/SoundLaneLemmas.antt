-- What a sound lane sends is a good stream.
use Rattle.std.proofs.Common.{◌≡◌, ℕ, zero, suc, ◌*◌, ◌≤◌, List, [], ◌∷◌, ◌++◌, map, Option, Some, None, refl, sym, ap, ◌∙◌, subst, arith}
use Rattle.std.specs.Prelude.{⊤}
use Rattle.std.specs.List.{AllByRecursion}
use Rattle.cc_base.specs.Rate.{delay_frames_of}
use Rattle.cc_base.specs.Steps.{front_from}
use Rattle.cc_base.specs.declared.rate.Rate.TheVariants.{F2997, F5994}
use Rattle.dtvcc_author.specs.EventBytes.{delay_bytes}
use Rattle.dtvcc_author.specs.declared.frame_events.Delay.{Delay}
use Rattle.dtvcc_codes.specs.declared.commands.Command.{Command}
use Rattle.dtvcc_codes.specs.declared.commands.Command.TheVariants.{Dsw, Dly, Dlc, Rst}
use Rattle.dtvcc_codes.specs.Reading.{completions, open_after, spelled_command, told_size}
use Rattle.dtvcc_screen.specs.Meaning.{Byte, Event, Reset, Tick}
use Rattle.services_shown.specs.ServiceLanes.{Lane, lane_frame_bytes, lane_frame_events}
use Rattle.services_shown.specs.Soundness.{ArePlain, IsPlainOrNone, IsSoundLane}
use Rattle.rate_convert.specs.HalvedServices.{IsGood}
use Rattle.converted_lists.specs.SoundLanes.{SoundLanesAreGood, lane_events}
use Rattle.rate_convert.specs.GoodStreams.{IsGoodStream}

-- what a plain byte completed is good
plain_good : (said : Option Command) → IsPlainOrNone said → IsGood said
plain_good None plain = record { no_reset = refl; no_cancel = refl; doubled = tt }
plain_good (Some (Dly tenths)) plain = cc
plain_good (Some Dlc) plain = cc
plain_good (Some Rst) plain = cc
plain_good (Some _) plain = record { no_reset = refl; no_cancel = refl; doubled = λ some. absurd (omega (arith, some)) }

delay_good : (tenths : ℕ) → tenths ≤ 166 → 1 ≤ delay_frames_of F2997 tenths → IsGood (Some (Dly tenths))
delay_good tenths few some = record { no_reset = refl; no_cancel = refl; doubled = λ above. (twice, some) }
  where
    twice : delay_frames_of F5994 tenths ≡ 2 * delay_frames_of F2997 tenths
    twice = omega arith

-- bytes that complete good ones, and leave nothing open
abbrev AllGood : List (Option Command) → Type 0
AllGood [] = ⊤
AllGood (said ∷ more) = IsGood said × AllGood more

record AreGoodBytes (bytes : List ℕ) : Type 0 where
  good : AllGood (completions [] bytes)
  whole : front_from open_after [] bytes ≡ []

all_plain : (said : List (Option Command)) → AllByRecursion IsPlainOrNone said → AllGood said
all_plain [] plain = tt
all_plain (first ∷ more) plain = (plain_good first plain.0, all_plain more plain.1)

good_join : (front bytes more : List ℕ) → AllGood (completions front bytes) → front_from open_after front bytes ≡ [] → AllGood (completions [] more)
    → AllGood (completions front (bytes ++ more))
good_join front [] more all whole too = subst (λ (left : List ℕ). AllGood (completions left more)) (sym whole) too
good_join front (byte ∷ bytes) more all whole too = (all.0, good_join (open_after front byte) bytes more all.1 whole too)

whole_join : (front bytes more : List ℕ) → front_from open_after front bytes ≡ [] → front_from open_after front (bytes ++ more) ≡ front_from open_after [] more
whole_join front [] more whole = ap (λ (left : List ℕ). front_from open_after left more) whole
whole_join front (byte ∷ bytes) more whole = whole_join (open_after front byte) bytes more whole

good_both : (bytes more : List ℕ) → AreGoodBytes bytes → AreGoodBytes more → AreGoodBytes (bytes ++ more)
good_both bytes more are too = record {
  good = good_join [] bytes more are.good are.whole too.good;
  whole = whole_join [] bytes more are.whole ∙ too.whole;
}

plain_bytes : (bytes : List ℕ) → ArePlain bytes → AreGoodBytes bytes
plain_bytes bytes are = record { good = all_plain (completions [] bytes) are.plain; whole = are.whole }

-- Delay and DisplayWindows
delay_said : (tenths : ℕ) → completions [] (0x8D ∷ tenths ∷ []) ≡ None ∷ Some (Dly tenths) ∷ []
unfolding told_size spelled_command
delay_said tenths = refl

delay_whole : (tenths : ℕ) → front_from open_after [] (0x8D ∷ tenths ∷ []) ≡ []
unfolding told_size
delay_whole tenths = refl

shows_said : (windows : ℕ) → completions [] (0x89 ∷ windows ∷ []) ≡ None ∷ Some (Dsw windows) ∷ []
unfolding told_size spelled_command
shows_said windows = refl

shows_whole : (windows : ℕ) → front_from open_after [] (0x89 ∷ windows ∷ []) ≡ []
unfolding told_size
shows_whole windows = refl

delay_bytes_good : (o : Option Delay) → ((delay : Delay) → o ≡ Some delay → IsGood (Some (Dly delay.tenths))) → AreGoodBytes (delay_bytes o)
delay_bytes_good None good = record { good = tt; whole = refl }
delay_bytes_good (Some delay) good =
    good_both (0x8D ∷ delay.tenths ∷ []) (0x89 ∷ delay.windows ∷ [])
    (record {
      good = subst AllGood (sym (delay_said delay.tenths)) (plain_good None tt, (good delay refl, tt));
      whole = delay_whole delay.tenths;
    })
    (record {
      good = subst AllGood (sym (shows_said delay.windows)) (plain_good None tt, (plain_good (Some (Dsw delay.windows)) refl, tt));
      whole = shows_whole delay.windows;
    })

-- a frame of a stream
frame_stream : (front bytes : List ℕ) → AllGood (completions front bytes) → IsGoodStream front (map Byte bytes)
frame_stream front [] good = tt
frame_stream front (byte ∷ bytes) good = (good.0, frame_stream (open_after front byte) bytes good.1)

-- where each frame leaves nothing open
abbrev front_of : List ℕ → List Event → List ℕ
front_of front [] = front
front_of front (Tick rate ∷ events) = front_of front events
front_of front (Byte byte ∷ events) = front_of (open_after front byte) events
front_of front (Reset ∷ events) = front_of front events

stream_append : (front : List ℕ) (es fs : List Event) → IsGoodStream front es → IsGoodStream (front_of front es) fs → IsGoodStream front (es ++ fs)
stream_append front [] fs good more = more
stream_append front (Tick rate ∷ es) fs good more = stream_append front es fs good more
stream_append front (Byte byte ∷ es) fs good more = (good.0, stream_append (open_after front byte) es fs good.1 more)
stream_append front (Reset ∷ es) fs good more = absurd good

front_append : (front : List ℕ) (es fs : List Event) → front_of front (es ++ fs) ≡ front_of (front_of front es) fs
front_append front [] fs = refl
front_append front (Tick rate ∷ es) fs = front_append front es fs
front_append front (Byte byte ∷ es) fs = front_append (open_after front byte) es fs
front_append front (Reset ∷ es) fs = front_append front es fs

front_bytes : (front bytes : List ℕ) → front_of front (map Byte bytes) ≡ front_from open_after front bytes
front_bytes front [] = refl
front_bytes front (byte ∷ bytes) = front_bytes (open_after front byte) bytes

module _ (lane : Lane) (sound : IsSoundLane lane) (rate : lane.rate ≡ F2997) (few : (frame : ℕ) (delay : Delay) → lane.delay frame ≡ Some delay → delay.tenths ≤ 166) where
  frame_good : (n : ℕ) → AreGoodBytes (lane_frame_bytes lane n)
  frame_good n =
      good_both (lane.events n) (delay_bytes (lane.delay n) ++ lane.loads n) (plain_bytes (lane.events n) (sound.events n))
      (good_both (delay_bytes (lane.delay n)) (lane.loads n)
      (delay_bytes_good (lane.delay n) (λ delay is.
      let lasting = sound.lasting n delay is in
      delay_good delay.tenths (few n delay is)
      (let same : delay_frames_of lane.rate delay.tenths ≡ delay_frames_of F2997 delay.tenths = ap (λ r. delay_frames_of r delay.tenths) rate in
      omega (arith, lasting.ends_is, lasting.after, same))))
      (plain_bytes (lane.loads n) (sound.loads n)))

  record IsUpTo (n : ℕ) : Type 0 where
    good : IsGoodStream [] (lane_events lane n)
    whole : front_of [] (lane_events lane n) ≡ []

  up_to : (n : ℕ) → IsUpTo n
  up_to zero = record { good = tt; whole = refl }
  up_to (suc n) =
      let before = up_to n in
      let bytes = frame_good n in
      let here : IsGoodStream [] (lane_frame_events lane n) = frame_stream [] (lane_frame_bytes lane n) bytes.good in
      record {
        good = stream_append [] (lane_events lane n) (lane_frame_events lane n) before.good (subst (λ f. IsGoodStream f (lane_frame_events lane n)) (sym before.whole) here);
        whole = front_append [] (lane_events lane n) (lane_frame_events lane n) ∙ ap (λ f. front_of f (lane_frame_events lane n)) before.whole
            ∙ front_bytes [] (lane_frame_bytes lane n) ∙ bytes.whole;
      }

pub lanes_good : SoundLanesAreGood
lanes_good lane sound rate few n = (up_to lane sound rate few n).good
