-- The lane of captions that keep the rules is sound, wherever their units stand that it allows.
use Rattle.std.proofs.Common.{◌≡◌, ℕ, zero, suc, ◌+◌, ◌-◌, ◌<◌, ◌⊎◌, inl, inr, ◌==◌, ◌&&◌, not, Bool, true, false, cond, List, [], ◌∷◌, ◌++◌, Option, Some, None, refl, sym, ap, subst, ◌∙◌, arith, append_assoc}
use Rattle.std.specs.Prelude.{All, find, option_map}
use Rattle.std.specs.List.{flat_map, list_any, zip}
use Rattle.std.proofs.Math.Path.{fun_ext}
use Rattle.std.proofs.lemmas.Bool.{eqb-true}
use Rattle.std.proofs.lemmas.List.Concat.{flat_map-append}
use Rattle.cc_base.specs.declared.rate.Rate.{Rate}
use Rattle.cc_base.specs.Rate.{delay_frames_of}
use Rattle.cue_types.specs.declared.cue.Cue.{Cue}
use Rattle.cue_types.specs.Cues.{IsCueFormed}
use Rattle.dtvcc_codes.specs.declared.commands.Command.{Command}
use Rattle.dtvcc_codes.specs.declared.commands.Command.TheVariants.{Dlw, Dsw}
use Rattle.dtvcc_codes.specs.Writing.{bytes_of_command}
use Rattle.dtvcc_author.specs.declared.caption.Caption.{Caption}
use Rattle.dtvcc_author.specs.declared.frame_events.Delay.{Delay}
use Rattle.dtvcc_author.specs.Captions.{service_captions}
use Rattle.dtvcc_author.specs.EventBytes.{delay_bytes}
use Rattle.dtvcc_author.specs.FrameEvents.{delay_commands, delay_end, delayed_at, is_delayed_at, is_hidden_at, is_shown_at, names, windows_byte, windows_command}
use Rattle.dtvcc_author.specs.Kept.{AreKept, IsUncovered}
use Rattle.dtvcc_author.specs.Latest.{caption_delay}
use Rattle.dtvcc_author.proofs.LatestLemmas.{Has, delays_written, kept_sound}
use Rattle.frame_scheduler.specs.Placing.{IsPlaced}
use Rattle.frame_scheduler.specs.Chunks.{ServiceChunk}
use Rattle.frame_scheduler.specs.ServiceBytes.{bytes_in, loads_at}
use Rattle.frame_scheduler.specs.ServiceChunks.{service_chunks}
use Rattle.frame_scheduler.specs.ServiceLane.{IsAllowedInService}
use Rattle.frame_scheduler.specs.ServiceRoom.{caption_lane, frame_room}
use Rattle.frame_scheduler.proofs.DelayLemmas.{all_uncovered, delay_some, delay_test}
use Rattle.windows_shown.specs.CaptionLanes.{lane_of, plain_events}
use Rattle.windows_shown.specs.PlacedLanes.{IsPlacedLane, delay_ends, unloaded}
use Rattle.windows_shown.specs.ServiceLanes.{Lane, lane_frame_bytes, spent}
use Rattle.windows_shown.specs.Soundness.{ArePlain, HasOnlyLoads, IsLasting, IsSoundLane}
use Rattle.windows_shown.proofs.PlacedLanesLemmas.{placed_sound}
use Rattle.windows_shown.proofs.PlainLemmas.{nothing_plain, plain_both}
use Rattle.windows_shown.proofs.UnitLemmas.{units_plain}
use Rattle.windows_shown.proofs.WrittenLemmas.{dlw_plain, dsw_plain}

-- the bytes of the lane are the service's bytes
pub lane_bytes_are : (rate : Rate) (cs : List Caption) (placed : List (ServiceChunk × ℕ)) (frame : ℕ)
    → lane_frame_bytes (lane_of rate cs placed) frame ≡ bytes_in cs placed frame
lane_bytes_are rate cs placed frame =
    let plain : List ℕ = plain_events frame cs in
    let delays : List ℕ = delay_bytes (option_map caption_delay (delayed_at frame cs)) in
    let windows : List Command = windows_command Dlw (is_hidden_at frame) cs ++ windows_command Dsw (is_shown_at frame) cs in
    sym (append_assoc plain delays (loads_at placed frame))
    ∙ ap (λ (bytes : List ℕ). (plain ++ bytes) ++ loads_at placed frame) (sym (delays_written (delayed_at frame cs)))
    ∙ ap (λ (bytes : List ℕ). bytes ++ loads_at placed frame) (sym (flat_map-append bytes_of_command windows (delay_commands (delayed_at frame cs))))

-- its events are plain
windows_plain : (command : ℕ → Command) (test : Caption → Bool) (cs : List Caption) → ((windows : ℕ) → ArePlain (bytes_of_command (command windows)))
    → ArePlain (flat_map bytes_of_command (windows_command command test cs))
windows_plain command test cs plain = at (list_any test cs)
  where
    at : (b : Bool) → ArePlain (flat_map bytes_of_command (cond b (command (windows_byte (names test cs)) ∷ []) []))
    at true = plain_both (bytes_of_command (command (windows_byte (names test cs)))) [] (plain (windows_byte (names test cs))) nothing_plain
    at false = nothing_plain

pub events_plain : (frame : ℕ) (cs : List Caption) → ArePlain (plain_events frame cs)
events_plain frame cs =
    let hides : List Command = windows_command Dlw (is_hidden_at frame) cs in
    let shows : List Command = windows_command Dsw (is_shown_at frame) cs in
    subst ArePlain (sym (flat_map-append bytes_of_command hides shows))
    (plain_both (flat_map bytes_of_command hides) (flat_map bytes_of_command shows) (windows_plain Dlw (is_hidden_at frame) cs dlw_plain) (windows_plain Dsw (is_shown_at frame) cs dsw_plain))

-- the caption whose delay starts in a frame
pub record Starting (cs : List Caption) (start : ℕ) (delay : Delay) : Type 0 where
  pub caption : Caption
  pub has : Has caption cs
  pub tenths : 0 < caption.tenths
  pub starts : caption.starts ≡ start
  pub is : delay ≡ caption_delay caption

pub starting : (cs : List Caption) (start : ℕ) (delay : Delay) → option_map caption_delay (delayed_at start cs) ≡ Some delay → Starting cs start delay
starting [] start delay is = cc
starting (c ∷ cs) start delay is = at (is_delayed_at start c) refl (λ rest. starting cs start delay rest)
  where
    later : Starting cs start delay → Starting (c ∷ cs) start delay
    later s = record { caption = s.caption; has = inr s.has; tenths = s.tenths; starts = s.starts; is = s.is }

    at : (b : Bool) → is_delayed_at start c ≡ b → (option_map caption_delay (delayed_at start cs) ≡ Some delay → Starting cs start delay)
        → Starting (c ∷ cs) start delay
    at true holds rest =
        let here : Some (caption_delay c) ≡ Some delay = rw holds at is in
        let told = delay_test start c holds in
        record { caption = c; has = inl refl; tenths = told.0; starts = told.1; is = cc }
    at false fails rest = later (rest (rw fails at is))

-- a test that no caption passes
pub none_passes : (test : Caption → Bool) (cs : List Caption) → ((c : Caption) → Has c cs → test c ≡ false) → list_any test cs ≡ false
none_passes test [] fails = refl
none_passes test (c ∷ cs) fails = rw (fails c (inl refl)) (none_passes test cs (λ other has. fails other (inr has)))

none_found : (test : Caption → Bool) (cs : List Caption) → ((c : Caption) → Has c cs → test c ≡ false) → find test cs ≡ None
none_found test [] fails = refl
none_found test (c ∷ cs) fails = rw (fails c (inl refl)) (none_found test cs (λ other has. fails other (inr has)))

-- strictly within a delay no caption has an event
module _ (rate : Rate) (frames : ℕ) (cs : List Caption) (kept : AreKept rate frames cs) (start frame : ℕ) (delay : Delay) (s : Starting cs start delay)
    (from : start < frame) (to : frame < delay.ends) where
  ends_is : delay.ends ≡ s.caption.show
  ends_is = ap (λ (d : Delay). d.ends) s.is

  no_hide : (other : Caption) → Has other cs → other.hide ≡ frame → ⊥
  no_hide other has is = at (all_uncovered rate frames cs s.caption other kept s.has has)
    where
      at : (s.caption ≡ other) ⊎ IsUncovered s.caption other → ⊥
      at (inl same) =
          let sound = kept_sound rate frames cs s.caption kept s.has in
          let one : s.caption.hide ≡ other.hide = ap (λ (c : Caption). c.hide) same in
          omega (arith, sound.hidden, one, is, to, ends_is)
      at (inr un) =
          let late : s.caption.starts < other.hide = omega (arith, s.starts, is, from) in
          let clear = un.hide s.tenths late in
          omega (arith, clear, is, to, ends_is)

  no_start : (other : Caption) → Has other cs → other.starts ≡ frame → ⊥
  no_start other has is = at (all_uncovered rate frames cs s.caption other kept s.has has)
    where
      at : (s.caption ≡ other) ⊎ IsUncovered s.caption other → ⊥
      at (inl same) =
          let one : s.caption.starts ≡ other.starts = ap (λ (c : Caption). c.starts) same in
          omega (arith, one, is, from, s.starts)
      at (inr un) =
          let late : s.caption.starts < other.starts = omega (arith, s.starts, is, from) in
          let clear = un.starts s.tenths late in
          omega (arith, clear, is, to, ends_is)

  not_hidden : (other : Caption) → Has other cs → is_hidden_at frame other ≡ false
  not_hidden other has = at (other.hide == frame) refl
    where
      at : (b : Bool) → (other.hide == frame) ≡ b → b ≡ false
      at true is = absurd (no_hide other has (eqb-true other.hide frame is))
      at false is = refl

  not_started : (first : Bool) (other : Caption) → Has other cs → (first && (other.starts == frame)) ≡ false
  not_started first other has = at first (other.starts == frame) refl
    where
      at : (a b : Bool) → (other.starts == frame) ≡ b → (a && b) ≡ false
      at true true is = absurd (no_start other has (eqb-true other.starts frame is))
      at true false is = refl
      at false b is = refl

  delay_quiet : (placed : List (ServiceChunk × ℕ)) → HasOnlyLoads (unloaded (lane_of rate cs placed)) frame
  delay_quiet placed = record {
    events = ap (λ (b : Bool). flat_map bytes_of_command (cond b (Dlw (windows_byte (names (is_hidden_at frame) cs)) ∷ []) [] ++ windows_command Dsw (is_shown_at frame) cs))
        (none_passes (is_hidden_at frame) cs not_hidden)
        ∙ ap (λ (b : Bool). flat_map bytes_of_command (cond b (Dsw (windows_byte (names (is_shown_at frame) cs)) ∷ []) []))
        (none_passes (is_shown_at frame) cs (λ other. not_started (other.tenths == 0) other));
    delay = ap (option_map caption_delay) (none_found (is_delayed_at frame) cs (λ other. not_started (not (other.tenths == 0)) other));
  }

-- a delay of the lane lasts its tenths
delay_lasting : (rate : Rate) (frames : ℕ) (cs : List Caption) (placed : List (ServiceChunk × ℕ)) (start : ℕ) (delay : Delay) → AreKept rate frames cs
    → (unloaded (lane_of rate cs placed)).delay start ≡ Some delay → IsLasting (unloaded (lane_of rate cs placed)) start delay
delay_lasting rate frames cs placed start delay kept is =
    let s = starting cs start delay is in
    let sound = kept_sound rate frames cs s.caption kept s.has in
    let lasts = sound.delayed s.tenths in
    let tenths_are : delay.tenths ≡ s.caption.tenths = ap (λ (d : Delay). d.tenths) s.is in
    let ends_are : delay.ends ≡ s.caption.show = ap (λ (d : Delay). d.ends) s.is in
    let counted : delay_frames_of rate delay.tenths ≡ delay_frames_of rate s.caption.tenths = ap (delay_frames_of rate) tenths_are in
    let later : start < delay.ends = delay_some rate frames cs start delay.ends kept (end_is (delayed_at start cs) is) in
    record {
      some = omega (arith, s.tenths, tenths_are);
      ends_is = ends_are ∙ sym lasts ∙ ap (λ (n : ℕ). n + delay_frames_of rate s.caption.tenths) s.starts ∙ ap (λ (n : ℕ). start + n) (sym counted);
      after = later;
    }
  where
    end_is : (found : Option Caption) → option_map caption_delay found ≡ Some delay → option_map (λ c. c.show) found ≡ Some delay.ends
    end_is None none = cc
    end_is (Some c) some = let same : caption_delay c ≡ delay = cc in ap (λ (d : Delay). Some d.ends) same

-- a lane without loads spends nothing
none_spent : (lane : Lane) (from count : ℕ) → spent (unloaded lane) from count ≡ 0
none_spent lane from zero = refl
none_spent lane from (suc count) = let rest = none_spent lane from count in omega (arith, rest)

-- so the lane of captions that keep the rules is sound by itself
pub captions_sound : (rate : Rate) (frames : ℕ) (cs : List Caption) (placed : List (ServiceChunk × ℕ)) → AreKept rate frames cs
    → IsSoundLane (unloaded (lane_of rate cs placed))
captions_sound rate frames cs placed kept = record {
  events = λ frame. events_plain frame cs;
  loads = λ frame. nothing_plain;
  lasting = λ start delay is. delay_lasting rate frames cs placed start delay kept is;
  quiet = λ start frame delay is from to. delay_quiet rate frames cs kept start frame delay (starting cs start delay is) from to placed;
  budget = λ start delay is. let none = none_spent (lane_of rate cs placed) start (delay.ends - start) in omega (arith, none);
}

-- its delays end where the captions' do
ends_are : (rate : Rate) (cs : List Caption) → delay_end cs ≡ delay_ends (lane_of rate cs [])
ends_are rate cs = fun_ext (λ start. at (delayed_at start cs))
  where
    at : (found : Option Caption) → option_map (λ c. c.show) found ≡ option_map (λ (delay : Delay). delay.ends) (option_map caption_delay found)
    at None = refl
    at (Some c) = refl

-- and it is with its units, wherever they stand that it allows
pub captions_placed : (rate : Rate) (share service frames : ℕ) (cues : List Cue) (placed : List ℕ) → All IsCueFormed cues
    → AreKept rate frames (service_captions rate service cues)
    → IsPlaced (caption_lane share (service_captions rate service cues)) [] (service_chunks rate service cues) placed
    → IsPlacedLane (lane_of rate (service_captions rate service cues) []) (frame_room share (service_captions rate service cues)) (service_chunks rate service cues) placed
captions_placed rate share service frames cues placed formed kept is =
    let cs : List Caption = service_captions rate service cues in
    record {
      sound = captions_sound rate frames cs [] kept;
      plain = units_plain rate service cues formed;
      placed = subst (λ (ends : ℕ → Option ℕ). IsPlaced (IsAllowedInService (frame_room share cs) ends) [] (service_chunks rate service cues) placed) (ends_are rate cs) is;
    }

pub lane_sound : (rate : Rate) (share service frames : ℕ) (cues : List Cue) (placed : List ℕ) → All IsCueFormed cues
    → AreKept rate frames (service_captions rate service cues)
    → IsPlaced (caption_lane share (service_captions rate service cues)) [] (service_chunks rate service cues) placed
    → IsSoundLane (lane_of rate (service_captions rate service cues) (zip (service_chunks rate service cues) placed))
lane_sound rate share service frames cues placed formed kept is =
    placed_sound (lane_of rate (service_captions rate service cues) []) (frame_room share (service_captions rate service cues)) (service_chunks rate service cues) placed
    (captions_placed rate share service frames cues placed formed kept is)
