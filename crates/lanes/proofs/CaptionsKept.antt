-- The captions of a service of a list that keeps the rules keep them.
use Rattle.std.proofs.Common.{◌≡◌, ◌≢◌, ◌∙◌, ℕ, zero, suc, ◌+◌, ◌-◌, ◌<◌, ◌≤◌, ◌==◌, Bool, true, false, ◌&&◌, cond, if◌then◌else◌, List, [], ◌∷◌, Option, Some, None, refl, sym, ap, subst, arith}
use Rattle.std.specs.Prelude.{All, IfSome, nat_lt, unwrap_or}
use Rattle.std.specs.Option.{option_to_list}
use Rattle.std.specs.List.{AllByRecursion, cons_option}
use Rattle.std.proofs.lemmas.Bool.{eq-eqb, eqb-true}
use Rattle.std.proofs.lemmas.Bool.Decides.{nat_tests}
use Rattle.std.proofs.lemmas.List.Elements.{All-head, All-tail}
use Rattle.cc_base.specs.declared.rate.Rate.{Rate}
use Rattle.cc_base.specs.declared.rate.Rate.TheVariants as rate
use Rattle.cc_base.specs.Rate.{delay_frames_of}
use Rattle.cue_lists.specs.Channels.{cues_of_service, is_of_service}
use Rattle.cue_lists.specs.Cues.{IsCueFormed, IsOfKind}
use Rattle.cue_lists.specs.Listing.{IsFormed, Listing}
use Rattle.cue_lists.specs.Rules.{IsRuled}
use Rattle.cue_lists.proofs.RulesSaid.{lanes_ruled}
use Rattle.cue_lists.specs.Rules.Delay.{delay_of, delay_start, event_frames}
use Rattle.cue_lists.specs.Rules.Sentences.{AreInService, IsSoundWindow, IsUndisturbed, KeepsClear}
use Rattle.cue_lists.specs.Rules.WindowBusy.{same_window}
use Rattle.cue_lists.specs.Windows.{IsWindow}
use Rattle.cue_lists.specs.declared.cue.Cue.{Cue}
use Rattle.cue_lists.specs.declared.cue.Kind.{Kind}
use Rattle.cue_lists.specs.declared.cue.Kind.TheVariants.{Pop, Paint, Roll, Win}
use Rattle.cue_lists.specs.declared.cue.WinCue.{WinCue}
use Rattle.dtvcc_author.specs.Captions.{caption_with, service_captions, window_caption}
use Rattle.dtvcc_author.specs.Kept.{AreKept, Follows, IsSoundCaption, IsUncovered}

-- no delay lasts no frame
no_delay : (r : Rate) → delay_frames_of r 0 ≡ 0
no_delay rate.F23976 = refl
no_delay rate.F24 = refl
no_delay rate.F25 = refl
no_delay rate.F2997 = refl
no_delay rate.F30 = refl
no_delay rate.F50 = refl
no_delay rate.F5994 = refl
no_delay rate.F60 = refl

pub eqb_turned : (a b : ℕ) → (a == b) ≡ (b == a)
eqb_turned a b = at (a == b) (b == a) refl refl
  where
    at : (x y : Bool) → (a == b) ≡ x → (b == a) ≡ y → x ≡ y
    at true true p q = refl
    at false false p q = refl
    at true false p q = let e = eq-eqb b a (sym (eqb-true a b p)) in cc
    at false true p q = let e = eq-eqb a b (sym (eqb-true b a q)) in cc

-- a window cue, and its HIDE
record IsWinCue (service : ℕ) (w : WinCue) (hide : ℕ) (cue : Cue) : Type 0 where
  kind_is : cue.kind ≡ Win w
  of_it : w.service ≡ service
  window : IsWindow w
  hide_is : cue.hide ≡ Some hide

-- what the rules ask of a window cue, of its caption
sound_caption : (l : Listing) (service hide : ℕ) (w : WinCue) (cue : Cue) → IsWinCue service w hide cue → IsSoundWindow l service cue
    → IsSoundCaption l.rate l.frames (window_caption l.rate w cue)
sound_caption l service hide w cue is sound = record {
  window = omega (arith, is.window.id);
  loaded = loaded w.delay delayed;
  at_once = λ none. at_once w.delay none;
  delayed = λ some. let late = delayed some in omega (arith, late);
  after = omega arith;
  hidden = rw is.hide_is (let e = rw is.hide_is at sound.hidden in e);
  ended = rw is.hide_is (let e = rw is.hide_is at sound.ended in e);
}
  where
    delayed : 0 < w.delay → cue.load + delay_frames_of l.rate w.delay < cue.show
    delayed some = subst (λ k. 0 < delay_of k → cue.load + delay_frames_of l.rate (delay_of k) < cue.show) is.kind_is sound.delayed some

    loaded : (delay : ℕ) → (0 < delay → cue.load + delay_frames_of l.rate delay < cue.show) → cue.load < cue.show - delay_frames_of l.rate delay
    loaded zero late = let none = no_delay l.rate in omega (arith, none, sound.loaded)
    loaded (suc delay) late = let e = late (omega arith) in omega (arith, e)

    at_once : (delay : ℕ) → delay ≡ 0 → cue.show - delay_frames_of l.rate delay ≡ cue.show
    at_once delay none = let e : delay_frames_of l.rate delay ≡ 0 = ap (delay_frames_of l.rate) none ∙ no_delay l.rate in omega (arith, e)

-- the frame in which what shows a cue is sent
starts_is : (r : Rate) (w : WinCue) (cue : Cue) → cue.kind ≡ Win w → unwrap_or (delay_start r cue) cue.show ≡ (window_caption r w cue).starts
starts_is r w cue is =
    subst (λ k. unwrap_or (if nat_lt 0 (delay_of k) then Some (cue.show - delay_frames_of r (delay_of k)) else None) cue.show
    ≡ cue.show - delay_frames_of r w.delay) (sym is) (at w.delay)
  where
    at : (delay : ℕ) → unwrap_or (if nat_lt 0 delay then Some (cue.show - delay_frames_of r delay) else None) cue.show ≡ cue.show - delay_frames_of r delay
    at zero = let none = no_delay r in omega (arith, none)
    at (suc delay) = let some : nat_lt 0 (suc delay) ≡ true = grind (arith, nat_tests) in rw some refl

delay_some : (r : Rate) (w : WinCue) (cue : Cue) → cue.kind ≡ Win w → 0 < w.delay → delay_start r cue ≡ Some (window_caption r w cue).starts
delay_some r w cue is some =
    subst (λ k. (if nat_lt 0 (delay_of k) then Some (cue.show - delay_frames_of r (delay_of k)) else None) ≡ Some (cue.show - delay_frames_of r w.delay)) (sym is)
    (at w.delay some)
  where
    at : (delay : ℕ) → 0 < delay → (if nat_lt 0 delay then Some (cue.show - delay_frames_of r delay) else None) ≡ Some (cue.show - delay_frames_of r delay)
    at zero some = absurd (omega arith)
    at (suc delay) some = let here : nat_lt 0 (suc delay) ≡ true = grind (arith, nat_tests) in rw here refl

-- an undisturbed cue's caption is uncovered
uncovered_by : (r : Rate) (service hide other_hide : ℕ) (w v : WinCue) (cue other : Cue) → IsWinCue service w hide cue → IsWinCue service v other_hide other
    → IsUndisturbed r cue other → IsUncovered (window_caption r w cue) (window_caption r v other)
uncovered_by r service hide other_hide w v cue other is too un = record {
  hide = λ some. rw too.hide_is (hides some);
  starts = λ some. starts some;
}
  where
    frames : 0 < w.delay → AllByRecursion (λ (frame : ℕ). (window_caption r w cue).starts < frame → cue.show ≤ frame) (event_frames r other)
    frames some = subst (λ o. IfSome o (λ start. AllByRecursion (λ (frame : ℕ). start < frame → cue.show ≤ frame) (event_frames r other)))
        (delay_some r w cue is.kind_is some) un

    starts : 0 < w.delay → (window_caption r w cue).starts < (window_caption r v other).starts → cue.show ≤ (window_caption r v other).starts
    starts some = subst (λ n. (window_caption r w cue).starts < n → cue.show ≤ n) (starts_is r v other too.kind_is) (frames some).0

    hides : 0 < w.delay → (window_caption r w cue).starts < other_hide → cue.show ≤ other_hide
    hides some =
        (subst (λ o. AllByRecursion (λ (frame : ℕ). (window_caption r w cue).starts < frame → cue.show ≤ frame) (option_to_list o)) too.hide_is (frames some).1).0

-- a cue that keeps clear of one before it
follows : (r : Rate) (service former_hide hide : ℕ) (v w : WinCue) (former cue : Cue) → IsWinCue service v former_hide former → IsWinCue service w hide cue
    → KeepsClear r former cue → Follows (window_caption r v former) (window_caption r w cue)
follows r service former_hide hide v w former cue is too clear = record {
  in_order = clear.loaded;
  vacated = λ same. rw is.hide_is (vacated same);
  apart = λ some other. λ e. apart some other (sym e);
  uncovered = uncovered_by r service hide former_hide w v cue former too is clear.undisturbed;
  uncovering = uncovered_by r service former_hide hide v w former cue is too clear.undisturbing;
}
  where
    both : (a b : Bool) → a ≡ true → b ≡ true → (a && b) ≡ true
    both true true p q = refl
    both true false p q = q
    both false b p q = p

    one : w.id ≡ v.id → same_window cue.kind former.kind ≡ true
    one same =
        subst (λ k. same_window k former.kind ≡ true) (sym too.kind_is)
        (subst (λ k. same_window (Win w) k ≡ true) (sym is.kind_is)
        (both (w.service == v.service) (w.id == v.id) (eq-eqb w.service v.service (too.of_it ∙ sym is.of_it)) (eq-eqb w.id v.id same)))

    vacated : w.id ≡ v.id → former_hide ≤ cue.load
    vacated same = subst (λ o. IfSome o (λ hide. hide ≤ cue.load)) is.hide_is (clear.vacated (one same))

    apart : 0 < v.delay → 0 < w.delay → (window_caption r w cue).starts ≢ (window_caption r v former).starts
    apart some other =
        subst (λ o. IfSome o (λ other. (window_caption r w cue).starts ≢ other)) (delay_some r v former is.kind_is some)
        (subst (λ o. IfSome o (λ start. IfSome (delay_start r former) (λ other. start ≢ other))) (delay_some r w cue too.kind_is other) clear.starts)

-- a formed cue of the service is a window cue with a HIDE
win_cue : (service : ℕ) (w : WinCue) (cue : Cue) → IsCueFormed cue → cue.kind ≡ Win w → (w.service == service) ≡ true
    → (hide : ℕ) × IsWinCue service w hide cue
win_cue service w cue formed is on = at cue.hide refl (subst (λ k. IsOfKind k cue.hide cue.runs) is formed.kind)
  where
    at : (h : Option ℕ) → cue.hide ≡ h → IsOfKind (Win w) cue.hide cue.runs → (hide : ℕ) × IsWinCue service w hide cue
    at None none kind = absurd (let e = rw none at kind.1 in cc)
    at (Some hide) some kind = (hide, record { kind_is = is; of_it = eqb-true w.service service on; window = kind.0; hide_is = some })

module _ (l : Listing) (service : ℕ) where
  -- the captions after one follow it
  all_follow : (hide : ℕ) (v : WinCue) (former : Cue) → IsWinCue service v hide former → (cues : List Cue) → All IsCueFormed cues
      → AllByRecursion (KeepsClear l.rate former) (cues_of_service service cues)
      → AllByRecursion (Follows (window_caption l.rate v former)) (service_captions l.rate service cues)
  all_follow hide v former is [] formed clear = tt
  all_follow hide v former is (cue ∷ cues) formed clear =
      at cue.kind refl (all_follow hide v former is cues (All-tail IsCueFormed cue cues formed)) clear
    where
      more : (w : WinCue) → cue.kind ≡ Win w → (b : Bool) → (w.service == service) ≡ b
          → (AllByRecursion (KeepsClear l.rate former) (cues_of_service service cues)
          → AllByRecursion (Follows (window_caption l.rate v former)) (service_captions l.rate service cues))
          → AllByRecursion (KeepsClear l.rate former) (cond b (cue ∷ cues_of_service service cues) (cues_of_service service cues))
          → AllByRecursion (Follows (window_caption l.rate v former))
          (cons_option (if b then Some (window_caption l.rate w cue) else None) (service_captions l.rate service cues))
      more w kind_is true on rest clear =
          let own = win_cue service w cue (All-head IsCueFormed cue cues formed) kind_is on in
          (follows l.rate service hide own.0 v w former cue is own.1 clear.0, rest clear.1)
      more w kind_is false off rest clear = rest clear

      at : (k : Kind) → cue.kind ≡ k
          → (AllByRecursion (KeepsClear l.rate former) (cues_of_service service cues)
          → AllByRecursion (Follows (window_caption l.rate v former)) (service_captions l.rate service cues))
          → AllByRecursion (KeepsClear l.rate former) (cond (is_of_service service k) (cue ∷ cues_of_service service cues) (cues_of_service service cues))
          → AllByRecursion (Follows (window_caption l.rate v former)) (cons_option (caption_with l.rate service k cue) (service_captions l.rate service cues))
      at (Pop channel) kind_is rest clear = rest clear
      at (Paint channel) kind_is rest clear = rest clear
      at (Roll channel rows) kind_is rest clear = rest clear
      at (Win w) kind_is rest clear =
          more w kind_is (w.service == service) refl rest
          (subst (λ b. AllByRecursion (KeepsClear l.rate former) (cond b (cue ∷ cues_of_service service cues) (cues_of_service service cues)))
          (eqb_turned service w.service) clear)

  -- the captions of the service keep the rules
  all_kept : (cues : List Cue) → All IsCueFormed cues → AreInService l service (cues_of_service service cues)
      → AreKept l.rate l.frames (service_captions l.rate service cues)
  all_kept [] formed ruled = tt
  all_kept (cue ∷ cues) formed ruled = at cue.kind refl (all_kept cues (All-tail IsCueFormed cue cues formed)) ruled
    where
      more : (w : WinCue) → cue.kind ≡ Win w → (b : Bool) → (w.service == service) ≡ b
          → (AreInService l service (cues_of_service service cues) → AreKept l.rate l.frames (service_captions l.rate service cues))
          → AreInService l service (cond b (cue ∷ cues_of_service service cues) (cues_of_service service cues))
          → AreKept l.rate l.frames (cons_option (if b then Some (window_caption l.rate w cue) else None) (service_captions l.rate service cues))
      more w kind_is true on rest ruled =
          let own = win_cue service w cue (All-head IsCueFormed cue cues formed) kind_is on in (
            sound_caption l service own.0 w cue own.1 ruled.0,
            all_follow own.0 w cue own.1 cues (All-tail IsCueFormed cue cues formed) ruled.1,
            rest ruled.2,
          )
      more w kind_is false off rest ruled = rest ruled

      at : (k : Kind) → cue.kind ≡ k
          → (AreInService l service (cues_of_service service cues) → AreKept l.rate l.frames (service_captions l.rate service cues))
          → AreInService l service (cond (is_of_service service k) (cue ∷ cues_of_service service cues) (cues_of_service service cues))
          → AreKept l.rate l.frames (cons_option (caption_with l.rate service k cue) (service_captions l.rate service cues))
      at (Pop channel) kind_is rest ruled = rest ruled
      at (Paint channel) kind_is rest ruled = rest ruled
      at (Roll channel rows) kind_is rest ruled = rest ruled
      at (Win w) kind_is rest ruled =
          more w kind_is (w.service == service) refl rest
          (subst (λ b. AreInService l service (cond b (cue ∷ cues_of_service service cues) (cues_of_service service cues))) (eqb_turned service w.service) ruled)

-- the captions of each service of a list that keeps the rules do
pub captions_kept : (l : Listing) (service : ℕ) → IsFormed l → IsRuled l → AreKept l.rate l.frames (service_captions l.rate service l.cues)
captions_kept l service formed ruled = all_kept l service l.cues formed.cues ((lanes_ruled l ruled).services service)
