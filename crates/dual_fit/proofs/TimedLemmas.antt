-- The cues so far with one more at its times, in file order.
use Rattle.std.proofs.Common.{◌≡◌, ◌∙◌, ℕ, suc, ◌<◌, ◌≤◌, ◌^◌, Bool, true, false, List, [], ◌∷◌, ◌++◌, length, get_or, set, reverse, Option, Some, None, refl, sym, ap, subst, arith}
use Rattle.std.specs.Prelude.{All, if◌then◌else◌}
use Rattle.std.specs.List.{AllByRecursion}
use Rattle.std.proofs.lemmas.List.{append-nil, length-reverse, reverse-reverse}
use Rattle.std.proofs.lemmas.List.Elements.{All-from_recursion, recursion_from_All}
use Rattle.cue_lists.proofs.ChannelCues.{All-reverse}
use Rattle.cue_lists.proofs.LaneCues.{reverse-cons}
use Rattle.cue_lists.specs.Cues.{IsCueFormed, IsOfKind}
use Rattle.cue_lists.specs.Lane.{kind_lane}
use Rattle.cue_lists.specs.Listing.{most_frames}
use Rattle.cue_lists.specs.Rules.Former.{former_cue}
use Rattle.cue_lists.specs.declared.cue.Cue.{Cue}
use Rattle.cue_lists.specs.declared.lane.Lane.{Lane}
use Rattle.cue_fit.specs.Fitted.{most_late}
use Rattle.cue_fit.specs.Shown.{hidden_in, load_after, takes_place}
use Rattle.cue_fit.specs.Tries.{AreOff, IsLastOn}
use Rattle.cue_fit.proofs.FittedLemmas.{length_hidden}
use Rattle.cue_fit.proofs.FormedLemmas.{hidden_formed, small_load}
use Rattle.cue_fit.proofs.FormerLemmas.{hidden_after, last_found, last_hidden, none_found, off_back}
use Rattle.cue_fit.proofs.ShownLemmas.{formed_hidden, formed_shown}
use Rattle.dual_fit.specs.FittedBeside.{IsHideWithin}
use Rattle.dual_fit.specs.Timed.{timed, with_timed}
use Rattle.dual_fit.specs.declared.times.Times.{Times}

-- the cue is put after the others
pub added : (takes : Bool) (times : Times) (cue : Cue) (cues moved : List Cue)
    → moved ≡ reverse (if takes then hidden_in times.show (kind_lane cue.kind) (reverse cues) else reverse cues)
    → moved ++ timed times cue (reverse cues) ∷ [] ≡ reverse (with_timed takes times cue (reverse cues))
added takes times cue cues moved is =
    ap (λ (l : List Cue). l ++ timed times cue (reverse cues) ∷ []) is
    ∙ sym (reverse-cons (timed times cue (reverse cues)) (if takes then hidden_in times.show (kind_lane cue.kind) (reverse cues) else reverse cues))

-- the former cue is the last one on its lane, or there is none
module _ (cue : Cue) (cues : List Cue) (index : ℕ) (last : IsLastOn (kind_lane cue.kind) cues index) (d : Cue) where
  former_is : former_cue cue (reverse cues) ≡ Some (get_or cues index d)
  former_is = last_found (kind_lane cue.kind) cues index last d

  pub load_is : load_after cue (Some (get_or cues index d)) ≡ load_after cue (former_cue cue (reverse cues))
  load_is = ap (λ (o : Option Cue). load_after cue o) (sym former_is)

  pub takes_is : takes_place cue (Some (get_or cues index d)) ≡ takes_place cue (former_cue cue (reverse cues))
  takes_is = ap (λ (o : Option Cue). takes_place cue o) (sym former_is)

module _ (cue : Cue) (cues : List Cue) (off : AreOff (kind_lane cue.kind) cues) where
  none_is : former_cue cue (reverse cues) ≡ None
  none_is = none_found (kind_lane cue.kind) cues off

  pub first_load : cue.load ≡ load_after cue (former_cue cue (reverse cues))
  first_load = ap (λ (o : Option Cue). load_after cue o) (sym none_is)

  pub takes_none : false ≡ takes_place cue (former_cue cue (reverse cues))
  takes_none = ap (λ (o : Option Cue). takes_place cue o) (sym none_is)

-- where no cue is on the lane, none is hidden
pub none_hidden : (on : Lane) (cues : List Cue) (frame : ℕ) → AreOff on cues → cues ≡ reverse (hidden_in frame on (reverse cues))
none_hidden on cues frame off =
    let all : hidden_in frame on (reverse cues ++ []) ≡ reverse cues ++ [] = hidden_after frame on (reverse cues) [] (off_back on cues off) in
    let same : hidden_in frame on (reverse cues) ≡ reverse cues = rw (append-nil (reverse cues)) at all in
    sym (ap (λ (l : List Cue). reverse l) same ∙ reverse-reverse cues)

pub one_hidden : (on : Lane) (cues : List Cue) (index : ℕ) (last : IsLastOn on cues index) (d : Cue) (frame : ℕ)
    → set cues index (record (get_or cues index d) { hide = Some frame }) ≡ reverse (hidden_in frame on (reverse cues))
one_hidden on cues index last d frame = sym (last_hidden on cues index last d frame)

-- they are one more
pub length_with : (takes : Bool) (times : Times) (cue : Cue) (earlier : List Cue) → length (with_timed takes times cue earlier) ≡ suc (length earlier)
length_with takes times cue earlier = at takes
  where
    at : (b : Bool) → suc (length (if b then hidden_in times.show (kind_lane cue.kind) earlier else earlier)) ≡ suc (length earlier)
    at true = ap suc (length_hidden times.show (kind_lane cue.kind) earlier)
    at false = refl

pub length_timed : (takes : Bool) (times : Times) (cue : Cue) (cues : List Cue) → length (reverse (with_timed takes times cue (reverse cues))) ≡ suc (length cues)
length_timed takes times cue cues =
    length-reverse (with_timed takes times cue (reverse cues)) ∙ length_with takes times cue (reverse cues) ∙ ap suc (length-reverse cues)

-- and in their ranges
module _ (takes : Bool) (times : Times) (cue : Cue) (timed_formed : IsCueFormed (record cue { show = times.show; hide = times.hide })) where
  pub all_formed : (earlier : List Cue) → AllByRecursion IsCueFormed earlier → AllByRecursion IsCueFormed (with_timed takes times cue earlier)
  all_formed earlier formed = (
    record {
      load = small_load (kind_lane cue.kind) cue earlier timed_formed.load formed;
      show = timed_formed.show;
      hide = timed_formed.hide;
      some = timed_formed.some;
      kind = timed_formed.kind;
    },
    moved takes,
  )
    where
      moved : (b : Bool) → AllByRecursion IsCueFormed (if b then hidden_in times.show (kind_lane cue.kind) earlier else earlier)
      moved true = hidden_formed times.show (kind_lane cue.kind) earlier timed_formed.show formed
      moved false = formed

  pub added_formed : (cues : List Cue) → All IsCueFormed cues → All IsCueFormed (reverse (with_timed takes times cue (reverse cues)))
  added_formed cues all =
      All-reverse IsCueFormed (with_timed takes times cue (reverse cues))
      (All-from_recursion IsCueFormed (with_timed takes times cue (reverse cues))
      (all_formed (reverse cues) (recursion_from_All IsCueFormed (reverse cues) (All-reverse IsCueFormed cues all))))

abbrev pub IsSmallOrNone : Cue → Option ℕ → Type 0
IsSmallOrNone cue None = cue.hide ≡ None
IsSmallOrNone cue (Some hide) = hide < 2 ^ 32

-- a cue in its ranges, at other times in theirs
pub formed_timed : (cue : Cue) (show : ℕ) (hide : Option ℕ) → IsCueFormed cue → show < 2 ^ 32 → IsSmallOrNone cue hide
    → IsCueFormed (record cue { show = show; hide = hide })
formed_timed cue show None formed small none =
    record { load = formed.load; show = small; hide = tt; some = formed.some; kind = subst (λ (h : Option ℕ). IsOfKind cue.kind h cue.runs) none formed.kind }
formed_timed cue show (Some hide) formed small low = formed_hidden (record cue { show = show }) hide low (formed_shown cue cue.load show formed.load small formed)

-- a cue in its ranges with times early enough to be moved
pub record IsEarly (cue : Cue) : Type 0 where
  pub formed : IsCueFormed cue
  pub shown : cue.show ≤ most_frames
  pub hidden : (hide : ℕ) → cue.hide ≡ Some hide → hide ≤ most_frames

small_hide : (late : ℕ) (cue : Cue) (show : ℕ) (hide : Option ℕ) → IsEarly cue → late ≤ most_late → IsHideWithin late cue show hide → IsSmallOrNone cue hide
small_hide late cue show None early most within = within
small_hide late cue show (Some hide) early most within =
    let low = early.hidden within.0 within.1 in
    let end = within.3 in omega (arith, low, end, most)

pub early_formed : (late : ℕ) (cue : Cue) (show : ℕ) (hide : Option ℕ) → IsEarly cue → late ≤ most_late → show < 2 ^ 32 → IsHideWithin late cue show hide
    → IsCueFormed (record cue { show = show; hide = hide })
early_formed late cue show hide early most small within = formed_timed cue show hide early.formed small (small_hide late cue show hide early most within)

pub with_timed_formed : (takes : Bool) (times : Times) (cue : Cue) (earlier : List Cue) (late : ℕ) → IsEarly cue → late ≤ most_late → times.show < 2 ^ 32
    → IsHideWithin late cue times.show times.hide → AllByRecursion IsCueFormed earlier → AllByRecursion IsCueFormed (with_timed takes times cue earlier)
with_timed_formed takes times cue earlier late early most small within all =
    all_formed takes times cue (early_formed late cue times.show times.hide early most small within) earlier all
