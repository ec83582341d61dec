-- The cues after which one is tried: in place of all those before it, the former cue of its channel alone.
use Rattle.std.proofs.Common.{◌≡◌, ◌∙◌, ◌↔◌, ℕ, suc, ◌+◌, ◌-◌, ◌<◌, ◌≤◌, ◌^◌, Bool, true, false, List, [], ◌∷◌, ◌++◌, length, take, drop, drop-cons, get_or, reverse, refl, sym, ap, subst, append_assoc, arith}
use Rattle.std.specs.Prelude.{All, Option, Some, None, Result, Ok, Err, find, if◌then◌else◌, option_to_list}
use Rattle.std.specs.List.{AllByRecursion}
use Rattle.std.proofs.lemmas.List.{length-reverse, reverse-append, reverse-reverse}
use Rattle.std.proofs.lemmas.List.Elements.{All-from_recursion, recursion_from_All}
use Rattle.cue_lists.proofs.ChannelCues.{All-reverse}
use Rattle.cue_lists.proofs.LaneCues.{reverse-cons}
use Rattle.cue_lists.specs.Cues.{IsCueFormed}
use Rattle.cue_lists.specs.Lane.{is_line21, kind_lane, on_lane}
use Rattle.cue_lists.specs.Listing.{IsFormed, Listing, most_cues}
use Rattle.cue_lists.specs.Printing.{in_order}
use Rattle.cue_lists.specs.Rules.Former.{former_cue}
use Rattle.cue_lists.specs.declared.cue.Cue.{Cue}
use Rattle.cue_lists.specs.declared.lane.Lane.{Lane}
use Rattle.lanes.specs.declared.planning.PlanFault.{PlanFault}
use Rattle.cue_fit.specs.Fitted.{HasPlan, MayShow, list_of}
use Rattle.cue_fit.specs.Shown.{hidden_in, load_after, takes_place, with_shown}
use Rattle.cue_fit.specs.Tries.{AreOff, ComesNext, IsLastOn, TellsPlan, near}
use Rattle.cue_fit.proofs.FittedLemmas.{length_shown}
use Rattle.cue_fit.proofs.FormedLemmas.{list_of_formed, with_shown_formed}
use Rattle.cue_fit.proofs.FormerLemmas.{hidden_after, last_found, none_found, off_back}
use Rattle.cue_fit.proofs.NearLemmas.{alone_plan, first_plan, longer_plan, own_plan}

-- the first cue on a lane, with those before it, which aren't, and those after it
record Found (on : Lane) (cues : List Cue) (former : Cue) : Type 0 where
  newer : List Cue
  older : List Cue
  split : cues ≡ newer ++ former ∷ older
  off : AreOff on newer
  here : on_lane on former ≡ true

found : (on : Lane) (cues : List Cue) (former : Cue) → find (on_lane on) cues ≡ Some former → Found on cues former
found on [] former is = cc
found on (cue ∷ cues) former is = at (on_lane on cue) refl is (found on cues former)
  where
    at : (b : Bool) → on_lane on cue ≡ b → (if b then Some cue else find (on_lane on) cues) ≡ Some former
        → (find (on_lane on) cues ≡ Some former → Found on cues former) → Found on (cue ∷ cues) former
    at true here same rest =
        let one : cue ≡ former = cc in
        record {
          newer = [];
          older = cues;
          split = ap (λ (c : Cue). c ∷ cues) one;
          off = tt;
          here = ap (λ (c : Cue). on_lane on c) (sym one) ∙ here;
        }
    at false here same rest =
        let w = rest same in
        record { newer = cue ∷ w.newer; older = w.older; split = ap (λ (l : List Cue). cue ∷ l) w.split; off = (here, w.off); here = w.here }

all_off : (on : Lane) (cues : List Cue) → find (on_lane on) cues ≡ None → AreOff on cues
all_off on [] is = tt
all_off on (cue ∷ cues) is = at (on_lane on cue) refl is (all_off on cues)
  where
    at : (b : Bool) → on_lane on cue ≡ b → (if b then Some cue else find (on_lane on) cues) ≡ None → (find (on_lane on) cues ≡ None → AreOff on cues)
        → AreOff on (cue ∷ cues)
    at true here same rest = cc
    at false here same rest = (here, rest same)

turned : (newer older : List Cue) (cue : Cue) → reverse (newer ++ cue ∷ older) ≡ reverse older ++ cue ∷ reverse newer
turned newer older cue =
    reverse-append newer (cue ∷ older)
    ∙ ap (λ (l : List Cue). l ++ reverse newer) (reverse-cons cue older)
    ∙ append_assoc (reverse older) (cue ∷ []) (reverse newer)

-- the HIDE of the former cue
abbrev hide_with : ℕ → Cue → Cue → Option ℕ
hide_with frame cue former = if takes_place cue (Some former) then Some frame else former.hide

abbrev shown_after : ℕ → Cue → Cue → Cue
shown_after frame cue former = record cue { load = load_after cue (Some former); show = frame }

module _ (frame : ℕ) (cue former : Cue) where
  shown_is : (cues newer older : List Cue) → former_cue cue cues ≡ Some former → cues ≡ newer ++ former ∷ older → AreOff (kind_lane cue.kind) newer
      → on_lane (kind_lane cue.kind) former ≡ true
      → with_shown frame cue cues ≡ shown_after frame cue former ∷ (newer ++ record former { hide = hide_with frame cue former } ∷ older)
  shown_is cues newer older is split off here =
      ap (λ (o : Option Cue). record cue { load = load_after cue o; show = frame } ∷ (if takes_place cue o then hidden_in frame (kind_lane cue.kind) cues else cues)) is
      ∙ ap (λ (l : List Cue). shown_after frame cue former ∷ l) (at (takes_place cue (Some former)))
    where
      at : (b : Bool) → (if b then hidden_in frame (kind_lane cue.kind) cues else cues)
          ≡ newer ++ record former { hide = if b then Some frame else former.hide } ∷ older
      at true =
          ap (λ (l : List Cue). hidden_in frame (kind_lane cue.kind) l) split
          ∙ hidden_after frame (kind_lane cue.kind) newer (former ∷ older) off
          ∙ ap (λ (l : List Cue). newer ++ l) (rw here refl)
      at false = split

  -- in file order
  order_is : (newer older : List Cue) → reverse (shown_after frame cue former ∷ (newer ++ record former { hide = hide_with frame cue former } ∷ older))
      ≡ reverse older ++ record former { hide = hide_with frame cue former } ∷ (reverse newer ++ shown_after frame cue former ∷ [])
  order_is newer older =
      reverse-cons (shown_after frame cue former) (newer ++ record former { hide = hide_with frame cue former } ∷ older)
      ∙ ap (λ (l : List Cue). l ++ shown_after frame cue former ∷ []) (turned newer older (record former { hide = hide_with frame cue former }))
      ∙ append_assoc (reverse older) (record former { hide = hide_with frame cue former } ∷ reverse newer) (shown_after frame cue former ∷ [])

-- a former cue is in its ranges
formed_in : (on : Lane) (cues : List Cue) (former : Cue) → AllByRecursion IsCueFormed cues → find (on_lane on) cues ≡ Some former → IsCueFormed former
formed_in on [] former these is = cc
formed_in on (x ∷ cues) former these is = by (on_lane on x) is (formed_in on cues former these.1)
  where
    by : (b : Bool) → (if b then Some x else find (on_lane on) cues) ≡ Some former → (find (on_lane on) cues ≡ Some former → IsCueFormed former) → IsCueFormed former
    by true same rest = let one : x ≡ former = cc in subst IsCueFormed one these.0
    by false same rest = rest same

module _ (list : Listing) (earlier : List Cue) (cue : Cue) (frame : ℕ) (formed : IsFormed list) (all : AllByRecursion IsCueFormed earlier)
    (few : length earlier < most_cues) (cue_formed : IsCueFormed cue) (small : frame < 2 ^ 32) (plan : HasPlan (list_of list earlier)) where
  shown_formed : (cues : List Cue) → AllByRecursion IsCueFormed cues → length cues < most_cues → IsFormed (list_of list (with_shown frame cue cues))
  shown_formed cues these less =
      list_of_formed list (with_shown frame cue cues) formed (with_shown_formed frame cue cues small cue_formed these)
      (let count = length_shown frame cue cues in omega (arith, count))

  -- after the former cue of its channel
  after_former : (former : Cue) → is_line21 cue.kind ≡ true → former_cue cue earlier ≡ Some former → IsCueFormed former
      → (MayShow list (former ∷ []) cue frame ↔ MayShow list earlier cue frame)
  after_former former line21 is former_formed =
      let w = found (kind_lane cue.kind) earlier former is in
      let alone : former_cue cue (former ∷ []) ≡ Some former = let here = w.here in rw here refl in
      let q = record former { hide = hide_with frame cue former } in
      let c = shown_after frame cue former in
      let long : reverse (with_shown frame cue earlier) ≡ reverse w.older ++ q ∷ (reverse w.newer ++ c ∷ []) =
      ap reverse (shown_is frame cue former earlier w.newer w.older is w.split w.off w.here) ∙ order_is frame cue former w.newer w.older in
      let short : reverse (with_shown frame cue (former ∷ [])) ≡ q ∷ c ∷ [] =
      ap reverse (shown_is frame cue former (former ∷ []) [] [] alone refl tt w.here) ∙ order_is frame cue former [] [] in
      let old : reverse earlier ≡ reverse w.older ++ former ∷ reverse w.newer = ap reverse w.split ∙ turned w.newer w.older former in
      let off = off_back (kind_lane cue.kind) w.newer w.off in
      let plans = λ (cues : List Cue). HasPlan (record (in_order list) { cues = cues }) in
      let formed_as = λ (cues : List Cue). IsFormed (record (in_order list) { cues = cues }) in
      let one : length (former ∷ []) < most_cues = omega (arith, few) in (
        λ own. subst plans (sym long)
            (longer_plan (in_order list) (reverse w.older) former c (reverse w.newer) (hide_with frame cue former) line21 w.here off
            (subst formed_as long (shown_formed earlier all few)) (subst plans old plan) (subst plans short own)),
        λ whole. subst plans (sym short)
            (own_plan (in_order list) (reverse w.older) former c (reverse w.newer) (hide_with frame cue former) line21 w.here off
            (subst formed_as short (shown_formed (former ∷ []) (former_formed, tt) one)) (subst plans long whole)),
      )

  -- where there is none
  after_none : is_line21 cue.kind ≡ true → former_cue cue earlier ≡ None → (MayShow list [] cue frame ↔ MayShow list earlier cue frame)
  after_none line21 is =
      let c = record cue { load = cue.load; show = frame } in
      let shown : with_shown frame cue earlier ≡ c ∷ earlier =
      ap (λ (o : Option Cue). record cue { load = load_after cue o; show = frame } ∷ (if takes_place cue o then hidden_in frame (kind_lane cue.kind) earlier else earlier)) is in
      let long : reverse (with_shown frame cue earlier) ≡ reverse earlier ++ c ∷ [] = ap reverse shown ∙ reverse-cons c earlier in
      let off = off_back (kind_lane cue.kind) earlier (all_off (kind_lane cue.kind) earlier is) in
      let plans = λ (cues : List Cue). HasPlan (record (in_order list) { cues = cues }) in
      let formed_as = λ (cues : List Cue). IsFormed (record (in_order list) { cues = cues }) in
      let none : length {A = Cue} [] < most_cues = omega (arith, few) in (
        λ own. subst plans (sym long) (first_plan (in_order list) (reverse earlier) c line21 off (subst formed_as long (shown_formed earlier all few)) plan own),
        λ whole. alone_plan (in_order list) (reverse earlier) c line21 off (shown_formed [] tt none) (subst plans long whole),
      )

  -- so after those that are near
  pub after_near : MayShow list (near cue earlier) cue frame ↔ MayShow list earlier cue frame
  after_near = at (is_line21 cue.kind) refl
    where
      by_former : is_line21 cue.kind ≡ true → (o : Option Cue) → former_cue cue earlier ≡ o → MayShow list (option_to_list o) cue frame ↔ MayShow list earlier cue frame
      by_former line21 None is = after_none line21 is
      by_former line21 (Some former) is = after_former former line21 is (formed_in (kind_lane cue.kind) earlier former all is)

      at : (b : Bool) → is_line21 cue.kind ≡ b
          → MayShow list (if b then option_to_list (former_cue cue earlier) else earlier) cue frame ↔ MayShow list earlier cue frame
      at false is = ((λ may. may), (λ may. may))
      at true is = by_former is (former_cue cue earlier) refl

  pub near_tells : (answer : Result Bool PlanFault) → TellsPlan (list_of list (with_shown frame cue (near cue earlier))) answer
      → TellsPlan (list_of list (with_shown frame cue earlier)) answer
  near_tells (Ok true) plan = after_near.0 plan
  near_tells (Ok false) none = λ may. none (after_near.1 may)
  near_tells (Err fault) is = is

-- the cues that are near, in file order: all of them are, or one or none
near_formed : (cue : Cue) (earlier : List Cue) → AllByRecursion IsCueFormed earlier → AllByRecursion IsCueFormed (near cue earlier)
near_formed cue earlier all = at (is_line21 cue.kind)
  where
    first : (cues : List Cue) → AllByRecursion IsCueFormed cues → AllByRecursion IsCueFormed (option_to_list (find (on_lane (kind_lane cue.kind)) cues))
    first [] these = tt
    first (x ∷ cues) these = by (on_lane (kind_lane cue.kind) x) (first cues these.1)
      where
        by : (b : Bool) → AllByRecursion IsCueFormed (option_to_list (find (on_lane (kind_lane cue.kind)) cues))
            → AllByRecursion IsCueFormed (option_to_list (if b then Some x else find (on_lane (kind_lane cue.kind)) cues))
        by true rest = (these.0, tt)
        by false rest = rest

    at : (b : Bool) → AllByRecursion IsCueFormed (if b then option_to_list (former_cue cue earlier) else earlier)
    at true = first earlier all
    at false = all

near_few : (cue : Cue) (earlier : List Cue) → length (near cue earlier) ≤ length earlier
near_few cue earlier = at (is_line21 cue.kind)
  where
    first : (cues : List Cue) → length (option_to_list (find (on_lane (kind_lane cue.kind)) cues)) ≤ length cues
    first [] = omega arith
    first (x ∷ cues) = by (on_lane (kind_lane cue.kind) x) (first cues)
      where
        by : (b : Bool) → length (option_to_list (find (on_lane (kind_lane cue.kind)) cues)) ≤ length cues
            → length (option_to_list (if b then Some x else find (on_lane (kind_lane cue.kind)) cues)) ≤ suc (length cues)
        by true rest = omega arith
        by false rest = omega arith

    at : (b : Bool) → length (if b then option_to_list (former_cue cue earlier) else earlier) ≤ length earlier
    at true = first earlier
    at false = omega arith

-- in file order
pub near_all : (cue : Cue) (earlier nears : List Cue) → reverse nears ≡ near cue (reverse earlier) → All IsCueFormed earlier → All IsCueFormed nears
near_all cue earlier nears same all =
    let is : reverse (near cue (reverse earlier)) ≡ nears = ap reverse (sym same) ∙ reverse-reverse nears in
    subst (All IsCueFormed) is
    (All-reverse IsCueFormed (near cue (reverse earlier))
    (All-from_recursion IsCueFormed (near cue (reverse earlier))
    (near_formed cue (reverse earlier) (recursion_from_All IsCueFormed (reverse earlier) (All-reverse IsCueFormed earlier all)))))

pub near_less : (cue : Cue) (earlier nears : List Cue) → reverse nears ≡ near cue (reverse earlier) → length nears ≤ length earlier
near_less cue earlier nears same =
    let a = length-reverse nears in
    let b = length-reverse earlier in
    let c = near_few cue (reverse earlier) in
    let d : length (reverse nears) ≡ length (near cue (reverse earlier)) = ap length same in
    omega (arith, a, b, c, d)

-- a plan's answer after the near cues is its answer after all
pub tells_all : (list : Listing) (earlier nears : List Cue) (cue : Cue) (frame : ℕ) (answer : Result Bool PlanFault) → ComesNext list earlier cue → frame < 2 ^ 32
    → reverse nears ≡ near cue (reverse earlier) → TellsPlan (list_of list (with_shown frame cue (reverse nears))) answer
    → TellsPlan (list_of list (with_shown frame cue (reverse earlier))) answer
tells_all list earlier nears cue frame answer next small same tells =
    near_tells list (reverse earlier) cue frame next.list_formed
    (recursion_from_All IsCueFormed (reverse earlier) (All-reverse IsCueFormed earlier next.cues_formed))
    (let count = length-reverse earlier in let few = next.few in omega (arith, count, few)) next.cue_formed small next.planned answer
    (subst (λ (l : List Cue). TellsPlan (list_of list (with_shown frame cue l)) answer) same tells)

-- a cue at its place among cues in file order, alone
pub one_of : (cues : List Cue) (i : ℕ) (d : Cue) → i < length cues → take (i + 1 - i) (drop i cues) ≡ get_or cues i d ∷ []
one_of cues i d within =
    let one : i + 1 - i ≡ 1 = omega arith in
    rw (one, drop-cons cues i d within) refl

-- which they are
pub near_one : (cue d : Cue) (cues : List Cue) (i : ℕ) → IsLastOn (kind_lane cue.kind) cues i → is_line21 cue.kind ≡ true
    → reverse (take (i + 1 - i) (drop i cues)) ≡ near cue (reverse cues)
near_one cue d cues i last line21 =
    ap reverse (one_of cues i d last.within) ∙ rw line21 (ap option_to_list (sym (last_found (kind_lane cue.kind) cues i last d)))

pub near_none : (cue : Cue) (cues : List Cue) → AreOff (kind_lane cue.kind) cues → is_line21 cue.kind ≡ true → [] ≡ near cue (reverse cues)
near_none cue cues off line21 = rw line21 (ap option_to_list (sym (none_found (kind_lane cue.kind) cues off)))

pub near_self : (cue : Cue) (earlier : List Cue) → is_line21 cue.kind ≡ false → earlier ≡ near cue earlier
near_self cue earlier line21 = rw line21 refl
