-- The verdict of `fit`: one list, or one status.
use Rattle.std.proofs.Common.{◌≡◌, ◌∙◌, ◌≤◌, ◌⊎◌, ℕ, List, Option, inl, inr, refl, sym, ap, subst}
use Rattle.std.specs.Prelude.{unwrap_or}
use Rattle.command_base.proofs.JudgedLemmas.{judged_made}
use Rattle.command_base.proofs.OneLemmas.{made_one}
use Rattle.command_base.proofs.WholeInputLemmas.{AreRefusals}
use Rattle.command_base.specs.Exact.{HasVerdict, IsOne}
use Rattle.command_base.specs.declared.status.Status.{Status}
use Rattle.command_base.specs.declared.status.Status.TheVariants as status
use Rattle.cue_fit.proofs.OneFitLemmas.{lacks_none, one_fit, one_lack}
use Rattle.cue_fit.proofs.DecidedLemmas.{fitted_formed, list_fitted}
use Rattle.cue_fit.proofs.PlannedLemmas.{fitted_has_plan, placed_in_order}
use Rattle.cue_fit.specs.Fitted.{IsFitted, LacksShow, most_late}
use Rattle.cue_list_commands.proofs.ListVerdictLemmas.{every_list_judged, good_not_refused, good_once, list_refused_once}
use Rattle.cue_list_commands.proofs.Refusals.{list_refusals}
use Rattle.cue_list_commands.specs.ListVerdict.{IsReadAgain}
use Rattle.cue_list_commands.specs.Accepted.{IsAccepted, IsGoodList, IsRefused, IsRefusedList, SpellGoodList}
use Rattle.cue_lists.proofs.InOrder.{in_order_formed, same_share}
use Rattle.cue_lists.proofs.PrintedFacts.{records_of-bytes}
use Rattle.cue_lists.proofs.SharesInOrder.{in_order_ruled}
use Rattle.cue_lists.specs.Listing.{IsFormed, Listing}
use Rattle.cue_lists.specs.Printing.{in_order, list_bytes}
use Rattle.cue_lists.specs.declared.head.Version.TheVariants as version
use Rattle.cue_lists.specs.declared.lane.Lane.{Lane}
use Rattle.cue_lists.specs.declared.lane.Lane.TheVariants.{Channel, Service}
use Rattle.frame_scheduler.specs.Placing.{IsEarliest}
use Rattle.frame_scheduler.specs.Planned.{IsLanePlaced, Placement, captions_in, chunks_in}
use Rattle.frame_scheduler.specs.ServiceRoom.{caption_lane}
use Rattle.fit_commands.specs.FitVerdict.{FitVerdict, IsFittedAs, IsRefusedFit}
use Rattle.fit_commands.specs.FitLaws.{EveryListIsFitted, FitRefusalIsOne, FittedIsAccepted, FittedIsNotRefused, FittingIsOne}

pub fitted_once : FittingIsOne
fitted_once late bytes one other first second =
    let same = good_once bytes second.list first.list second.good first.good in
    one_fit late first.list one other first.holds (subst (λ (l : Listing). IsFitted late l other) same second.holds)

-- why a list is refused
abbrev Cause : ℕ → List ℕ → Status → Type 0
Cause late bytes answer = IsRefusedList bytes answer ⊎ ((cue : ℕ) × SpellGoodList bytes (λ list. LacksShow late list cue) × (answer ≡ status.NoRoom cue))

cause_of : (late : ℕ) (bytes : List ℕ) (answer : Status) → IsRefusedFit late bytes answer → Cause late bytes answer
cause_of late bytes (status.NoRoom cue) lacks = inr (cue, lacks, refl)
cause_of late bytes _ refused = inl refused

pub not_refused : FittedIsNotRefused
not_refused late bytes fitted answer is refused = at (cause_of late bytes answer refused)
  where
    at : Cause late bytes answer → ⊥
    at (inl other) = good_not_refused bytes is.list answer is.good other
    at (inr lack) =
        let lacks = lack.1 in
        let same = good_once bytes lacks.list is.list lacks.good is.good in
        lacks_none late is.list lack.0 fitted (subst (λ (l : Listing). LacksShow late l lack.0) same lacks.holds) is.holds

pub refused_once : FitRefusalIsOne
refused_once late bytes one other first second = at (cause_of late bytes one first) (cause_of late bytes other second)
  where
    at : Cause late bytes one → Cause late bytes other → one ≡ other
    at (inl a) (inl b) = list_refused_once bytes one other a b
    at (inl a) (inr b) = let lacks = b.1 in absurd (good_not_refused bytes lacks.list one lacks.good a)
    at (inr a) (inl b) = let lacks = a.1 in absurd (good_not_refused bytes lacks.list other lacks.good b)
    at (inr a) (inr b) =
        let one_lacks = a.1 in
        let other_lacks = b.1 in
        let same = good_once bytes other_lacks.list one_lacks.list other_lacks.good one_lacks.good in
        a.2 ∙ ap status.NoRoom (one_lack late one_lacks.list a.0 b.0 one_lacks.holds (subst (λ (l : Listing). LacksShow late l b.0) same other_lacks.holds)) ∙ sym b.2

-- what is written of a fitted list is accepted
pub fitted_accepted : FittedIsAccepted
fitted_accepted late bytes fitted most is within =
    let formed : IsFormed fitted = fitted_formed late is.list most is.good.spelled.formed is.good.ruled fitted is.holds in
    let plan = fitted_has_plan late is.list fitted is.holds in (
      plan.placed,
      record {
        good = record {
          within = within;
          spelled = record {
            version = version.Two;
            are = records_of-bytes version.Two (in_order fitted);
            formed = in_order_formed fitted formed;
            allowed = tt;
          };
          ruled = in_order_ruled fitted formed plan.ruled;
        };
        placement = λ on. placed_in_order fitted plan.placed formed on (plan.placement on);
      },
    )

-- every list is fitted, or refused
pub every_fitted : EveryListIsFitted
every_fitted late bytes most = at (every_list_judged bytes)
  where
    good : (list : Listing) → IsGoodList bytes list → ((fitted : Listing) × IsFittedAs late bytes fitted) ⊎ ((answer : Status) × IsRefusedFit late bytes answer)
    good list is =
        elim (list_fitted late list most is.spelled.formed is.ruled) [
          | inl there ↦ inl (there.0, record { list = list; good = is; holds = there.1 })
          | inr lack ↦ inr (status.NoRoom lack.0, record { list = list; good = is; holds = lack.1 })
        ]

    refused : (answer : Status) → IsRefused bytes answer → ((fitted : Listing) × IsFittedAs late bytes fitted) ⊎ ((answer : Status) × IsRefusedFit late bytes answer)
    refused (status.NoRoom cue) lacks = good lacks.list lacks.good
    refused (status.Limit which) is = inr (status.Limit which, is)
    refused (status.Malformed place why) is = inr (status.Malformed place why, is)
    refused (status.Rule fault) is = inr (status.Rule fault, is)
    refused status.Ok is = absurd is
    refused status.Usage is = absurd is
    refused status.ReadFault is = absurd is
    refused status.WriteFault is = absurd is
    refused status.Memory is = absurd is
    refused (status.Differs finding) is = absurd is
    refused (status.Short frames) is = absurd is
    refused (status.NoRoomBeside cue) is = absurd is
    refused (status.NoXdsRoom packet) is = absurd is
    refused (status.Misfit misfit) is = absurd is

    at : ((list : Listing) × (placed : Placement) × IsAccepted bytes list placed) ⊎ ((answer : Status) × IsRefused bytes answer)
        → ((fitted : Listing) × IsFittedAs late bytes fitted) ⊎ ((answer : Status) × IsRefusedFit late bytes answer)
    at (inl accepted) = good accepted.0 accepted.2.good
    at (inr refusal) = refused refusal.0 refusal.1

-- so of every input `fit` makes one status
fit_refusals : (late : ℕ) → AreRefusals (IsRefusedFit late)
fit_refusals late bytes (status.NoRoom cue) refused = tt
fit_refusals late bytes answer refused = list_refusals bytes answer refused

pub fit_one : (late : ℕ) → IsOne (λ aside. FitVerdict late)
fit_one late aside = made_one (IsFittedAs late) list_bytes IsReadAgain (IsRefusedFit late) (not_refused late) (refused_once late)

pub every_fit : (late : ℕ) → late ≤ most_late → HasVerdict (λ aside. FitVerdict late)
every_fit late most aside input bytes =
    judged_made (IsFittedAs late) list_bytes IsReadAgain (IsRefusedFit late) (fit_refusals late)
    (λ bytes fitted is. records_of-bytes version.Two (in_order fitted)) input (every_fitted late input most)
