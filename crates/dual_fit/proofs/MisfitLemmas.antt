-- A second list that isn't fitted has one reason for it.
use Rattle.std.proofs.Common.{◌≡◌, ◌∙◌, ℕ, inl, inr, [], Some, sym}
use Rattle.cue_lists.proofs.InOrder.{same_share}
use Rattle.cue_lists.specs.Listing.{IsFormed, Listing}
use Rattle.cue_fit.specs.Fitted.{list_of}
use Rattle.dual_plans.proofs.OtherListLemmas.{alike_unjudged}
use Rattle.dual_plans.proofs.PairDecided.{judged_once}
use Rattle.dual_plans.specs.OtherList.{AreAlike, IsJudged}
use Rattle.dual_plans.specs.Verdict.{Lacking, Placed}
use Rattle.dual_plans.specs.declared.other_list.OtherField.{OtherField}
use Rattle.dual_fit.proofs.OneLemmas.{lacks_none}
use Rattle.dual_fit.specs.FittedBeside.{IsFittedBeside, LacksAlone, LacksTimes, StandTogether}

module _ (late : ℕ) (one two : Listing) (formed : IsFormed two) where
  -- what goes together without its cues is alike with them
  alike_with : AreAlike one (list_of two []) → AreAlike one two
  alike_with alike = record {
    rate = alike.rate;
    frames = alike.frames;
    unshared = λ service. sym (same_share two formed service) ∙ alike.unshared service;
  }

  pub alone_unjudged : (at : OtherField) (number : ℕ) → LacksAlone one two number → IsJudged one two (Some at) → ⊥
  alone_unjudged at number lacks is = alike_unjudged one two at (alike_with lacks.together.alike) is

  pub times_unjudged : (at : OtherField) (number : ℕ) → LacksTimes late one two number → IsJudged one two (Some at) → ⊥
  times_unjudged at number lacks is = alike_unjudged one two at (alike_with lacks.alone.together.alike) is

  pub alone_once : (a b : ℕ) → LacksAlone one two a → LacksAlone one two b → a ≡ b
  alone_once a b p q = judged_once one (list_of two []) p.together (Lacking a) (Lacking b) p.first q.first

  pub alone_or_not : (number : ℕ) → LacksAlone one two number → StandTogether one (list_of two []) → ⊥
  alone_or_not number lacks stand = judged_once one (list_of two []) lacks.together (Placed stand.placed) (Lacking number) stand.placement lacks.first

  -- and a fitted one has none
  pub fitted_unjudged : (at : OtherField) (fitted : Listing) → IsFittedBeside late one two fitted → IsJudged one two (Some at) → ⊥
  fitted_unjudged at fitted (inl same) is = alike_unjudged one two at same.0.together.alike is
  fitted_unjudged at fitted (inr moved) is = alike_unjudged one two at (alike_with moved.alone.together.alike) is

  pub fitted_not_alone : (number : ℕ) (fitted : Listing) → IsFittedBeside late one two fitted → LacksAlone one two number → ⊥
  fitted_not_alone number fitted (inl same) lacks = lacks.apart same.0
  fitted_not_alone number fitted (inr moved) lacks = alone_or_not number lacks moved.alone

  pub fitted_not_lacking : (number : ℕ) (fitted : Listing) → IsFittedBeside late one two fitted → LacksTimes late one two number → ⊥
  fitted_not_lacking number fitted is lacks = lacks_none late one two number fitted lacks is
