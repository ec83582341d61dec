use Rattle.std.proofs.Common.{◌≡◌, ℕ, inl, inr, [], ◌∷◌, arith, refl}
use Rattle.std.specs.List.{range_with_len}
use Rattle.cue_lists.specs.Rules.Tests.{verdicts}
use Rattle.cue_lists.proofs.RulesSaid.{faultless_ruled}
use Rattle.line21_codes.specs.declared.channels.Chan.TheVariants.{Cc1}
use Rattle.lost.proofs.StepExampleLemmas.{none_of_two, one_apart, rows_delivered}
use Rattle.lost.specs.Recovered.{IsChannelBack, IsChannelInStep}
use Rattle.lost.specs.StepExamples.{all_but, slow_cut, slow_list, slow_whole}
use Rattle.lost.proofs.step_laws.steps_at_29_97.Goals as goal

pub returns-clause-ruled : goal.returns-clause-ruled
unfolding verdicts
returns-clause-ruled c = faultless_ruled _ (refl, (refl, (refl, (refl, tt))))

pub returns-clause-delivered : goal.returns-clause-delivered
returns-clause-delivered c = rows_delivered 0 3 3 15 refl

pub returns-clause-before : goal.returns-clause-before
returns-clause-before c = inl refl

-- frame 3 is lost, and neither caption brings the channel back by then
not_back : (lost : ℕ) → IsChannelBack Cc1 slow_list.cues 17 lost → ⊥
not_back lost (inl none) = let wrong : slow_cut ∷ slow_whole ∷ [] ≡ [] = none in cc
not_back lost (inr (cue, again, shown)) =
    none_of_two 8 12 10 18 20 lost 17 cue again.earlier again.later again.stands (omega arith) again.loaded shown

not_yet : IsChannelInStep slow_list Cc1 (all_but 3 17) 17 → ⊥
not_yet (inl none) = one_apart (all_but 3 17) (range_with_len 0 18) 3 none refl
not_yet (inr by) = not_back by.lost by.holds

pub returns-clause-cut : goal.returns-clause-cut
returns-clause-cut c = not_yet

pub returns-clause-again : goal.returns-clause-again
returns-clause-again c = inr (record {
  lost = 3;
  last = record {
    before = range_with_len 0 3;
    earlier = (omega arith, (omega arith, (omega arith, tt)));
    count = 14;
    since = refl;
    up_to = refl;
  };
  holds = inr (slow_whole, record { earlier = slow_cut ∷ []; later = []; stands = refl; loaded = (omega arith, tt) }, omega arith);
})

pub returns-clause-window : goal.returns-clause-window
returns-clause-window c = inr (record {
  lost = 3;
  last = record {
    before = range_with_len 0 3;
    earlier = (omega arith, (omega arith, (omega arith, tt)));
    count = 12;
    since = refl;
    up_to = refl;
  };
  holds = (λ up. omega arith, (λ up. omega arith, tt));
})
