use Rattle.std.proofs.Common.{◌≡◌, ℕ, inl, inr, [], ◌∷◌, arith, refl}
use Rattle.std.specs.List.{range_with_len}
use Rattle.cue_lists.specs.Rules.Tests.{verdicts}
use Rattle.cue_lists.proofs.RulesSaid.{faultless_ruled}
use Rattle.line21_codes.specs.declared.channels.Chan.TheVariants.{Cc1}
use Rattle.lost.proofs.StepExampleLemmas.{none_of_two, one_apart, rows_delivered}
use Rattle.lost.specs.Recovered.{IsChannelBack, IsChannelInStep}
use Rattle.lost.specs.StepExamples.{all_but, fast_cut, fast_list, fast_whole}
use Rattle.lost.proofs.step_laws.steps_at_59_94.Goals as goal

pub returns-clause-ruled : goal.returns-clause-ruled
unfolding verdicts
returns-clause-ruled c = faultless_ruled _ (refl, (refl, (refl, (refl, tt))))

pub returns-clause-delivered : goal.returns-clause-delivered
returns-clause-delivered c = rows_delivered 0 7 7 29 refl

pub returns-clause-before : goal.returns-clause-before
returns-clause-before c = inl refl

-- frame 7 is lost, and neither caption brings the channel back by then
not_back : (lost : ℕ) → IsChannelBack Cc1 fast_list.cues 35 lost → ⊥
not_back lost (inl none) = let wrong : fast_cut ∷ fast_whole ∷ [] ≡ [] = none in cc
not_back lost (inr (cue, again, shown)) =
    none_of_two 16 24 20 36 40 lost 35 cue again.earlier again.later again.stands (omega arith) again.loaded shown

not_yet : IsChannelInStep fast_list Cc1 (all_but 7 35) 35 → ⊥
not_yet (inl none) = one_apart (all_but 7 35) (range_with_len 0 36) 7 none refl
not_yet (inr by) = not_back by.lost by.holds

pub returns-clause-cut : goal.returns-clause-cut
returns-clause-cut c = not_yet

pub returns-clause-again : goal.returns-clause-again
returns-clause-again c = inr (record {
  lost = 7;
  last = record {
    before = range_with_len 0 7;
    earlier = (omega arith, (omega arith, (omega arith, (omega arith, (omega arith, (omega arith, (omega arith, tt)))))));
    count = 28;
    since = refl;
    up_to = refl;
  };
  holds = inr (fast_whole, record { earlier = fast_cut ∷ []; later = []; stands = refl; loaded = (omega arith, tt) }, omega arith);
})

pub returns-clause-window : goal.returns-clause-window
returns-clause-window c = inr (record {
  lost = 7;
  last = record {
    before = range_with_len 0 7;
    earlier = (omega arith, (omega arith, (omega arith, (omega arith, (omega arith, (omega arith, (omega arith, tt)))))));
    count = 24;
    since = refl;
    up_to = refl;
  };
  holds = (λ up. omega arith, (λ up. omega arith, tt));
})
