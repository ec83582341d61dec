-- A frame with second lanes.
use Rattle.std.proofs.Common.{◌≡◌, ℕ, ◌+◌, Option, sym, ap, ◌∙◌}
use Rattle.cc_base.specs.declared.rate.Rate.{Rate}
use Rattle.line21_codes.specs.declared.channels.Chan.TheVariants.{Cc1, Cc3}
use Rattle.line21_codes.specs.declared.pairs.Pair.{Pair}
use Rattle.cue_lists.specs.Cadences.{cadence_of, slot_from}
use Rattle.cue_lists.specs.Cadence.{Cadence}
use Rattle.frame_carrier.specs.Columns.{Columns}
use Rattle.frame_carrier.proofs.NextFrameLemmas.{behind_at, given_is}
use Rattle.lanes.specs.FieldPlan.{PlannedField, behind_frame, given_in, lane_pair}
use Rattle.frame_carrier.specs.FrameBytes.{FrameBytes}
use Rattle.dual_plans.specs.Beside.{beside}
use Rattle.dual_plans.specs.SecondLanes.{LaysBoth}
use Rattle.dual_plans.specs.declared.second_lanes.SecondLanes.{SecondLanes}

-- one frame more: the parts of the object, before and after
pub next_both : (firsts columns : Columns) (frame : ℕ) (old new : SecondLanes) (bytes : FrameBytes) (one two : Option Pair) (c d : Cadence) → LaysBoth firsts columns frame old
    → bytes ≡ firsts frame → c ≡ cadence_of old.rate Cc1 → d ≡ cadence_of old.rate Cc3
    → one ≡ beside bytes.one (given_in c old.frame old.one) → two ≡ beside bytes.two (given_in d old.frame old.two)
    → new.one ≡ behind_frame c old.frame old.one → new.two ≡ behind_frame d old.frame old.two → new.rate ≡ old.rate → new.frame ≡ old.frame + 1
    → (record { one = one; two = two; blocks = bytes.blocks } ≡ columns frame) × LaysBoth firsts columns (frame + 1) new
next_both firsts columns frame old new bytes one two c d makes bytes_are c_is d_is one_is two_is new_one new_two rate next =
    let one_pair : given_in c old.frame old.one ≡ lane_pair (cadence_of old.rate Cc1) old.one frame =
    ap (λ x. given_in x old.frame old.one) c_is ∙ ap (λ f. given_in (cadence_of old.rate Cc1) f old.one) makes.frame_is
    ∙ given_is (cadence_of old.rate Cc1) old.one frame makes.one_at in
    let two_pair : given_in d old.frame old.two ≡ lane_pair (cadence_of old.rate Cc3) old.two frame =
    ap (λ x. given_in x old.frame old.two) d_is ∙ ap (λ f. given_in (cadence_of old.rate Cc3) f old.two) makes.frame_is
    ∙ given_is (cadence_of old.rate Cc3) old.two frame makes.two_at in (
      ap (λ o. record { one = o; two = two; blocks = bytes.blocks })
          (one_is ∙ ap (λ (b : FrameBytes). beside b.one (given_in c old.frame old.one)) bytes_are ∙ ap (beside (firsts frame).one) one_pair)
          ∙ ap (λ o. record { one = beside (firsts frame).one (lane_pair (cadence_of old.rate Cc1) old.one frame); two = o; blocks = bytes.blocks })
          (two_is ∙ ap (λ (b : FrameBytes). beside b.two (given_in d old.frame old.two)) bytes_are ∙ ap (beside (firsts frame).two) two_pair)
          ∙ ap (λ (b : FrameBytes). record {
            one = beside (firsts frame).one (lane_pair (cadence_of old.rate Cc1) old.one frame);
            two = beside (firsts frame).two (lane_pair (cadence_of old.rate Cc3) old.two frame);
            blocks = b.blocks;
          }) bytes_are
          ∙ sym (makes.column_is frame),
      record {
        frame_is = next ∙ ap (λ f. f + 1) makes.frame_is;
        one_at = ap (λ (p : PlannedField). p.slot) new_one ∙ ap (λ x. (behind_frame x old.frame old.one).slot) c_is
            ∙ ap (λ f. (behind_frame (cadence_of old.rate Cc1) f old.one).slot) makes.frame_is
            ∙ behind_at (cadence_of old.rate Cc1) old.one frame makes.one_at ∙ ap (λ r. slot_from (cadence_of r Cc1) (frame + 1)) (sym rate);
        two_at = ap (λ (p : PlannedField). p.slot) new_two ∙ ap (λ x. (behind_frame x old.frame old.two).slot) d_is
            ∙ ap (λ f. (behind_frame (cadence_of old.rate Cc3) f old.two).slot) makes.frame_is
            ∙ behind_at (cadence_of old.rate Cc3) old.two frame makes.two_at ∙ ap (λ r. slot_from (cadence_of r Cc3) (frame + 1)) (sym rate);
        column_is = λ n. makes.column_is n ∙ ap (λ (r : Rate). record {
          one = beside (firsts n).one (lane_pair (cadence_of r Cc1) old.one n);
          two = beside (firsts n).two (lane_pair (cadence_of r Cc3) old.two n);
          blocks = (firsts n).blocks;
        }) (sym rate)
            ∙ ap (λ o. record {
              one = beside (firsts n).one o;
              two = beside (firsts n).two (lane_pair (cadence_of new.rate Cc3) old.two n);
              blocks = (firsts n).blocks;
            }) (same_pair (cadence_of new.rate Cc1) c old.frame n old.one new.one new_one)
            ∙ ap (λ o. record {
              one = beside (firsts n).one (lane_pair (cadence_of new.rate Cc1) new.one n);
              two = beside (firsts n).two o;
              blocks = (firsts n).blocks;
            }) (same_pair (cadence_of new.rate Cc3) d old.frame n old.two new.two new_two);
      },
    )
  where
    -- a lane's pairs are the same after a frame
    same_pair : (e c : Cadence) (f n : ℕ) (p q : PlannedField) → q ≡ behind_frame c f p → lane_pair e p n ≡ lane_pair e q n
    same_pair e c f n p q is = sym (ap (λ (x : PlannedField). lane_pair e x n) is)
