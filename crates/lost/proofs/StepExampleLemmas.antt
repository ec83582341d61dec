-- What the worked examples of channels in step need: frames but for one come in order, and of two captions none brings its channel back before
-- the SHOW of the second.
use Rattle.std.proofs.Common.{◌≡◌, ℕ, zero, suc, ◌+◌, ◌<◌, ◌≤◌, List, [], ◌∷◌, ◌++◌, reverse, ap, arith, get_or, subst}
use Rattle.std.specs.List.{AllByRecursion, range_with_len}
use Rattle.cue_lists.specs.declared.cue.Cue.{Cue}
use Rattle.cue_lists.specs.Rules.Examples.{pop}
use Rattle.line21_codes.specs.declared.channels.Chan.TheVariants.{Cc1}
use Rattle.lost.specs.ChannelLoss.{seen_with}
use Rattle.lost.specs.Delivered.{AreDelivered}

-- frames in a row
row_delivered : (since count : ℕ) → AreDelivered (range_with_len since count)
row_delivered since zero = tt
row_delivered since (suc zero) = tt
row_delivered since (suc (suc count)) = (omega arith, omega arith, row_delivered (since + 1) (suc count))

-- and those after a lost one
pub rows_delivered : (k n lost count : ℕ) → k + n ≡ lost → AreDelivered (range_with_len k n ++ range_with_len (suc lost) count)
rows_delivered k zero lost count is = row_delivered (suc lost) count
rows_delivered k (suc zero) lost zero is = tt
rows_delivered k (suc zero) lost (suc count) is = (omega arith, omega arith, row_delivered (suc lost) (suc count))
rows_delivered k (suc (suc n)) lost count is = (omega arith, omega arith, rows_delivered (k + 1) (suc n) lost count (omega arith))

-- no cue of two pop-on ones resynchronises their channel before the SHOW of the second, where the first is loaded from frame 0 on
pub none_of_two : (show hide load next_show next_hide lost frame : ℕ) (cue : Cue) (earlier later : List Cue)
    → pop Cc1 0 show hide ∷ pop Cc1 load next_show next_hide ∷ [] ≡ earlier ++ cue ∷ later → frame < next_show
    → AllByRecursion (λ (seen : Cue). lost < seen.load) (seen_with cue (reverse earlier)) → cue.show ≤ frame → ⊥
none_of_two show hide load next_show next_hide lost frame cue [] later are late loaded shown =
    let same : cue ≡ pop Cc1 0 show hide = cc in
    let low : lost < 0 = (subst (λ (c : Cue). AllByRecursion (λ (seen : Cue). lost < seen.load) (seen_with c [])) same loaded).0 in
    absurd (omega arith)
none_of_two show hide load next_show next_hide lost frame cue (one ∷ []) later are late loaded shown =
    let same : pop Cc1 load next_show next_hide ≡ cue = cc in
    let behind : next_show ≡ cue.show = ap (λ (c : Cue). c.show) same in
    absurd (omega arith)
none_of_two show hide load next_show next_hide lost frame cue (one ∷ two ∷ []) later are late loaded shown = cc
none_of_two show hide load next_show next_hide lost frame cue (one ∷ two ∷ three ∷ earlier) later are late loaded shown = cc

-- two rows of frames of which one has one more at a place aren't the same
pub one_apart : (came others : List ℕ) (n : ℕ) → came ≡ others → get_or came n 0 ≡ suc (get_or others n 0) → ⊥
one_apart came others n is more =
    let same : get_or came n 0 ≡ get_or others n 0 = ap (λ (l : List ℕ). get_or l n 0) is in
    absurd (omega arith)
