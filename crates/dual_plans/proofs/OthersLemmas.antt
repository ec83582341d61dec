-- Second lanes put other pairs into frames, and leave their blocks.
use Rattle.std.proofs.Common.{◌≡◌, ◌∙◌, ap, is_some, Option, Some, None, refl}
use Rattle.frame_carrier.specs.FrameBytes.{FrameBytes}
use Rattle.line21_codes.specs.declared.pairs.Pair.{Pair}
use Rattle.dual_plans.specs.Beside.{beside}
use Rattle.dual_plans.specs.Others.{LanesPutOtherPairs}

beside_some : (first second : Option Pair) → is_some (beside first second) ≡ is_some first
beside_some None second = refl
beside_some (Some first) None = refl
beside_some (Some first) (Some second) = refl

pub other_pairs_put : LanesPutOtherPairs
other_pairs_put firsts columns frame lanes makes = record {
  blocks = λ n. ap (λ (b : FrameBytes). b.blocks) (makes.column_is n);
  one = λ n. ap (λ (b : FrameBytes). is_some b.one) (makes.column_is n) ∙ beside_some (firsts n).one _;
  two = λ n. ap (λ (b : FrameBytes). is_some b.two) (makes.column_is n) ∙ beside_some (firsts n).two _;
}
