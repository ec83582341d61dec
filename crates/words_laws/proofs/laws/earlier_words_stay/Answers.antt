use Rattle.std.proofs.Common.{arith}
use Rattle.live_frames.proofs.ColumnFronts.{words_share_front}
use Rattle.words_laws.proofs.laws.earlier_words_stay.Goals as goal

pub returns : goal.returns
returns c bytes others list frames more placed moved one two k loaded within within_other =
    words_share_front list frames more placed moved k (record {
      formed = two.good.spelled.formed;
      ruled = two.good.ruled;
      loaded = loaded;
      placement = one.placement;
      longer_placement = two.placement;
    }) k (omega arith) within within_other
