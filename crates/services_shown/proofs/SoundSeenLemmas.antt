-- What the pairs of columns show is what a receiver shows.
use Rattle.std.proofs.Common.{ap, arith, suc, List, reverse}
use Rattle.line21_codes.specs.Channels.{data_channel_of, field_of_channel}
use Rattle.line21_codes.specs.declared.pairs.Pair.{Pair}
use Rattle.line21_screen.specs.Fields.{channel}
use Rattle.line21_screen.specs.Meaning.{after}
use Rattle.services_shown.specs.Showing.{ColumnsAreSeen}

pub columns_seen : ColumnsAreSeen
columns_seen rate n columns carried frame below chan =
    ap (λ (pairs : List Pair). (channel (data_channel_of chan) (after (field_of_channel chan) (reverse pairs))).displayed)
    (carried.received (field_of_channel chan) (suc frame) (omega arith))
