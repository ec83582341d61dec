use Rattle.std.proofs.Common.{◌≡◌, ◌+◌, ◌-◌, ap, arith, drop, length, replicate}
use Rattle.cc_data.specs.Triplets.{filler}
use Rattle.rate_convert.proofs.HalvesLemmas.{ten_are}
use Rattle.rate_convert.proofs.halves.ten_triplets.Goals as goal

pub returns : goal.returns
returns c =
    let same : length c.args.channel.now + 1 - 1 ≡ length c.args.channel.now = omega arith in
    ten_are c.args.field.now c.args.channel.now c.copy_from_slice.new.self (drop (length c.args.channel.now + 1 - 1) (replicate 9 filler)) c.first_or_filler.result
    c.first_or_filler.ensures c.copy_from_slice.ensures.after (ap (λ n. drop n (replicate 9 filler)) same)
