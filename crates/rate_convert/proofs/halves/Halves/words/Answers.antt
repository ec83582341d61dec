use Rattle.std.proofs.Common.{◌+◌, ◌*◌, ◌%◌, arith}
use Rattle.rate_convert.proofs.HalvesLemmas.{words_are}
use Rattle.rate_convert.proofs.halves.Halves.words.Goals as goal

pub returns : goal.returns
returns c =
    words_are (2 * (c.args.frame % 32768)) (2 * (c.args.frame % 32768) + 1) c.args.frame c.args.self.now.first c.args.self.now.second _ _ _
    (omega arith) (omega arith) c.new-words.ensures c.put_half.ensures.bytes c.put_half-2.ensures.bytes
