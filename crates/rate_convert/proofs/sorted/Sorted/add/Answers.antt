use Rattle.rate_convert.proofs.SortedLemmas.{channel_more, field_more}
use Rattle.line21_codes.specs.declared.channels.FieldNumber.TheVariants.{One, Two}
use Rattle.rate_convert.proofs.sorted.Sorted.add.Goals as goal

pub returns : goal.returns
returns c = λ triplets are. record {
  ones = field_more One c.has_kind-3.result triplets _ _ c.args.triplet c.has_kind-3.ensures are.ones c.keep_if.ensures;
  twos = field_more Two c.has_kind-4.result triplets _ _ c.args.triplet c.has_kind-4.ensures are.twos c.keep_if-2.ensures;
  channel = channel_more c.has_kind.result c.has_kind-2.result triplets _ _ c.args.triplet c.has_kind.ensures c.has_kind-2.ensures are.channel c.keep_if-3.ensures;
}
