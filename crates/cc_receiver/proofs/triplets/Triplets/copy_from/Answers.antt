use Rattle.std.proofs.Common.{◌++◌, ap, ◌∙◌}
use Rattle.cc_receiver.proofs.triplets.Triplets.copy_from.Goals as goal

pub returns : goal.returns
returns c triplets has = record {
  items = c.append.ensures.items ∙ ap (λ ts. ts ++ c.as_slice.result.now) c.clear.ensures.none.items ∙ c.as_slice.ensures.triplets triplets has;
  front = has.front;
  size = has.size;
  has_front = has.has_front;
}
