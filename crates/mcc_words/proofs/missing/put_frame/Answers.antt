use Rattle.mcc_words.proofs.MissingLemmas.{frame_is}
use Rattle.mcc_words.proofs.missing.put_frame.Goals as goal

pub returns : goal.returns
returns c =
    frame_is c.args.rate c.args.number c.from.result c.silent-frame.result c.triplets-triplets.result.items c.deref.result.now c.write_triplets.new.out.items c.from.ensures
    c.silent-frame.ensures (c.triplets-triplets.ensures.triplets c.args.rate 0 0 c.new.ensures) c.deref.ensures.0 c.write_triplets.ensures
