use Rattle.std.proofs.Common.{◌<◌, false, length, get_or, take, ap, sym, ◌∙◌, arith}
use Rattle.std.proofs.lemmas.List.{length-take, take_all, take_more}
use Rattle.cc_data.specs.declared.triplet.Triplet.{Triplet as TripletOf}
use Rattle.services_files.specs.Received.{field_pair, field_pairs}
use Rattle.cc_receiver.specs.Gathering.{pair_more}
use Rattle.cc_receiver.proofs.GatheredLemmas.{pairs_one_more}
use Rattle.cc_receiver.proofs.frame.put_pairs.Goals as goal

pub loop-triplet-preserved : goal.loop-triplet-preserved
loop-triplet-preserved c f kind few none =
    let triplets = c.args.triplets.now in
    let i = c.loop-triplet.triplet-index in
    let none_there : TripletOf = record { valid = false; kind = 0; a = 0; b = 0 } in
    let t = get_or triplets i none_there in
    let more = take_more triplets i none_there c.loop-triplet-test.true in
    let long = length-take i triplets in
    let room : length (take i triplets) < 81 = omega (arith, long, few, c.loop-triplet-test.true) in
    c.put_pair.ensures f kind
    ∙ ap (λ ps. pair_more ps (field_pair f t)) (c.loop-triplet.invariant f kind few none)
    ∙ pairs_one_more f (take i triplets) t room ∙ ap (field_pairs f) (sym more)

pub returns : goal.returns
returns c f kind few none =
    c.loop-triplet.invariant f kind few none ∙ ap (field_pairs f) (take_all c.loop-triplet.triplet-index c.args.triplets.now (omega arith))
