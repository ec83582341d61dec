use Rattle.std.proofs.Common.{ap, refl, ◌∙◌}
use Rattle.line21_codes.specs.declared.channels.FieldNumber.TheVariants.{One, Two}
use Rattle.services_files.specs.Received.{field_pair}
use Rattle.cc_receiver.specs.Gathering.{pair_more}
use Rattle.cc_receiver.proofs.frame.Frame.triplet.Goals as goal

pub returns : goal.returns
returns c g holds =
    let t = c.args.triplet in
    record {
      rate = holds.rate;
      flags = holds.flags;
      counter = holds.counter;
      sections = holds.sections;
      triplets = c.push.ensures g.triplets holds.triplets;
      pairs_one = c.put_pair.ensures One refl ∙ ap (λ ps. pair_more ps (field_pair One t)) holds.pairs_one;
      pairs_two = c.put_pair-2.ensures Two refl ∙ ap (λ ps. pair_more ps (field_pair Two t)) holds.pairs_two;
    }
