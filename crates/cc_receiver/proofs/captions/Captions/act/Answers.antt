use Rattle.std.proofs.Common.{arith, ◌∙◌, ◌++◌, refl, reverse, subst}
use Rattle.line21_codes.specs.declared.channels.FieldNumber.TheVariants.{One, Two}
use Rattle.line21_screen.specs.Objects.{Leads}
use Rattle.cc_receiver.specs.Gathering.{gathered}
use Rattle.cc_receiver.specs.Hearing.{heard}
use Rattle.cc_receiver.proofs.ServingLemmas.{serves_frame}
use Rattle.cc_receiver.proofs.SilentLemmas.{served_whole}
use Rattle.cc_receiver.proofs.captions.Captions.act.Goals as goal

pub returns : goal.returns
returns c caught parts half last judging channel keeps took tried =
    let count = keeps.count in
    record {
      refused = keeps.refused;
      is_open = λ _. tt;
      judges = λ _. tt;
      last = record {
        rate = took.rate;
        flags = took.flags;
        counter = took.counter;
        sections = took.sections;
        triplets = took.triplets;
        pairs_one = took.pairs_one;
        pairs_two = took.pairs_two;
      };
      channel = tried;
      first = subst (λ ps. Leads One (reverse ps ++ heard One caught.frames) c.apply_all.new.field) (c.as_slice.ensures.value ∙ took.pairs_one)
          (c.apply_all.ensures One (heard One caught.frames) keeps.first);
      second = subst (λ ps. Leads Two (reverse ps ++ heard Two caught.frames) c.apply_all-2.new.field) (c.as_slice-2.ensures.value ∙ took.pairs_two)
          (c.apply_all-2.ensures Two (heard Two caught.frames) keeps.second);
      services = serves_frame caught.frames parts c.args.self.now.last.rate (gathered parts).triplets c.args.self.now.served c.frame.new.self took.rate refl keeps.services
          (served_whole c.args.self.now.last.rate c.front.result.now (gathered parts).triplets c.args.self.now.served c.frame.new.self
          (c.front.ensures (gathered parts).triplets took.triplets) c.frame.ensures.served) c.frame.ensures.frames;
      count = omega (arith, count);
    }
