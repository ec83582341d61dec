use Rattle.std.proofs.Common.{◌∙◌, Option, sym, subst}
use Rattle.cdp_packets.specs.declared.reader.CdpReader.{CdpReader}
use Rattle.services_files.specs.Catching.{taken}
use Rattle.services_files.specs.Services.{services_say}
use Rattle.cc_receiver.specs.Catchers.{KeepsOpen}
use Rattle.cc_receiver.proofs.ByteLemmas.{FeedsByte, goes, kept_going}
use Rattle.cc_receiver.proofs.captions.Captions.byte.Goals as goal

pub returns-in-Some : goal.returns-in-Some
returns-in-Some c = λ caught keeps none.
    let fine = sym keeps.refused ∙ none in
    let kept = subst (λ (o : Option CdpReader). KeepsOpen caught.open_caption o c.args.self.now.gathered) c.in-Some.is (keeps.is_open fine) in
    let fed : FeedsByte c.args.byte c.take_step-self.result c.in-Some.reader c.step-step.new.self c.args.self.now.gathered c.take_step-self.new.frame
    c.args.self.now.judging c.take_step-self.new.judging = record {
      step = c.step-step.result;
      says = c.step-step.ensures.says;
      leads = c.step-step.ensures.leads;
      why = c.take_step-self.ensures.why;
      gathered = c.take_step-self.ensures.gathered;
      tried = c.take_step-self.ensures.tried;
    } in
    kept_going caught (taken services_say c.args.byte caught) c.args.self.now c.take_step-self.result c.step-step.new.self c.take_step-self.new.frame c.take_step-self.new.judging keeps
    (goes caught.open_caption caught c.args.byte c.take_step-self.result c.in-Some.reader c.step-step.new.self c.args.self.now.gathered c.take_step-self.new.frame
    c.args.self.now.judging c.take_step-self.new.judging kept (keeps.judges fine) fed fine)
