use Rattle.line21_codes.specs.declared.channels.Chan.TheVariants as chan
use Rattle.cc_verifier.proofs.channel_checks.ChannelChecks.new.Goals as goal

pub returns-clause-knows : goal.returns-clause-knows
returns-clause-knows c former = record {
  cc1 = c.in_ok-new.ensures.knows (former chan.Cc1);
  cc2 = c.in_ok-new-2.ensures.knows (former chan.Cc2);
  cc3 = c.in_ok-new-3.ensures.knows (former chan.Cc3);
  cc4 = c.in_ok-new-4.ensures.knows (former chan.Cc4);
}
