use Rattle.line21_codes.specs.declared.channels.Chan.TheVariants as chan
use Rattle.cc_verifier.proofs.channel_checks.ChannelChecks.advance.Goals as goal

pub returns-clause-knows : goal.returns-clause-knows
returns-clause-knows c former grids next knows = record {
  cc1 = c.advance.ensures.knows chan.Cc1 former (grids chan.Cc1) next knows.cc1;
  cc2 = c.advance-2.ensures.knows chan.Cc2 former (grids chan.Cc2) next knows.cc2;
  cc3 = c.advance-3.ensures.knows chan.Cc3 former (grids chan.Cc3) next knows.cc3;
  cc4 = c.advance-4.ensures.knows chan.Cc4 former (grids chan.Cc4) next knows.cc4;
}
