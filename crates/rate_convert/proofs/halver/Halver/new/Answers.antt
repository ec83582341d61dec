use Rattle.std.proofs.Common.{rules, refl, []}
use Rattle.cc_receiver.specs.Serving.{earlier_events, last_events}
use Rattle.rate_convert.proofs.FitLemmas.{fit_of_none, none_split}
use Rattle.rate_convert.proofs.halver.Halver.new.Goals as goal

pub returns : goal.returns
returns c = record {
  fit = fit_of_none;
  keeps = search rules;
  served = record {
    earlier = earlier_events [];
    last = last_events [];
    has = c.in_ok-new.ensures.led;
    leads = λ service. refl;
    before = λ others newest split. absurd (none_split others newest [] split);
  };
  ticks = search rules;
  none = refl;
  words = λ earlier last split. absurd (none_split earlier last [] split);
}
