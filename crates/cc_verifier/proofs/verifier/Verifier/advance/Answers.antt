use Rattle.std.proofs.Common.{refl, subst, sym}
use Rattle.cc_verifier.specs.WindowTurns.{AreAllInTurn}
use Rattle.cc_verifier.proofs.ScreenLemmas.{channels_before, channels_know, services_before, services_know, services_stand}
use Rattle.cc_verifier.proofs.verifier.Verifier.advance.Goals as goal

pub advance-requires-2-clause-turn : goal.advance-requires-2-clause-turn
advance-requires-2-clause-turn c = subst AreAllInTurn (sym c.cues-cues.ensures.cues) c.requires.ready.2.turn

pub returns-clause-counter : goal.returns-clause-counter
returns-clause-counter c bytes earlier last had are = (earlier, (last, refl, c.counter.ensures bytes earlier last had are))

pub returns-clause-knows : goal.returns-clause-knows
returns-clause-knows c former screens windows next ready knows =
    let same = c.cues-cues.ensures.cues in
    record {
      channels = channels_know c.args.self.now.list.cues c.cues-cues.result.now c.args.frame c.args.frame screens screens c.advance.new.self same refl refl
          (c.advance.ensures.knows former screens next
          (channels_before c.args.self.now.list.cues c.cues-cues.result.now former former screens c.args.self.now.channels same refl knows.channels));
      services = services_know c.args.self.now.list.cues c.cues-cues.result.now c.args.frame c.args.frame windows c.advance-2.new.self same refl
          (c.advance-2.ensures.knows former windows next
          (services_stand c.args.self.now.list.cues c.cues-cues.result.now former c.args.self.now.services same ready.services)
          (services_before c.args.self.now.list.cues c.cues-cues.result.now former former windows c.args.self.now.services same refl knows.services));
    }
