use Rattle.std.proofs.Common.{◌≡◌, ◌+◌, ◌-◌, ◌∙◌, arith, refl, sym, ap}
use Rattle.std.proofs.lemmas.Option.{slice_get_read}
use Rattle.std.specs.Prelude.{Some, slice_get}
use Rattle.cc_verifier.specs.ChannelNewest.{newest}
use Rattle.cc_verifier.proofs.ChannelNewestLemmas.{newest_on}
use Rattle.cc_verifier.proofs.channel_chain.last_on.Goals as goal

pub returns-then-is_on : goal.returns-then-is_on
returns-then-is_on c =
    let at = c.loop-at.at - 1 in
    let is : slice_get c.args.cues.now (c.loop-at.at - 1) ≡ Some c.index-cues-at.result =
    slice_get_read c.args.cues.now _ (c.loop-at.at - 1) c.index-cues-at.result refl (omega arith) c.index-cues-at.is in
    let more : c.loop-at.at - 1 + 1 ≡ c.loop-at.at = omega arith in
    let on = c.is_on.ensures in
    record {
      cue = c.index-cues-at.result;
      before = omega arith;
      is = is;
      on = cc;
      are = c.loop-at.invariant.same ∙ sym (ap (newest c.args.channel c.args.cues.now) more)
          ∙ newest_on c.args.channel c.args.cues.now (c.loop-at.at - 1) c.index-cues-at.result is cc;
    }
