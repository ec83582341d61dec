use Rattle.std.proofs.Common.{arith, ap, set, ◌∙◌}
use Rattle.anc_words.proofs.CaptionLemmas.{put-next}
use Rattle.anc_words.proofs.caption_packet.CaptionPacket.user_bytes.Goals as goal

pub loop-place-preserved : goal.loop-place-preserved
loop-place-preserved c =
    ap (set c.loop-place.out c.loop-place.place) c.low_byte.ensures
    ∙ put-next c.args.self.now.user.now c.args.out.now c.loop-place.out c.loop-place.place c.loop-place.invariant c.loop-place-test.true
    (omega (arith, c.told-out, c.args.self.now.few, c.loop-place-test.true))
