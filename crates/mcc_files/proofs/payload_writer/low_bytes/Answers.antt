use Rattle.std.proofs.Common.{arith, ap, set, ◌∙◌}
use Rattle.anc_words.proofs.CaptionLemmas.{put-next}
use Rattle.mcc_files.proofs.payload_writer.low_bytes.Goals as goal

pub loop-place-preserved : goal.loop-place-preserved
loop-place-preserved c =
    ap (set c.loop-place.bytes c.loop-place.place) c.low_byte.ensures
    ∙ put-next c.args.words.now c.args.bytes.now c.loop-place.bytes c.loop-place.place c.loop-place.invariant c.loop-place-test.true
    (omega (arith, c.told-bytes, c.requires, c.loop-place-test.true))
