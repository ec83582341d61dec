use Rattle.std.proofs.Common.{◌≡◌, ◌∙◌, ◌&&◌, Bool, not, ap, sym}
use Rattle.line21_codes.specs.NullPairs.{is_null}
use Rattle.xds_packets.specs.Places.{given_at}
use Rattle.xds_frames.proofs.PacketsLemmas.{laid_is}
use Rattle.xds_frames.proofs.packets.Packets.pair.Goals as goal

pub returns-clause-pair : goal.returns-clause-pair
returns-clause-pair c = λ cues frees frame_of listed n at behind free_is frame_is.
    let has = c.has-loading.ensures cues at in
    let free : frees n ≡ c.is_free.result =
    free_is ∙ ap (λ (b : Bool). not b && is_null c.args.pair) (sym has.0) ∙ sym c.is_free.ensures in
    let sent = c.step-sent.ensures frees frame_of listed n behind free frame_is in
    (c.unwrap_or.ensures ∙ laid_is (given_at frees frame_of listed n) c.args.pair c.step-sent.result sent.0, sent.1)

pub returns-clause-loads : goal.returns-clause-loads
returns-clause-loads c = λ cues at. (c.has-loading.ensures cues at).1
