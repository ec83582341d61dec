use Rattle.std.proofs.Common.{◌≡◌, length, ap, ◌∙◌, arith}
use Rattle.dtvcc_author.specs.FrameEvents.{event_bytes}
use Rattle.lanes.proofs.service_front.Front.open.Goals as goal

pub returns-clause-room : goal.returns-clause-room
returns-clause-room c at =
    let cs = c.args.captions.now in
    let frame = c.args.self.now.frame in
    let kept = c.requires.kept in
    let exact = c.bytes.ensures.exact kept.0 kept.1.0 frame cs kept.1.1 (c.events-events.ensures kept.0 kept.1.0 cs kept.1.1 at) in
    let size : c.len.result ≡ length (event_bytes frame cs) = c.len.ensures.value ∙ ap length exact in
    omega (arith, size, c.len.ensures.fits, c.requires.least)
