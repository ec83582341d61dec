use Rattle.std.proofs.Common.{◌∙◌, arith, rules, sym}
use Rattle.cc_base.specs.Options.{passes}
use Rattle.dtvcc_author.specs.FrameEvents.{is_hidden_at, is_shown_at, names}
use Rattle.dtvcc_author.specs.Latest.{caption_in}
use Rattle.dtvcc_author.proofs.LatestLemmas.{byte_same, delay_is, hidden_named, quiet_events, shown_named}
use Rattle.dtvcc_author.proofs.latest.Latest.events.Goals as goal

pub returns : goal.returns
returns c rate frames captions kept at =
    let latest = c.args.self.now in
    let frame = c.args.frame in
    record {
      hidden = c.hidden.ensures
          ∙ sym (byte_same (names (is_hidden_at frame) captions) (λ id. passes (is_hidden_at frame) (caption_in latest id))
          (hidden_named rate frames frame captions latest kept at));
      shown = c.shown.ensures
          ∙ sym (byte_same (names (is_shown_at frame) captions) (λ id. passes (is_shown_at frame) (caption_in latest id))
          (shown_named rate frames frame captions latest kept at));
      delay = delay_is rate frames frame captions latest kept at c.delay.result c.delay.ensures.some c.delay.ensures.none;
    }

pub returns-then-frame-self : goal.returns-then-frame-self
returns-then-frame-self c rate frames captions kept at =
    quiet_events rate frames c.args.frame captions c.args.self.now kept at (search rules) (at.quiet c.args.frame (omega arith) c.if-frame-self.true)
