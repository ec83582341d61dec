use Rattle.std.proofs.Common.{◌≡◌, ℕ, ◌<◌, false}
use Rattle.cc_base.specs.Options.{passes}
use Rattle.dtvcc_author.specs.FrameEvents.{is_delayed_at}
use Rattle.dtvcc_author.specs.Latest.{caption_in}
use Rattle.dtvcc_author.proofs.latest.Latest.delay.Given as goal

abbrev pub invariant-loop-window : goal.invariant-loop-window
invariant-loop-window l = (id : ℕ) → id < l.window → passes (is_delayed_at l.frame) (caption_in l.self id) ≡ false
