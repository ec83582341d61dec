use Rattle.std.proofs.Common.{◌≡◌, ℕ, ◌<◌, ◌≤◌, false, take}
use Rattle.std.specs.List.{list_any}
use Rattle.dtvcc_author.specs.FrameEvents.{has_event_at}
use Rattle.cc_base.specs.Options.{passes}
use Rattle.dtvcc_author.proofs.latest.Latest.next_event.Given as goal

-- the windows so far have no event before the frame that was found
abbrev pub invariant-loop-caption : goal.invariant-loop-caption
invariant-loop-caption l = (other : ℕ) → l.frame ≤ other → other < l.next → list_any (passes (has_event_at other)) (take l.caption-index l.self.windows) ≡ false
