use Rattle.std.proofs.Common.{◌≡◌}
use Rattle.cue_lists.specs.Rules.DelayCovers.{delays_cross}
use Rattle.cue_lists.specs.Rules.Formers.{last_below, last_in}
use Rattle.cue_lists.proofs.rules.windows.breaks_delay_covers.Given as goal

abbrev pub invariant-loop-id : goal.invariant-loop-id
invariant-loop-id l = l.nearest ≡ last_below (delays_cross l.rate l.cue) l.earlier (last_in l.formers l.window.service) l.id
