use Rattle.std.proofs.Common.{◌∙◌, sym, reverse}
use Rattle.cue_fit.proofs.ShortLemmas.{near_none, near_one, near_self}
use Rattle.cue_fit.proofs.former.near_cues.Goals as goal

pub returns-in-Some : goal.returns-in-Some
returns-in-Some c = near_one c.args.cue.now c.args.cue.now c.args.cues.now c.in-Some.index c.in-Some.ensures (sym c.is_line21.ensures ∙ c.if-not-is_line21.false)

pub returns-in-None : goal.returns-in-None
returns-in-None c = near_none c.args.cue.now c.args.cues.now c.in-None.ensures (sym c.is_line21.ensures ∙ c.if-not-is_line21.false)

pub returns-then-not-is_line21 : goal.returns-then-not-is_line21
returns-then-not-is_line21 c = near_self c.args.cue.now (reverse c.args.cues.now) (sym c.is_line21.ensures ∙ c.if-not-is_line21.true)
