use Rattle.cue_lists.proofs.RulesSaid.{lanes_ruled, ruled_by_lanes}
use Rattle.cue_lists.proofs.rule_laws.ruled_by_lane.Goals as goal

pub returns : goal.returns
returns c = record { lanes = lanes_ruled; ruled = ruled_by_lanes }
