use Rattle.command_base.proofs.MadeLemmas.{read_refused}
use Rattle.cue_list_commands.proofs.MadeLemmas.{programme_done, programme_failed}
use Rattle.cue_list_commands.proofs.Outputs.{sound_pairs}
use Rattle.cue_list_commands.specs.Accepted.{IsRefused}
use Rattle.cue_list_commands.specs.Output.{IsPlacedAs, IsSoundPairs, framing_of, lines_of}
use Rattle.cue_list_commands.specs.Reads.{IsProgrammeOf}
use Rattle.frame_carrier.specs.Frames.{GivesFrom, frames_left}
use Rattle.cue_list_commands.proofs.pairs.run_pairs.Goals as goal

pub returns-in-Done : goal.returns-in-Done
returns-in-Done g c =
    programme_done IsPlacedAs framing_of lines_of IsSoundPairs IsRefused sound_pairs frames_left GivesFrom _ _ _ _ _ _ _ _ c.in-Ok.programme c.in-Ok.ensures
    c.in-Done.ensures.cause c.in-Done.ensures.bytes

pub returns-in-Failed : goal.returns-in-Failed
returns-in-Failed g c =
    programme_failed IsPlacedAs framing_of lines_of IsSoundPairs IsRefused sound_pairs frames_left GivesFrom _ _ _ _ _ _ _ _ c.in-Ok.programme c.in-Ok.ensures
    c.in-Failed.ensures.cause.1 c.in-Failed.ensures.bytes

pub returns-in-Err : goal.returns-in-Err
returns-in-Err g c =
    read_refused IsPlacedAs (λ made. lines_of (framing_of made)) IsSoundPairs IsRefused IsProgrammeOf _ _ _ _ _ _ c.in-Err.status c.in-Err.ensures
