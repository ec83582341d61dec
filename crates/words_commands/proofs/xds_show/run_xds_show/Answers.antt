use Rattle.std.proofs.Common.{[], refl}
use Rattle.command_base.proofs.RealisedLemmas.{no_memory}
use Rattle.words_commands.specs.Screens.{texts_behind}
use Rattle.words_commands.specs.Verdicts.{ChangesVerdict}
use Rattle.words_reading.proofs.FrameLemmas.{nothing_read}
use Rattle.words_reading.proofs.UnderwayLemmas.{nothing_put}
use Rattle.words_commands.proofs.PacketLinesLemmas.{nothing_ended}
use Rattle.words_commands.proofs.AnswerLemmas.{changes_done, changes_stopped, changes_unwritten, ended_counted}
use Rattle.words_commands.specs.PacketLines.{next_packets}
use Rattle.words_commands.proofs.xds_show.run_xds_show.Goals as goal

pub returns-in_default : goal.returns-in_default
returns-in_default g c = no_memory (ChangesVerdict next_packets) _ _ refl

pub read_words-requires : goal.read_words-requires
read_words-requires g c = nothing_read c.in-Ok.frames c.in-Ok.ensures.received

pub returns-in-Done : goal.returns-in-Done
returns-in-Done g c =
    changes_done next_packets _ _ _ _ _ _ _ _ _ _ c.count.result
    (ended_counted (texts_behind next_packets []) _ c.read_words.new.judge c.count.result _ _
    (c.in-Ok-read_words.ensures.words tt (g.O.Sink.written c.args.out.now) []
    (nothing_ended c.in-Ok.frames c.new-reader.result c.in-Ok.ensures.received c.in-Ok.ensures.maker c.new-reader.ensures) (nothing_put (g.O.Sink.written c.args.out.now)))
    c.count.ensures)
    c.in-Done.ensures.bytes c.in-Done.ensures.cause

pub returns-in-Ok-read_words : goal.returns-in-Ok-read_words
returns-in-Ok-read_words g c =
    changes_unwritten next_packets _ _ _ _ _ _ _ _ _ _ c.count.result
    (ended_counted (texts_behind next_packets []) _ c.read_words.new.judge c.count.result _ _
    (c.in-Ok-read_words.ensures.words tt (g.O.Sink.written c.args.out.now) []
    (nothing_ended c.in-Ok.frames c.new-reader.result c.in-Ok.ensures.received c.in-Ok.ensures.maker c.new-reader.ensures) (nothing_put (g.O.Sink.written c.args.out.now)))
    c.count.ensures)
    c.in-Failed.ensures.bytes c.in-Failed.ensures.cause.1

pub returns : goal.returns
returns g c =
    changes_stopped next_packets _ _ c.in-Err.stop _
    (c.in-Err.ensures.words tt (g.O.Sink.written c.args.out.now) []
    (nothing_ended c.in-Ok.frames c.new-reader.result c.in-Ok.ensures.received c.in-Ok.ensures.maker c.new-reader.ensures) (nothing_put (g.O.Sink.written c.args.out.now)))
    c.plain_status.ensures
