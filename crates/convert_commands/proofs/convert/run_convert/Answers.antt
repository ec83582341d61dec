use Rattle.std.proofs.Common.{[], refl}
use Rattle.command_base.proofs.RealisedLemmas.{no_memory}
use Rattle.convert_commands.specs.ConvertVerdict.{ConvertVerdict}
use Rattle.words_reading.proofs.UnderwayLemmas.{nothing_put}
use Rattle.convert_commands.proofs.AnswerLemmas.{convert_done, convert_stopped}
use Rattle.convert_commands.proofs.ConvertingLemmas.{nothing_made}
use Rattle.convert_commands.proofs.convert.run_convert.Goals as goal

pub returns-in_default : goal.returns-in_default
returns-in_default g c = no_memory ConvertVerdict _ _ refl

pub read_words-requires : goal.read_words-requires
read_words-requires g c = (nothing_made (record { converter = c.in-Ok.converter }) c.in-Ok.ensures).underway

pub returns-in-Ok-read_words : goal.returns-in-Ok-read_words
returns-in-Ok-read_words g c =
    convert_done c.read_words.new.judge _ _
    (c.in-Ok-read_words.ensures.words tt (g.O.Sink.written c.args.out.now) [] (nothing_made (record { converter = c.in-Ok.converter }) c.in-Ok.ensures) (nothing_put (g.O.Sink.written c.args.out.now)))

pub returns : goal.returns
returns g c =
    convert_stopped _ _ c.in-Err.stop _
    (c.in-Err.ensures.words tt (g.O.Sink.written c.args.out.now) [] (nothing_made (record { converter = c.in-Ok.converter }) c.in-Ok.ensures) (nothing_put (g.O.Sink.written c.args.out.now)))
    c.status.ensures
