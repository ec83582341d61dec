use Rattle.std.proofs.Common.{[], refl}
use Rattle.command_base.proofs.RealisedLemmas.{no_memory}
use Rattle.words_commands.specs.Verdicts.{ShowVerdict}
use Rattle.words_reading.proofs.FrameLemmas.{nothing_read}
use Rattle.words_reading.proofs.UnderwayLemmas.{nothing_put}
use Rattle.words_commands.proofs.AnswerLemmas.{nothing_printed, show_found, show_short, show_stopped}
use Rattle.words_commands.proofs.show.run_show.Goals as goal

pub returns-in_default : goal.returns-in_default
returns-in_default g c = no_memory (ShowVerdict c.args.frame) _ _ refl

pub read_words-requires : goal.read_words-requires
read_words-requires g c = nothing_read c.in-Ok.frames c.in-Ok.ensures.received

pub returns-then-frame-count : goal.returns-then-frame-count
returns-then-frame-count g c =
    show_found _ c.read_words.new.judge c.args.frame c.count-count.result _ _
    (c.in-Ok-read_words.ensures.words c.args.frame (g.O.Sink.written c.args.out.now) [] (nothing_printed c.args.frame c.in-Ok.frames c.in-Ok.ensures.received c.in-Ok.ensures.maker)
    (nothing_put (g.O.Sink.written c.args.out.now))) c.count-count.ensures c.if-frame-count.true

pub returns-in-Ok-read_words : goal.returns-in-Ok-read_words
returns-in-Ok-read_words g c =
    show_short _ c.read_words.new.judge c.args.frame c.count-count.result _ _
    (c.in-Ok-read_words.ensures.words c.args.frame (g.O.Sink.written c.args.out.now) [] (nothing_printed c.args.frame c.in-Ok.frames c.in-Ok.ensures.received c.in-Ok.ensures.maker)
    (nothing_put (g.O.Sink.written c.args.out.now))) c.count-count.ensures c.if-frame-count.false

pub returns : goal.returns
returns g c =
    show_stopped c.args.frame _ _ c.in-Err.stop _
    (c.in-Err.ensures.words c.args.frame (g.O.Sink.written c.args.out.now) [] (nothing_printed c.args.frame c.in-Ok.frames c.in-Ok.ensures.received c.in-Ok.ensures.maker)
    (nothing_put (g.O.Sink.written c.args.out.now))) c.plain_status.ensures
