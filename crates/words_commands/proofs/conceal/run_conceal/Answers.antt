use Rattle.std.proofs.Common.{[], refl}
use Rattle.command_base.proofs.RealisedLemmas.{no_memory}
use Rattle.words_commands.specs.Verdicts.{ChangesVerdict}
use Rattle.words_reading.proofs.UnderwayLemmas.{nothing_put}
use Rattle.words_commands.proofs.ConcealingLemmas.{counted_concealed, nothing_concealed}
use Rattle.words_commands.proofs.AnswerLemmas.{changes_done, changes_stopped, changes_unwritten}
use Rattle.words_commands.specs.ConcealedScreens.{next_concealed}
use Rattle.words_commands.proofs.conceal.run_conceal.Goals as goal

pub returns-in_default : goal.returns-in_default
returns-in_default g c = no_memory (ChangesVerdict next_concealed) _ _ refl

pub read_words-requires : goal.read_words-requires
read_words-requires g c =
    let begun = nothing_concealed (record { concealer = c.in-Ok-new.concealer; shown = c.in-Ok.shown }) c.in-Ok-new.ensures c.in-Ok.ensures.grids c.in-Ok.ensures.windows in
    record { had = begun.had; few = begun.few }

pub returns-in-Done : goal.returns-in-Done
returns-in-Done g c =
    let begun = nothing_concealed (record { concealer = c.in-Ok-new.concealer; shown = c.in-Ok.shown }) c.in-Ok-new.ensures c.in-Ok.ensures.grids c.in-Ok.ensures.windows in
    changes_done next_concealed _ _ _ _ _ _ _ _ _ _ c.frames.result
    (counted_concealed c.read_words.new.judge c.frames.result _ _
    (c.in-Ok-read_words.ensures.words tt (g.O.Sink.written c.args.out.now) [] begun (nothing_put (g.O.Sink.written c.args.out.now)))
    c.frames.ensures.frames)
    c.in-Done.ensures.bytes c.in-Done.ensures.cause

pub returns-in-Ok-read_words : goal.returns-in-Ok-read_words
returns-in-Ok-read_words g c =
    let begun = nothing_concealed (record { concealer = c.in-Ok-new.concealer; shown = c.in-Ok.shown }) c.in-Ok-new.ensures c.in-Ok.ensures.grids c.in-Ok.ensures.windows in
    changes_unwritten next_concealed _ _ _ _ _ _ _ _ _ _ c.frames.result
    (counted_concealed c.read_words.new.judge c.frames.result _ _
    (c.in-Ok-read_words.ensures.words tt (g.O.Sink.written c.args.out.now) [] begun (nothing_put (g.O.Sink.written c.args.out.now)))
    c.frames.ensures.frames)
    c.in-Failed.ensures.bytes c.in-Failed.ensures.cause.1

pub returns : goal.returns
returns g c =
    let begun = nothing_concealed (record { concealer = c.in-Ok-new.concealer; shown = c.in-Ok.shown }) c.in-Ok-new.ensures c.in-Ok.ensures.grids c.in-Ok.ensures.windows in
    changes_stopped next_concealed _ _ c.in-Err.stop _
    (c.in-Err.ensures.words tt (g.O.Sink.written c.args.out.now) [] begun (nothing_put (g.O.Sink.written c.args.out.now)))
    c.plain_status.ensures
