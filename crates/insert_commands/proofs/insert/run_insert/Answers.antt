use Rattle.std.proofs.Common.{◌≤◌, ◌<◌, MatchBool, None, [], length, refl, subst}
use Rattle.insert_commands.proofs.AnswerLemmas.{short_answer, stopped_answer, whole_answer}
use Rattle.cue_list_commands.specs.Accepted.{IsRefused}
use Rattle.cue_list_commands.specs.Output.{IsPlacedAs}
use Rattle.cue_list_commands.specs.Reads.{IsProgrammeOf}
use Rattle.insert_commands.specs.InsertVerdict.{InsertVerdict, InsertWords}
use Rattle.command_base.specs.SideEnds.{side_ends}
use Rattle.command_base.proofs.RealisedLemmas.{no_memory_beside}
use Rattle.words_reading.proofs.WordsLemmas.{refused_beside}
use Rattle.words_reading.proofs.UnderwayLemmas.{nothing_put}
use Rattle.insert_commands.proofs.insert.run_insert.Goals as goal

pub returns-in-Err : goal.returns-in-Err
returns-in-Err g c = refused_beside IsPlacedAs IsRefused InsertWords IsProgrammeOf _ _ _ _ c.in-Err.status c.in-Err.ensures refl

pub returns-in_default : goal.returns-in_default
returns-in_default g c = no_memory_beside IsPlacedAs InsertVerdict _ (side_ends None _) _ _ c.in-Ok.ensures.0 refl

pub returns-then-is_over : goal.returns-then-is_over
returns-then-is_over g c =
    whole_answer _ (g.S.Source.left c.read_programme.new.input) _ _ c.in-Ok.programme c.read_words.new.judge _ _ c.in-Ok.ensures c.in-Ok-read_words.ensures.counts
    (λ list has. c.in-Ok-read_words.ensures.words list (g.O.Sink.written c.args.out.now) [] (c.in-Ok-new.ensures.judged list has) (nothing_put (g.O.Sink.written c.args.out.now)))
    (λ list bytes text had. subst (λ b. MatchBool b (list.count ≤ length had.says.frames) (length had.says.frames < list.count)) c.if-is_over.true
    (c.is_over.ensures list bytes text had))

pub returns-in-Ok-read_words : goal.returns-in-Ok-read_words
returns-in-Ok-read_words g c =
    short_answer _ (g.S.Source.left c.read_programme.new.input) _ _ c.in-Ok.programme c.read_words.new.judge _ _ c.frames.result c.in-Ok.ensures c.in-Ok-read_words.ensures.counts
    (λ list has. c.in-Ok-read_words.ensures.words list (g.O.Sink.written c.args.out.now) [] (c.in-Ok-new.ensures.judged list has) (nothing_put (g.O.Sink.written c.args.out.now)))
    (λ list bytes text had. (
      c.frames.ensures list bytes text had,
      subst (λ b. MatchBool b (list.count ≤ length had.says.frames) (length had.says.frames < list.count)) c.if-is_over.false (c.is_over.ensures list bytes text had),
    ))

pub returns : goal.returns
returns g c =
    stopped_answer _ _ _ _ c.in-Ok.programme _ _ c.in-Err-read_words.stop c.status.result c.in-Ok.ensures c.in-Err-read_words.ensures.counts
    (λ list has. c.in-Err-read_words.ensures.words list (g.O.Sink.written c.args.out.now) [] (c.in-Ok-new.ensures.judged list has)
    (nothing_put (g.O.Sink.written c.args.out.now)))
    c.status.ensures
