use Rattle.std.proofs.Common.{None, [], refl}
use Rattle.cc_verifier.specs.Verifiers.{list_of}
use Rattle.verify_commands.proofs.AnswerLemmas.{short_answer, stopped_answer, verified_failed, verified_put}
use Rattle.command_base.specs.SideEnds.{side_ends}
use Rattle.command_base.proofs.RealisedLemmas.{no_memory_beside}
use Rattle.words_reading.proofs.WordsLemmas.{refused_beside}
use Rattle.cue_list_commands.specs.Accepted.{IsGoodList, IsRefusedList}
use Rattle.verify_commands.specs.VerifyVerdict.{VerifyVerdict, VerifyWords}
use Rattle.verify_commands.proofs.VerifyingLemmas.{nothing_judged}
use Rattle.verify_commands.proofs.verify.run_verify.Goals as goal

pub returns-in-Err : goal.returns-in-Err
returns-in-Err g c = refused_beside IsGoodList IsRefusedList VerifyWords IsGoodList _ _ _ _ c.in-Err.status c.in-Err.ensures.reads refl

pub returns-in_default : goal.returns-in_default
returns-in_default g c = no_memory_beside IsGoodList VerifyVerdict _ (side_ends None _) _ _ c.in-Ok.ensures.reads.0 refl

pub read_words-requires : goal.read_words-requires
read_words-requires g c = (nothing_judged (list_of c.in-Ok-new.verifier) c.in-Ok-new.verifier c.in-Ok-new.ensures.verified refl c.in-Ok-new.ensures.none).judged

pub returns-then-frames-wanted : goal.returns-then-frames-wanted
returns-then-frames-wanted g c =
    let begun = nothing_judged c.in-Ok.list c.in-Ok-new.verifier c.in-Ok-new.ensures.verified c.in-Ok-new.ensures.list c.in-Ok-new.ensures.none in
    short_answer (g.S.Source.left c.args.side.now) _ _ _ _ _ _ _ _ _ c.frames-frames.result c.in-Ok.list c.read_words.new.judge
    c.in-Ok.ensures.reads (c.in-Ok-read_words.ensures.words c.in-Ok.list None [] begun tt) c.frames-frames.ensures
    (rw c.frames-wanted.ensures at c.if-frames-wanted.true)

pub returns-in-Done : goal.returns-in-Done
returns-in-Done g c =
    let begun = nothing_judged c.in-Ok.list c.in-Ok-new.verifier c.in-Ok-new.ensures.verified c.in-Ok-new.ensures.list c.in-Ok-new.ensures.none in
    verified_put (g.S.Source.left c.args.side.now) _ _ _ _ _ _ _ _ _ _ _ c.frames-frames.result c.in-Ok.list c.read_words.new.judge
    c.in-Ok.ensures.reads (c.in-Ok-read_words.ensures.words c.in-Ok.list None [] begun tt) c.frames-frames.ensures
    (rw c.frames-wanted.ensures at c.if-frames-wanted.false) c.in-Done.ensures.bytes c.in-Done.ensures.cause

pub returns-in-Ok-read_words : goal.returns-in-Ok-read_words
returns-in-Ok-read_words g c =
    let begun = nothing_judged c.in-Ok.list c.in-Ok-new.verifier c.in-Ok-new.ensures.verified c.in-Ok-new.ensures.list c.in-Ok-new.ensures.none in
    verified_failed (g.S.Source.left c.args.side.now) _ _ _ _ _ _ _ _ _ _ _ c.frames-frames.result c.in-Ok.list c.read_words.new.judge
    c.in-Ok.ensures.reads (c.in-Ok-read_words.ensures.words c.in-Ok.list None [] begun tt) c.frames-frames.ensures
    (rw c.frames-wanted.ensures at c.if-frames-wanted.false) c.in-Failed.ensures.bytes c.in-Failed.ensures.cause.1

pub returns : goal.returns
returns g c =
    let begun = nothing_judged c.in-Ok.list c.in-Ok-new.verifier c.in-Ok-new.ensures.verified c.in-Ok-new.ensures.list c.in-Ok-new.ensures.none in
    stopped_answer (g.S.Source.left c.args.side.now) _ _ _ _ _ _ _ _ _ c.in-Ok.list c.in-Err-read_words.stop c.status.result c.in-Ok.ensures.reads
    (c.in-Err-read_words.ensures.words c.in-Ok.list None [] begun tt) c.status.ensures
