use Rattle.std.proofs.Common.{refl, subst, sym, ◌∙◌}
use Rattle.cc_base.specs.Streams.{Puts}
use Rattle.cc_base.specs.declared.streams.Put.TheVariants as put
use Rattle.command_base.specs.Ends.{ends}
use Rattle.command_base.specs.declared.status.Status.TheVariants as status
use Rattle.mcc_files.specs.Writing.{written_head}
use Rattle.std.specs.Io.KnownBytes.{Appends}
use Rattle.time_codes.proofs.InEachCount.{day_has_frame}
use Rattle.mcc_commands.proofs.ExportAnswerLemmas.{head_failed, start_is, stopped_answer, whole_answer}
use Rattle.mcc_commands.specs.ExportMcc.{ExportMccVerdict, start_at}
use Rattle.command_base.proofs.RealisedLemmas.{no_memory}
use Rattle.command_base.specs.Realises.{RealisesLeaving}
use Rattle.mcc_commands.specs.declared.start.Start.{Start}
use Rattle.mcc_commands.proofs.export.run_export_mcc.Goals as goal

pub new-requires : goal.new-requires
new-requires g c = day_has_frame c.args.count c.args.time c.in-Ok.first (sym c.in-Ok.ensures)

pub read_words-requires : goal.read_words-requires
read_words-requires g c = c.in-Ok-new.ensures.read

pub returns-in_default-new : goal.returns-in_default-new
returns-in_default-new g c = no_memory (ExportMccVerdict (start_at c.args.count c.args.time)) _ _ refl

pub returns-in-Failed : goal.returns-in-Failed
returns-in-Failed g c =
    let start : Start = record { count = c.args.count; first = c.in-Ok.first } in
    subst (λ (s : Start). RealisesLeaving (ExportMccVerdict s) (ends (g.M.Source.left c.args.input.now) (g.M.Source.faults c.args.input.now) (g.O.Sink.written c.args.out.now) (g.O.Sink.faults c.args.out.now))
    (ends (g.M.Source.left c.args.input.now) (g.M.Source.faults c.args.input.now) (g.O.Sink.written c.put.new.self) (g.O.Sink.faults c.put.new.self)) status.WriteFault)
    (start_is c.args.count c.args.time c.in-Ok.first c.requires c.in-Ok.ensures)
    (head_failed start c.in-Ok-new.exporting _ _ _ _ _ _ c.in-Ok-new.ensures.judged
    (subst (Puts (g.O.Sink.written c.args.out.now) (g.O.Sink.written c.put.new.self) put.Failed) (c.deref.ensures.0 ∙ c.head.ensures) c.in-Failed.ensures.bytes)
    c.in-Failed.ensures.cause.1)

pub returns-in-Ok-read_words : goal.returns-in-Ok-read_words
returns-in-Ok-read_words g c =
    let start : Start = record { count = c.args.count; first = c.in-Ok.first } in
    subst (λ (s : Start). RealisesLeaving (ExportMccVerdict s) (ends (g.M.Source.left c.args.input.now) (g.M.Source.faults c.args.input.now) (g.O.Sink.written c.args.out.now) (g.O.Sink.faults c.args.out.now))
    (ends (g.M.Source.left c.read_words.new.input) (g.M.Source.faults c.read_words.new.input) (g.O.Sink.written c.read_words.new.out) (g.O.Sink.faults c.read_words.new.out)) status.Ok)
    (start_is c.args.count c.args.time c.in-Ok.first c.requires c.in-Ok.ensures)
    (whole_answer start c.read_words.new.judge _ _ _ _ _ _ _ _ _ c.in-Done.ensures.cause
    (c.in-Ok-read_words.ensures.words start (g.O.Sink.written c.args.out.now) (written_head c.args.count) c.in-Ok-new.ensures.judged
    (subst (Appends (g.O.Sink.written c.args.out.now) (g.O.Sink.written c.put.new.self)) (c.deref.ensures.0 ∙ c.head.ensures) c.in-Done.ensures.bytes)))

pub returns : goal.returns
returns g c =
    let start : Start = record { count = c.args.count; first = c.in-Ok.first } in
    subst (λ (s : Start). RealisesLeaving (ExportMccVerdict s) (ends (g.M.Source.left c.args.input.now) (g.M.Source.faults c.args.input.now) (g.O.Sink.written c.args.out.now) (g.O.Sink.faults c.args.out.now))
    (ends (g.M.Source.left c.read_words.new.input) (g.M.Source.faults c.read_words.new.input) (g.O.Sink.written c.read_words.new.out) (g.O.Sink.faults c.read_words.new.out)) c.status.result)
    (start_is c.args.count c.args.time c.in-Ok.first c.requires c.in-Ok.ensures)
    (stopped_answer start _ _ _ _ _ _ _ _ _ c.in-Err.stop _ c.in-Done.ensures.cause
    (c.in-Err.ensures.words start (g.O.Sink.written c.args.out.now) (written_head c.args.count) c.in-Ok-new.ensures.judged
    (subst (Appends (g.O.Sink.written c.args.out.now) (g.O.Sink.written c.put.new.self)) (c.deref.ensures.0 ∙ c.head.ensures) c.in-Done.ensures.bytes)) c.status.ensures)
