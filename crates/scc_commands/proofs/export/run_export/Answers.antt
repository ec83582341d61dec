use Rattle.std.proofs.Common.{refl}
use Rattle.scc_commands.specs.Export.{ExportVerdict}
use Rattle.scc_files.specs.Written.{head_text}
use Rattle.command_base.proofs.RealisedLemmas.{no_memory}
use Rattle.words_reading.proofs.FrameLemmas.{nothing_read}
use Rattle.scc_commands.proofs.WrittenLemmas.{stands_first}
use Rattle.scc_commands.proofs.ExportAnswerLemmas.{export_done, export_stopped, export_unwritten, head_failed, nothing_exported}
use Rattle.scc_commands.proofs.export.run_export.Goals as goal

pub returns-in_default : goal.returns-in_default
returns-in_default g c = no_memory (ExportVerdict c.args.time) _ _ refl

pub returns-in-Failed : goal.returns-in-Failed
returns-in-Failed g c = head_failed c.args.time _ _ _ _ _ _ c.in-Failed.ensures.bytes c.in-Failed.ensures.cause.1

pub read_words-requires : goal.read_words-requires
read_words-requires g c = nothing_read c.in-Ok.frames c.in-Ok.ensures.received

pub returns-in-Done-put : goal.returns-in-Done-put
returns-in-Done-put g c =
    export_done c.args.time c.read_words.new.judge _ _ _ _ _ _ _ _ _ _ _ c.ending.result.now c.in-Done.ensures.cause
    (c.in-Ok-read_words.ensures.words c.args.time (g.O.Sink.written c.args.out.now) head_text
    (nothing_exported c.args.time c.in-Ok.frames c.new-writer.result c.in-Ok.ensures.received c.in-Ok.ensures.maker (stands_first c.args.time c.new-writer.result c.new-writer.ensures)) c.in-Done.ensures.bytes)
    c.ending.ensures c.in-Done-put.ensures.bytes c.in-Done-put.ensures.cause

pub returns-in-Ok-read_words : goal.returns-in-Ok-read_words
returns-in-Ok-read_words g c =
    export_unwritten c.args.time c.read_words.new.judge _ _ _ _ _ _ _ _ _ _ _ c.ending.result.now c.in-Done.ensures.cause
    (c.in-Ok-read_words.ensures.words c.args.time (g.O.Sink.written c.args.out.now) head_text
    (nothing_exported c.args.time c.in-Ok.frames c.new-writer.result c.in-Ok.ensures.received c.in-Ok.ensures.maker (stands_first c.args.time c.new-writer.result c.new-writer.ensures)) c.in-Done.ensures.bytes)
    c.ending.ensures c.in-Failed-put.ensures.bytes c.in-Failed-put.ensures.cause.1

pub returns : goal.returns
returns g c =
    export_stopped c.args.time _ _ _ _ _ _ _ _ _ c.in-Err.stop _ c.in-Done.ensures.cause
    (c.in-Err.ensures.words c.args.time (g.O.Sink.written c.args.out.now) head_text
    (nothing_exported c.args.time c.in-Ok.frames c.new-writer.result c.in-Ok.ensures.received c.in-Ok.ensures.maker (stands_first c.args.time c.new-writer.result c.new-writer.ensures)) c.in-Done.ensures.bytes) c.status.ensures
