use Rattle.std.proofs.Common.{ℕ, Bool, Ok, subst, sym}
use Rattle.text_output.specs.Gathered.{held_of}
use Rattle.mcc_files.specs.Offences.{IsFirstOffence}
use Rattle.mcc_files.specs.Readers.{Finishes}
use Rattle.mcc_commands.proofs.ImportStepLemmas.{cut_ends, line_ended, none_ends, packet_ends}
use Rattle.mcc_commands.proofs.importing.Importing.end.Goals as goal

pub end_line-requires-clause-ended : goal.end_line-requires-clause-ended
end_line-requires-clause-ended g c =
    let had = c.requires.had in
    let f = subst (λ (b : Bool). Finishes c.requires.bytes had.placed c.args.self.now.reader (Ok b)) c.in-Ok-true.field-0-test (c.in-Ok-true.ensures c.requires.bytes had.placed had.read) in
    record { placed = had.placed; hearer = c.args.self.now.hearer; ended = line_ended c.requires.bytes c.requires.words c.args.self.now had f.0 f.1 }

pub returns-in-Ok-true-clause-ends : goal.returns-in-Ok-true-clause-ends
returns-in-Ok-true-clause-ends g c bytes words start had way =
    let f = subst (λ (b : Bool). Finishes bytes had.placed c.args.self.now.reader (Ok b)) c.in-Ok-true.field-0-test (c.in-Ok-true.ensures bytes had.placed had.read) in
    let ended = line_ended bytes words c.args.self.now had f.0 f.1 in
    packet_ends bytes words c.args.self.now c.end_line.new.self start (g.O.Sink.written c.end_line.new.out) (held_of c.end_line.new.text) c.end_line.result had f.0
    (c.end_line.ensures.file had.placed ended) (c.end_line.ensures.adds had.placed words start had.made way)

pub returns-in-Ok-false-clause-ends : goal.returns-in-Ok-false-clause-ends
returns-in-Ok-false-clause-ends g c bytes words start had way =
    let f = subst (λ (b : Bool). Finishes bytes had.placed c.args.self.now.reader (Ok b)) c.in-Ok-false.field-0-test (c.in-Ok-false.ensures bytes had.placed had.read) in
    none_ends bytes words c.args.self.now start (g.O.Sink.written c.args.out.now) (held_of c.args.text.now) had f way

pub returns-in-Err-clause-ends : goal.returns-in-Err-clause-ends
returns-in-Err-clause-ends g c bytes words start had way =
    let first = subst (λ (n : ℕ). IsFirstOffence bytes (record { place = n; why = c.in-Err.why })) (sym had.place_is) (c.in-Err.ensures bytes had.placed had.read) in
    cut_ends bytes words c.args.self.now start (g.O.Sink.written c.args.out.now) (held_of c.args.text.now) (record { place = c.args.self.now.place; why = c.in-Err.why }) had first way
