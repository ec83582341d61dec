use Rattle.std.proofs.Common.{◌+◌, ◌∷◌, ◌++◌, Bool, [], Ok, arith, refl, subst, sym}
use Rattle.text_output.specs.Gathered.{held_of}
use Rattle.words_reading.specs.declared.judge.Stop.TheVariants as stopped
use Rattle.mcc_files.specs.Readers.{HasRead, TakesOn}
use Rattle.mcc_files.specs.declared.reader.MccReader.{MccReader}
use Rattle.mcc_commands.specs.Importing.{HasHalted}
use Rattle.mcc_commands.specs.declared.importing.Importing.{Importing}
use Rattle.mcc_commands.specs.declared.import_stop.MccStop.{MccStop}
use Rattle.mcc_commands.proofs.ImportStepLemmas.{byte_halts, byte_taken, line_result, line_taken, word_halts}
use Rattle.mcc_commands.proofs.importing.Importing.take.Goals as goal

pub returns-in-Err-clause-takes : goal.returns-in-Err-clause-takes
returns-in-Err-clause-takes g c bytes words start had way =
    word_halts bytes words c.args.byte c.args.self.now start (g.O.Sink.written c.args.out.now) (held_of c.args.text.now) c.in-Err.why had c.judge.new.self (c.in-Err.ensures bytes words had) way

pub overflow_add-self : goal.overflow_add-self
overflow_add-self g c =
    let had = c.requires.had in
    let judged = c.in_default.ensures c.requires.bytes c.requires.words had in
    let at = had.place_is in
    let same = judged.2 in
    let within = c.requires.within in
    omega (arith, at, same, within)

pub end_line-requires-clause-whole : goal.end_line-requires-clause-whole
end_line-requires-clause-whole g c =
    let had = c.requires.had in
    let judged = c.in_default.ensures c.requires.bytes c.requires.words had in
    let read = subst (λ (r : MccReader). HasRead c.requires.bytes had.placed r) (sym judged.0) had.read in
    let on = subst (λ (b : Bool). TakesOn c.requires.bytes had.placed c.args.byte c.take.new.self (Ok b)) c.if-ended.true (c.in-Ok.ensures c.requires.bytes had.placed read) in
    on.1

pub end_line-requires-clause-ended : goal.end_line-requires-clause-ended
end_line-requires-clause-ended g c =
    let had = c.requires.had in
    let judged = c.in_default.ensures c.requires.bytes c.requires.words had in
    let read = subst (λ (r : MccReader). HasRead c.requires.bytes had.placed r) (sym judged.0) had.read in
    let on = subst (λ (b : Bool). TakesOn c.requires.bytes had.placed c.args.byte c.take.new.self (Ok b)) c.if-ended.true (c.in-Ok.ensures c.requires.bytes had.placed read) in
    let now : Importing = record c.judge.new.self { reader = c.take.new.self; place = c.judge.new.self.place + 1 } in
    let line = line_taken c.requires.bytes c.requires.words c.args.byte c.args.self.now c.judge.new.self now had judged on.0 refl refl refl in
    record { placed = had.placed; hearer = c.judge.new.self.hearer; ended = line.ended }

pub returns-then-ended-clause-takes : goal.returns-then-ended-clause-takes
returns-then-ended-clause-takes g c bytes words start had way =
    let judged = c.in_default.ensures bytes words had in
    let read = subst (λ (r : MccReader). HasRead bytes had.placed r) (sym judged.0) had.read in
    let on = subst (λ (b : Bool). TakesOn bytes had.placed c.args.byte c.take.new.self (Ok b)) c.if-ended.true (c.in-Ok.ensures bytes had.placed read) in
    let now : Importing = record c.judge.new.self { reader = c.take.new.self; place = c.judge.new.self.place + 1 } in
    let line = line_taken bytes words c.args.byte c.args.self.now c.judge.new.self now had judged on.0 refl refl refl in
    line_result bytes words c.args.byte had.placed start (g.O.Sink.written c.end_line.new.out) (held_of c.end_line.new.text) now c.end_line.new.self c.end_line.result line
    (c.end_line.ensures.file had.placed line.ended) (c.end_line.ensures.adds had.placed words start line.made way) c.end_line.ensures.keeps.reader c.end_line.ensures.keeps.hearer c.end_line.ensures.keeps.place

pub returns-else-ended-clause-takes : goal.returns-else-ended-clause-takes
returns-else-ended-clause-takes g c bytes words start had way =
    let judged = c.in_default.ensures bytes words had in
    let read = subst (λ (r : MccReader). HasRead bytes had.placed r) (sym judged.0) had.read in
    let on = subst (λ (b : Bool). TakesOn bytes had.placed c.args.byte c.take.new.self (Ok b)) c.if-ended.false (c.in-Ok.ensures bytes had.placed read) in
    let now : Importing = record c.judge.new.self { reader = c.take.new.self; place = c.judge.new.self.place + 1 } in
    (words, byte_taken bytes words c.args.byte c.args.self.now c.judge.new.self now had judged on refl refl refl, way)

pub returns-in-Err-take-clause-takes : goal.returns-in-Err-take-clause-takes
returns-in-Err-take-clause-takes g c bytes words start had way =
    let judged = c.in_default.ensures bytes words had in
    let read = subst (λ (r : MccReader). HasRead bytes had.placed r) (sym judged.0) had.read in
    let first = c.in-Err-take.ensures bytes had.placed read [] in
    subst (λ (w : MccStop). HasHalted start (g.O.Sink.written c.args.out.now) (held_of c.args.text.now) (bytes ++ c.args.byte ∷ []) (stopped.Own w)) (sym c.offends.ensures)
    (byte_halts bytes words c.args.byte c.args.self.now c.judge.new.self start (g.O.Sink.written c.args.out.now) (held_of c.args.text.now) c.in-Err-take.offence had judged first way)
