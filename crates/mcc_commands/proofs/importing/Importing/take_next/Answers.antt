use Rattle.std.proofs.Common.{◌≡◌, Err, List, ℕ, Ok, arith, rules, subst, sym}
use Rattle.std.proofs.lemmas.List.{length-take-le}
use Rattle.text_output.specs.Gathered.{held_of}
use Rattle.mcc_commands.specs.Importing.{TakesBytes}
use Rattle.mcc_commands.proofs.ImportLineLemmas.{line_front, start_is, with_ahead}
use Rattle.mcc_commands.proofs.ImportStepLemmas.{first_halts, first_taken}
use Rattle.mcc_commands.proofs.importing.Importing.take_next.Goals as goal

pub slice_bounds-take_line-end : goal.slice_bounds-take_line-end
slice_bounds-take_line-end g c =
    let may = c.requires.may in
    let first = c.in-Some.ensures.line may.bytes may.had.placed may.had.read may.had.lines in
    sym (length-take-le c.in-Some.count c.args.bytes.now first.within)

pub take_line-requires : goal.take_line-requires
take_line-requires g c =
    let may = c.requires.may in
    let first = c.in-Some.ensures.line may.bytes may.had.placed may.had.read may.had.lines in
    let size = length-take-le c.in-Some.count c.args.bytes.now first.within in
    let less = first.within in
    let all = may.within in
    record {
      may = record {
        bytes = may.bytes;
        words = may.words;
        had = with_ahead may.bytes may.words c.args.self.now c.read_ahead.new.ahead may.had;
        within = omega (arith, size, less, all);
      };
      start = start_is c.args.self.now.reader.phase c.in-Some.ensures.start;
      reads = first.line;
    }

pub take-requires : goal.take-requires
take-requires g c =
    let may = c.requires.may in
    let some = c.requires.some in
    let all = may.within in
    record {
      bytes = may.bytes;
      words = may.words;
      had = with_ahead may.bytes may.words c.args.self.now c.read_ahead.new.ahead may.had;
      within = omega (arith, some, all);
    }

pub returns-in_err-take_line-clause-takes : goal.returns-in_err-take_line-clause-takes
returns-in_err-take_line-clause-takes g c before words start had way =
    let first = c.in-Some.ensures.line before had.placed had.read had.lines in
    let why = c.in_err-take_line.field-0.0 in
    let answer : c.from_residual.result ≡ Err why = search rules in
    rw answer (line_front start (g.O.Sink.written c.take_line.new.out) (held_of c.take_line.new.text) before c.args.bytes.now c.in-Some.count why (c.in_err-take_line.ensures.takes before words start (with_ahead before words c.args.self.now c.read_ahead.new.ahead had) first.line way))

pub returns-in-Some-clause-takes : goal.returns-in-Some-clause-takes
returns-in-Some-clause-takes g c before words start had way =
    let first = c.in-Some.ensures.line before had.placed had.read had.lines in
    c.in_ok-take_line.ensures.takes before words start (with_ahead before words c.args.self.now c.read_ahead.new.ahead had) first.line way

pub returns-in-Some-clause-some : goal.returns-in-Some-clause-some
returns-in-Some-clause-some g c =
    let may = c.requires.may in
    let first = c.in-Some.ensures.line may.bytes may.had.placed may.had.read may.had.lines in
    first.some

pub returns-in-Some-clause-within : goal.returns-in-Some-clause-within
returns-in-Some-clause-within g c =
    let may = c.requires.may in
    let first = c.in-Some.ensures.line may.bytes may.had.placed may.had.read may.had.lines in
    first.within

pub returns-in_err-take-clause-takes : goal.returns-in_err-take-clause-takes
returns-in_err-take-clause-takes g c before words start had way =
    let why = c.in_err-take.field-0.0 in
    let answer : c.from_residual-in_err-take.result ≡ Err why = search rules in
    rw answer (first_halts start (g.O.Sink.written c.take.new.out) (held_of c.take.new.text) before c.args.bytes.now why c.requires.some (c.in_err-take.ensures.takes before words start (with_ahead before words c.args.self.now c.read_ahead.new.ahead had) way))

pub returns-clause-takes : goal.returns-clause-takes
returns-clause-takes g c before words start had way =
    subst (λ (b : List ℕ). TakesBytes start (g.O.Sink.written c.take.new.out) (held_of c.take.new.text) b c.take.new.self (Ok tt)) (first_taken before c.args.bytes.now c.requires.some)
    (c.in_ok-take.ensures.takes before words start (with_ahead before words c.args.self.now c.read_ahead.new.ahead had) way)
