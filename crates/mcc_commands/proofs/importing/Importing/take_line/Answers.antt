use Rattle.std.proofs.Common.{◌≡◌, ◌∙◌, ◌+◌, ◌∷◌, ◌++◌, [], List, ℕ, ap, append_assoc, arith, length, length-append, refl, sym, subst}
use Rattle.text_output.specs.Gathered.{held_of}
use Rattle.mcc_files.specs.Readers.{HasWholeBytes, packet_in, state_of}
use Rattle.mcc_files.specs.declared.reader.MccReader.{MccReader}
use Rattle.mcc_files.specs.PayloadWords.{payload_words}
use Rattle.mcc_commands.specs.Importing.{TakesBytes}
use Rattle.mcc_commands.specs.Words.{state_words}
use Rattle.mcc_commands.specs.declared.importing.Importing.{Importing}
use Rattle.mcc_commands.proofs.ImportLineLemmas.{line_few, line_halts, line_offends, line_taken}
use Rattle.mcc_commands.proofs.ImportStepLemmas.{line_result}
use Rattle.mcc_commands.proofs.importing.Importing.take_line.Goals as goal

pub put_packet-requires-clause-whole : goal.put_packet-requires-clause-whole
put_packet-requires-clause-whole g c = ((packet_in c.args.self.now.ahead).1, c.bytes.ensures ∙ c.requires.reads.whole)

pub hear-requires-clause-few : goal.hear-requires-clause-few
hear-requires-clause-few g c =
    line_few c.requires.may.bytes c.requires.may.words c.args.self.now (length c.deref.result.now) c.requires.may.had c.requires.start c.deref.ensures.1

pub hear-requires-clause-heard : goal.hear-requires-clause-heard
hear-requires-clause-heard g c = record { words = state_words (state_of c.args.self.now.reader c.requires.may.had.placed); heard = c.requires.may.had.heard }

pub offence_in-refusal-requires : goal.offence_in-refusal-requires
offence_in-refusal-requires g c =
    let may = c.requires.may in
    let reads = c.requires.reads in
    let ahead = c.args.self.now.ahead in
    let within = may.within in
    let out : c.deref.result.now ≡ payload_words (packet_in ahead).1 = c.deref.ensures.0 ∙ c.put_packet.ensures (packet_in ahead).1 (c.bytes.ensures ∙ reads.whole) in
    line_offends may.bytes may.words c.args.line.now c.deref.result.now c.args.self.now ahead c.args.self.now.hearer.heard c.in-Err.word may.had c.requires.start reads out c.deref.ensures.1 refl
    (omega (arith, within, length-append may.bytes c.args.line.now)) (c.in-Err.ensures (state_words (state_of c.args.self.now.reader may.had.placed)) may.had.heard)

pub returns-in-Err-clause-takes : goal.returns-in-Err-clause-takes
returns-in-Err-clause-takes g c before words start had reads way =
    let may = c.requires.may in
    let ahead = c.args.self.now.ahead in
    let within = may.within in
    let was = may.had.place_is in
    let is = had.place_is in
    let out : c.deref.result.now ≡ payload_words (packet_in ahead).1 = c.deref.ensures.0 ∙ c.put_packet.ensures (packet_in ahead).1 (c.bytes.ensures ∙ reads.whole) in
    let offends = line_offends before words c.args.line.now c.deref.result.now c.args.self.now ahead c.args.self.now.hearer.heard c.in-Err.word had c.requires.start reads out c.deref.ensures.1 refl
    (omega (arith, within, was, is, length-append before c.args.line.now)) (c.in-Err.ensures (state_words (state_of c.args.self.now.reader had.placed)) had.heard) in
    line_halts before words c.args.line.now c.args.self.now ahead start (g.O.Sink.written c.args.out.now) (held_of c.args.text.now) c.offence_in-refusal.result had reads
    (c.offence_in-refusal.ensures offends) way

pub overflow_add-self : goal.overflow_add-self
overflow_add-self g c =
    let may = c.requires.may in
    let within = may.within in
    let was = may.had.place_is in
    omega (arith, within, was)

pub add_packet-requires-clause-words : goal.add_packet-requires-clause-words
add_packet-requires-clause-words g c =
    subst (λ (r : MccReader). c.deref-2.result.now ≡ payload_words (packet_in r).1) (sym c.swap.ensures.x_after)
    (c.deref-2.ensures.0 ∙ c.put_packet.ensures (packet_in c.args.self.now.ahead).1 (c.bytes.ensures ∙ c.requires.reads.whole))

pub add_packet-requires-clause-whole : goal.add_packet-requires-clause-whole
add_packet-requires-clause-whole g c = subst (λ (r : MccReader). HasWholeBytes r) (sym c.swap.ensures.x_after) c.requires.reads.whole

pub add_packet-requires-clause-ended : goal.add_packet-requires-clause-ended
add_packet-requires-clause-ended g c =
    let may = c.requires.may in
    let reads = c.requires.reads in
    let out : c.deref.result.now ≡ payload_words (packet_in c.args.self.now.ahead).1 =
    c.deref.ensures.0 ∙ c.put_packet.ensures (packet_in c.args.self.now.ahead).1 (c.bytes.ensures ∙ reads.whole) in
    let now : Importing = record c.args.self.now { reader = c.swap.new.x; hearer = c.hear.new.self; place = c.args.self.now.place + length c.args.line.now } in
    let (front, spelled, line) = line_taken may.bytes may.words c.args.line.now c.deref.result.now c.args.self.now now may.had c.requires.start reads out c.swap.ensures.x_after
    (c.in_default.ensures (state_words (state_of c.args.self.now.reader may.had.placed)) may.had.heard) refl refl in
    record { placed = may.had.placed; hearer = c.hear.new.self; ended = line.ended }

pub returns-clause-takes : goal.returns-clause-takes
returns-clause-takes g c before words start had reads way =
    let out : c.deref.result.now ≡ payload_words (packet_in c.args.self.now.ahead).1 =
    c.deref.ensures.0 ∙ c.put_packet.ensures (packet_in c.args.self.now.ahead).1 (c.bytes.ensures ∙ reads.whole) in
    let now : Importing = record {
      reader = c.swap.new.x;
      hearer = c.hear.new.self;
      made = c.args.self.now.made;
      place = c.args.self.now.place + length c.args.line.now;
      ahead = c.swap.new.y;
      words = c.put_packet.new.out;
    } in
    let new : Importing = record now { made = c.add_packet.new.self } in
    let (front, spelled, line) = line_taken before words c.args.line.now c.deref.result.now c.args.self.now now had c.requires.start reads out c.swap.ensures.x_after
    (c.in_default.ensures (state_words (state_of c.args.self.now.reader had.placed)) had.heard) refl refl in
    subst (λ (b : List ℕ). TakesBytes start (g.O.Sink.written c.add_packet.new.out) (held_of c.add_packet.new.text) b new c.add_packet.result)
    (append_assoc before front (10 ∷ []) ∙ ap (λ (l : List ℕ). before ++ l) (sym spelled))
    (line_result (before ++ front) words 10 had.placed start (g.O.Sink.written c.add_packet.new.out) (held_of c.add_packet.new.text) now new c.add_packet.result line
    (c.add_packet.ensures.file had.placed c.hear.new.self line.ended) (c.add_packet.ensures.adds had.placed words start line.made way) refl refl refl)
