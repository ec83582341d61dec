use Rattle.std.proofs.Common.{◌∙◌, ◌+◌, ◌++◌, ap, arith, drop, length, slice_index, sym, take}
use Rattle.mcc_files.specs.Readers.{state_of}
use Rattle.mcc_commands.proofs.ImportLineLemmas.{at_byte, begins_before, goes_on, item_found, item_grows, line_within, not_past, on_few, took}
use Rattle.mcc_commands.proofs.importing.offence_in.Goals as goal

pub loop-byte-init : goal.loop-byte-init
loop-byte-init c = record {
  placed = omega arith;
  reads = λ had. begins_before c.args.reader.now c.copied-ahead.result c.args.line.now c.args.place c.args.heard c.args.word had c.copied-ahead.ensures;
}

pub overflow_add-heard : goal.overflow_add-heard
overflow_add-heard c =
    let had = c.requires in
    let few = (on_few c.args.reader.now c.args.line.now c.args.place c.args.heard c.args.word had c.loop-byte.byte-index c.loop-byte.ahead c.loop-byte.heard (c.loop-byte.invariant.reads had)).1 in
    let small = c.words_more-heard.ensures.small in
    omega (arith, few, small)

pub returns-then-word-heard : goal.returns-then-word-heard
returns-then-word-heard c had =
    let ahead = c.loop-byte.ahead in
    let line = c.args.line.now in
    let i = c.loop-byte.byte-index in
    let on = c.loop-byte.invariant.reads had in
    let grown = item_grows (had.before ++ take i line) (state_of ahead on.placed) (slice_index line i) c.loop-byte.heard c.words_more-heard.result c.len.result (length c.bytes.result.now) on.read on.heard_is
    (c.len.ensures.value ∙ ap length c.item-item.ensures.bytes) (ap length c.bytes.ensures) c.words_more-heard.ensures.none c.words_more-heard.ensures.begun c.words_more-heard.ensures.on in
    let at = c.loop-byte.invariant.placed in
    let from = c.from.ensures in
    let back = c.item-item.ensures.back in
    let sub = c.saturating_sub.ensures in
    item_found c.args.reader.now line c.args.place c.args.heard c.args.word had i ahead c.loop-byte.heard c.words_more-heard.result c.saturating_sub.result c.loop-byte-test.true on grown
    c.if-word-heard.true (omega (arith, at, from, back, sub))

pub unreachable-requires : goal.unreachable-requires
unreachable-requires c =
    let had = c.requires in
    let ahead = c.loop-byte.ahead in
    let line = c.args.line.now in
    let i = c.loop-byte.byte-index in
    let on = c.loop-byte.invariant.reads had in
    let here = at_byte c.args.reader.now line c.args.place c.args.heard c.args.word had i (state_of ahead on.placed) c.loop-byte-test.true on.read in
    took (had.before ++ take i line) on.placed (slice_index line i) (drop (i + 1) line) had.to ahead c.take.new.self c.take.result on.read here.goes (c.take.ensures (had.before ++ take i line) on.placed on.read)
    (sym c.is_err.ensures.value ∙ c.if-is_err.true)

pub overflow_add-place : goal.overflow_add-place
overflow_add-place c =
    let had = c.requires in
    let at = c.loop-byte.invariant.placed in
    let within = line_within c.args.reader.now c.args.line.now c.args.place c.args.heard c.args.word had c.loop-byte.byte-index c.loop-byte-test.true in
    omega (arith, at, within)

pub loop-byte-preserved : goal.loop-byte-preserved
loop-byte-preserved c =
    let at = c.loop-byte.invariant.placed in
    record {
      placed = omega (arith, at);
      reads = λ had.
          let ahead = c.loop-byte.ahead in
          let line = c.args.line.now in
          let i = c.loop-byte.byte-index in
          let on = c.loop-byte.invariant.reads had in
          let grown = item_grows (had.before ++ take i line) (state_of ahead on.placed) (slice_index line i) c.loop-byte.heard c.words_more-heard.result c.len.result (length c.bytes.result.now) on.read on.heard_is
          (c.len.ensures.value ∙ ap length c.item-item.ensures.bytes) (ap length c.bytes.ensures) c.words_more-heard.ensures.none c.words_more-heard.ensures.begun c.words_more-heard.ensures.on in
          let past = c.if-word-heard.false in
          goes_on c.args.reader.now line c.args.place c.args.heard c.args.word had i ahead c.take.new.self c.loop-byte.heard (c.loop-byte.heard + c.words_more-heard.result) c.take.result
          c.loop-byte-test.true on grown (omega (arith, past)) (c.take.ensures (had.before ++ take i line) on.placed on.read) (sym c.is_err.ensures.value ∙ c.if-is_err.false);
    }

pub unreachable-requires-2 : goal.unreachable-requires-2
unreachable-requires-2 c =
    let had = c.requires in
    let past = c.loop-byte-test.false in
    not_past c.args.reader.now c.args.line.now c.args.place c.args.heard c.args.word had c.loop-byte.byte-index c.loop-byte.ahead c.loop-byte.heard (omega (arith, past)) (c.loop-byte.invariant.reads had)
