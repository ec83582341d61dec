use Rattle.std.proofs.Common.{◌≡◌, Some, sym, true, false}
use Rattle.cue_form.specs.Begun.{no_runs}
use Rattle.cue_records.proofs.CueReaderLemmas.{ends_awaiting, ends_faulty, ends_formed, none_if}
use Rattle.cue_records.proofs.cue_reader.CueReader.finish.Goals as goal

pub returns-in-Err : goal.returns-in-Err
returns-in-Err c head number records has at = ends_faulty head number records c.in-Err.fault (rw c.in-Err.is at has.begun)

pub returns-then-is_empty : goal.returns-then-is_empty
returns-then-is_empty c head number records has at =
    let last : c.in-Ok.draft.last ≡ Some c.in-Some.cue = sym (rw c.in-Ok.is at c.in-Some.ensures) in
    let none : no_runs c.in-Some.cue.runs ≡ true = none_if c.in-Some.cue.runs true (rw c.as_slice.ensures at c.if-is_empty.ensures) in
    rw (c.in_record-then-is_empty.ensures, c.out_of_form-then-is_empty.ensures, at)
    (ends_awaiting head number records c.in-Ok.draft c.in-Some.cue (rw c.in-Ok.is at has.begun) last none)

pub returns : goal.returns
returns c head number records has at =
    let last : c.in-Ok.draft.last ≡ Some c.in-Some.cue = sym (rw c.in-Ok.is at c.in-Some.ensures) in
    let some : no_runs c.in-Some.cue.runs ≡ false = none_if c.in-Some.cue.runs false (rw c.as_slice.ensures at c.if-is_empty.ensures) in
    ends_formed head number records c.in-Ok.draft c.in-Some.cue (rw c.in-Ok.is at has.begun) last some
