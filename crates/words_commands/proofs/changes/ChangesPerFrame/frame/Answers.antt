use Rattle.std.proofs.Common.{◌∙◌, ◌∷◌, ◌++◌, [], subst, sym}
use Rattle.std.proofs.Math.Path.{fun_ext}
use Rattle.cc_base.specs.Streams.{PutCause}
use Rattle.words_reading.proofs.FedFrames.{frames_shown}
use Rattle.grid_print.specs.Screens.{IsBehind, LookAlike, received_screens}
use Rattle.text_output.proofs.PageLemmas.{some_cause}
use Rattle.words_commands.proofs.PrintingLemmas.{alike_after, changes_gathered, idle_gathered}
use Rattle.words_commands.proofs.changes.ChangesPerFrame.frame.Goals as goal

pub returns-then-is_idle-clause-makes : goal.returns-then-is_idle-clause-makes
returns-then-is_idle-clause-makes g c given start bytes frames next alike way received are number =
    let screens = frames_shown bytes (frames ++ next ∷ []) c.args.receiver.now received are in
    let same : LookAlike (received_screens frames) (received_screens (frames ++ next ∷ [])) = record {
      grids = sym (fun_ext (λ chan. c.is_idle.ensures.still bytes frames next received are c.if-is_idle.true chan)) ∙ screens;
      windows = λ service id is small. sym (c.is_touched-touched.ensures bytes frames next received are c.if-not-touched.true service id is);
    } in
    (alike_after _ _ _ alike same, idle_gathered _ _ _ frames next same way)

pub returns-in-Done-clause-makes : goal.returns-in-Done-clause-makes
returns-in-Done-clause-makes g c given start bytes frames next alike way received are number =
    let behind : IsBehind (frames ++ next ∷ []) c.args.receiver.now = record { bytes = bytes; received = received; frames_are = are } in
    let made = changes_gathered start _ _ c.answer.result frames next c.args.number _ (rw (sym c.begin.ensures.held) at way) c.begin.ensures.answer
    (c.write_changes.ensures.text frames next behind alike.windows) c.answer.ensures alike number in
    (c.write_changes.ensures.now frames next behind alike.windows, rw c.in-Done.is at made)

pub returns-in-Failed-clause-makes : goal.returns-in-Failed-clause-makes
returns-in-Failed-clause-makes g c given start bytes frames next alike way received are number =
    let behind : IsBehind (frames ++ next ∷ []) c.args.receiver.now = record { bytes = bytes; received = received; frames_are = are } in
    let made = changes_gathered start _ _ c.answer.result frames next c.args.number _ (rw (sym c.begin.ensures.held) at way) c.begin.ensures.answer
    (c.write_changes.ensures.text frames next behind alike.windows) c.answer.ensures alike number in
    (tt, rw c.in-Failed.is at made)

pub returns-in-Done-clause-cause : goal.returns-in-Done-clause-cause
returns-in-Done-clause-cause g c =
    subst (λ a. PutCause (g.O.Sink.faults c.args.out.now) (g.O.Sink.faults c.write_changes.new.out) a) (sym c.answer.ensures ∙ c.in-Done.is)
    (some_cause _ _ c.begin.ensures.answer c.write_changes.ensures.some)

pub returns-in-Failed-clause-cause : goal.returns-in-Failed-clause-cause
returns-in-Failed-clause-cause g c =
    subst (λ a. PutCause (g.O.Sink.faults c.args.out.now) (g.O.Sink.faults c.write_changes.new.out) a) (sym c.answer.ensures ∙ c.in-Failed.is)
    (some_cause _ _ c.begin.ensures.answer c.write_changes.ensures.some)
