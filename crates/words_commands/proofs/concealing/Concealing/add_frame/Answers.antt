use Rattle.std.proofs.Common.{◌∙◌, ◌++◌, ◌∷◌, [], refl, subst, sym}
use Rattle.cc_base.specs.Streams.{PutCause}
use Rattle.cc_conceal.proofs.TakeLemmas.{conceals_these}
use Rattle.cc_conceal.specs.Concealed.{concealed_windows}
use Rattle.cc_conceal.specs.Concealers.{ShowsConcealed, TurnedConcealed}
use Rattle.grid_print.specs.Screens.{LookAlike}
use Rattle.grid_print.specs.Shown.{last_shown}
use Rattle.text_output.proofs.PageLemmas.{some_cause, some_then}
use Rattle.text_output.specs.Pages.{page}
use Rattle.words_commands.specs.ConcealedScreens.{lost_line}
use Rattle.words_commands.proofs.ConcealingLemmas.{frame_gathered, idle_kept, screens_now}
use Rattle.words_commands.proofs.concealing.Concealing.add_frame.Goals as goal

pub returns-then-is_idle-clause-makes : goal.returns-then-is_idle-clause-makes
returns-then-is_idle-clause-makes g c start bytes frames last shown way had are =
    let conceals = conceals_these bytes (frames ++ last ∷ []) c.args.self.now.concealer had are in
    idle_kept start _ _ frames last c.args.self.now.shown c.missing-missing.result shown way (c.missing-missing.ensures (frames ++ last ∷ []) conceals) c.if-missing-eq0.true
    (λ chan. c.is_idle.ensures bytes frames last had are c.if-is_idle.true chan) (λ service id is. c.is_touched-touched.ensures bytes frames last had are c.if-not-touched.true service id is)

pub returns-in-Done-clause-makes : goal.returns-in-Done-clause-makes
returns-in-Done-clause-makes g c start bytes frames last shown way had are =
    let all = frames ++ last ∷ [] in
    let conceals = conceals_these bytes all c.args.self.now.concealer had are in
    let shows : ShowsConcealed c.args.self.now.concealer (concealed_windows all) = record { frames = all; conceals = conceals; seen_are = refl } in
    let turned : TurnedConcealed c.args.self.now.concealer (concealed_windows frames) (concealed_windows all) =
    record { bytes = bytes; earlier = frames; last = last; had = had; frames_are = are; was_are = refl; seen_are = refl } in
    let made = frame_gathered start (page c.begin.new.self (g.O.Sink.written c.args.out.now) (g.O.Sink.faults c.args.out.now))
    (page c.write_lost.new.text (g.O.Sink.written c.write_lost.new.out) (g.O.Sink.faults c.write_lost.new.out)) _ c.answer.result frames last c.missing-missing.result c.frame-frame.result
    (last_shown c.args.self.now.shown) _ (rw (sym c.begin.ensures.held) at way) c.begin.ensures.answer c.write_lost.ensures (c.write_changes_of.ensures.text (concealed_windows frames) (concealed_windows all) turned shows shown.windows) c.answer.ensures shown
    (screens_now all c.args.self.now.concealer conceals) (c.missing-missing.ensures all conceals) (c.frame-frame.ensures all conceals) in (
      subst (LookAlike (last_shown c.write_changes_of.new.self)) (screens_now all c.args.self.now.concealer conceals) (c.write_changes_of.ensures.now (concealed_windows frames) (concealed_windows all) turned shows shown.windows),
      rw c.in-Done.is at made,
    )

pub returns-in-Failed-clause-makes : goal.returns-in-Failed-clause-makes
returns-in-Failed-clause-makes g c start bytes frames last shown way had are =
    let all = frames ++ last ∷ [] in
    let conceals = conceals_these bytes all c.args.self.now.concealer had are in
    let shows : ShowsConcealed c.args.self.now.concealer (concealed_windows all) = record { frames = all; conceals = conceals; seen_are = refl } in
    let turned : TurnedConcealed c.args.self.now.concealer (concealed_windows frames) (concealed_windows all) =
    record { bytes = bytes; earlier = frames; last = last; had = had; frames_are = are; was_are = refl; seen_are = refl } in
    let made = frame_gathered start (page c.begin.new.self (g.O.Sink.written c.args.out.now) (g.O.Sink.faults c.args.out.now))
    (page c.write_lost.new.text (g.O.Sink.written c.write_lost.new.out) (g.O.Sink.faults c.write_lost.new.out)) _ c.answer.result frames last c.missing-missing.result c.frame-frame.result
    (last_shown c.args.self.now.shown) _ (rw (sym c.begin.ensures.held) at way) c.begin.ensures.answer c.write_lost.ensures (c.write_changes_of.ensures.text (concealed_windows frames) (concealed_windows all) turned shows shown.windows) c.answer.ensures shown
    (screens_now all c.args.self.now.concealer conceals) (c.missing-missing.ensures all conceals) (c.frame-frame.ensures all conceals) in
    (tt, rw c.in-Failed.is at made)

pub returns-in-Done-clause-cause : goal.returns-in-Done-clause-cause
returns-in-Done-clause-cause g c =
    subst (λ a. PutCause (g.O.Sink.faults c.args.out.now) (g.O.Sink.faults c.write_changes_of.new.out) a) (sym c.answer.ensures ∙ c.in-Done.is)
    (some_cause _ _ c.begin.ensures.answer (some_then _ _ _ (lost_line c.missing-missing.result c.frame-frame.result, c.write_lost.ensures) c.write_changes_of.ensures.some))

pub returns-in-Failed-clause-cause : goal.returns-in-Failed-clause-cause
returns-in-Failed-clause-cause g c =
    subst (λ a. PutCause (g.O.Sink.faults c.args.out.now) (g.O.Sink.faults c.write_changes_of.new.out) a) (sym c.answer.ensures ∙ c.in-Failed.is)
    (some_cause _ _ c.begin.ensures.answer (some_then _ _ _ (lost_line c.missing-missing.result c.frame-frame.result, c.write_lost.ensures) c.write_changes_of.ensures.some))
