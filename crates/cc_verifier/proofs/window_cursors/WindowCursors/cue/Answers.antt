use Rattle.std.proofs.Common.{◌+◌, ◌-◌, ◌*◌, ◌∙◌, ap}
use Rattle.std.specs.Prelude.{slice_index_or}
use Rattle.cc_verifier.proofs.WindowCursorLemmas.{formed_cue, hidden_cue, no_cue, shown_cue}
use Rattle.cc_verifier.proofs.window_cursors.WindowCursors.cue.Goals as goal
use Rattle.cc_verifier.proofs.window_cursors.WindowCursors.cue.Goals.{in_default-via-in-Some+else-cue-frame, in_default-via-in_default}

pub returns-in-Some-clause-authored : goal.returns-in-Some-clause-authored
returns-in-Some-clause-authored c =
    let looked = c.in-Some.ensures.lookup in
    shown_cue c.args.cues.now c.args.frame c.args.self.now c.args.service c.args.id c.in-Some.cue.now (c.from.result * 8 + c.from-2.result)
    (ap (λ n. n * 8 + c.from-2.result) c.from.ensures ∙ ap (λ n. (c.args.service - 1) * 8 + n) c.from-2.ensures)
    c.requires.window c.requires.turn c.requires.at looked.0 looked.1 c.if-cue-frame.true

pub returns-in_default-clause-authored : goal.returns-in_default-clause-authored
returns-in_default-clause-authored c = elim c.in_default.branch [
  | in_default-via-in-Some+else-cue-frame w ↦
      let looked = w.in-Some.ensures.lookup in
      hidden_cue c.args.cues.now c.args.frame c.args.self.now c.args.service c.args.id w.in-Some.cue.now (c.from.result * 8 + c.from-2.result)
      (ap (λ n. n * 8 + c.from-2.result) c.from.ensures ∙ ap (λ n. (c.args.service - 1) * 8 + n) c.from-2.ensures)
      c.requires.window c.requires.turn c.requires.at looked.0 looked.1 w.if-cue-frame.false
  | in_default-via-in_default w ↦
      no_cue c.args.cues.now c.args.frame c.args.self.now c.args.service c.args.id (c.from.result * 8 + c.from-2.result)
      (ap (λ n. n * 8 + c.from-2.result) c.from.ensures ∙ ap (λ n. (c.args.service - 1) * 8 + n) c.from-2.ensures)
      c.requires.window c.requires.turn c.requires.at w.in_default.ensures.lookup.0
]

pub returns-in-Some-clause-formed : goal.returns-in-Some-clause-formed
returns-in-Some-clause-formed c formed =
    let looked = c.in-Some.ensures.lookup in
    formed_cue c.args.cues.now (slice_index_or c.args.self.now.places (c.from.result * 8 + c.from-2.result) 0) c.in-Some.cue.now formed looked.0 looked.1
