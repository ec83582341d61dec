use Rattle.std.proofs.Common.{◌≡◌, [], ◌∷◌, false, reverse, refl, ap, ◌∙◌, arith}
use Rattle.cue_types.specs.Lane.{is_win}
use Rattle.cue_types.specs.Windows.{IsWindow}
use Rattle.cue_types.specs.declared.cue.Cue.{Cue}
use Rattle.cue_lists.specs.Rules.Alternatives.{first_broken, with_earlier}
use Rattle.cue_lists.specs.Rules.WindowBusy.{keeps_window}
use Rattle.cue_lists.proofs.LastOfWindows.{busy_number, last_number, not_window, window_formed}
use Rattle.cue_lists.proofs.RuleNearest.{keeps_window_of_line21, nearest_none}
use Rattle.cue_lists.proofs.rules.windows.breaks_window_busy.Goals as goal

pub returns-in_default : goal.returns-in_default
returns-in_default c list kept =
    let line21 : is_win c.args.cue.now.kind ≡ false = not_window c.args.cue.now.kind c.in_default.not-Win in
    rw (nearest_none (keeps_window c.args.cue.now) (reverse c.args.earlier.now) (λ (other : Cue). keeps_window_of_line21 c.args.cue.now other line21)) refl

pub busy-requires : goal.busy-requires
busy-requires c n is =
    let window : IsWindow c.in-Win.window = window_formed c.args.cue.now c.in-Win.window c.requires.formed c.in-Win.is in
    last_number c.args.formers.now (reverse c.args.earlier.now) c.in-Win.window.service c.in-Win.window.id n c.last_in-number.result c.requires.formers
    (omega (arith, window.service)) (omega (arith, window.id)) c.last_in-number.ensures is

pub returns : goal.returns
returns c list kept =
    c.against.ensures
    ∙ ap (λ number. first_broken (with_earlier number ∷ []))
    (busy_number list c.in-Win.window c.args.cue.now c.args.earlier.now c.args.formers.now c.last_in-number.result c.busy.result c.requires.formed c.in-Win.is
    c.requires.earlier c.requires.formers kept c.last_in-number.ensures c.busy.ensures)
