use Rattle.std.proofs.Common.{◌≡◌, ◌<◌, [], ◌∷◌, false, reverse, refl, ap, ◌∙◌, arith}
use Rattle.cue_types.specs.Lane.{is_win}
use Rattle.cue_types.specs.Windows.{IsWindow}
use Rattle.cue_types.specs.declared.cue.Cue.{Cue}
use Rattle.cue_lists.specs.Rules.Alternatives.{first_broken, with_earlier}
use Rattle.cue_lists.specs.Rules.DelayCovers.{delays_cross}
use Rattle.cue_lists.proofs.LastOfWindows.{crossing_number, last_number, not_window, window_formed}
use Rattle.cue_lists.proofs.RuleNearest.{delays_cross_of_line21, nearest_none}
use Rattle.cue_lists.proofs.rules.windows.breaks_delay_covers.Goals as goal

pub returns-in_default : goal.returns-in_default
returns-in_default c list same kept none =
    let line21 : is_win c.args.cue.now.kind ≡ false = not_window c.args.cue.now.kind c.in_default.not-Win in
    rw (nearest_none (delays_cross c.args.rate c.args.cue.now) (reverse c.args.earlier.now) (λ (other : Cue). delays_cross_of_line21 c.args.rate c.args.cue.now other line21)) refl

pub crossing-requires : goal.crossing-requires
crossing-requires c n is =
    let window : IsWindow c.in-Win.window = window_formed c.args.cue.now c.in-Win.window c.requires.formed c.in-Win.is in
    let below : c.loop-id.id < 8 = c.loop-id-test.true in
    last_number c.args.formers.now (reverse c.args.earlier.now) c.in-Win.window.service c.loop-id.id n c.last_in-number.result c.requires.formers
    (omega (arith, window.service)) below c.last_in-number.ensures is

pub returns : goal.returns
returns c list same kept none =
    let counted : c.loop-id.id ≡ 8 = omega arith in
    c.against.ensures
    ∙ ap (λ number. first_broken (with_earlier number ∷ []))
    (crossing_number list c.args.rate c.in-Win.window c.args.cue.now c.args.earlier.now c.args.formers.now c.loop-id.nearest c.loop-id.id same c.requires.formed
    c.in-Win.is c.requires.earlier c.requires.formers kept none c.loop-id.invariant counted)
