use Rattle.std.proofs.Common.{◌∙◌, arith, sym, ap}
use Rattle.cue_types.specs.declared.cue.Kind.{Kind}
use Rattle.cue_lists.specs.AuthoredGrid.{Picture, cells_of_cue, shown_from}
use Rattle.cc_verifier.specs.ChannelLines.{line_cell}
use Rattle.cc_verifier.specs.ChannelNewest.{newest}
use Rattle.cc_verifier.proofs.ChannelLineLemmas.{authored_is, last_is, none_last, nothing_yet, row_above, row_below, row_in, shown_roll, shown_whole, up_of}
use Rattle.cc_verifier.proofs.channel_cursor.ChannelCursor.line.Goals as goal
use Rattle.cc_verifier.proofs.channel_cursor.ChannelCursor.line.Goals.{else-row-base-via-then-row-base+else-base-row, else-row-base-via-else-row-base}

pub bounds-cues-number : goal.bounds-cues-number
bounds-cues-number c =
    let last = last_is c.args.self.now.channel c.args.cues.now c.args.self.now.next c.args.self.now.last c.in_ok-number.number c.requires.stands.passed.last c.in_ok-number.was in
    let h = c.requires.stands.passed.within in
    let k = last.before in
    omega arith

pub returns-in_err-number : goal.returns-in_err-number
returns-in_err-number c column =
    ap (λ (p : Picture). p c.args.row column)
    (authored_is c.args.cues.now c.args.frame c.args.self.now c.requires.timed c.requires.stands
    ∙ nothing_yet c.args.frame _ (none_last c.args.self.now.channel c.args.cues.now c.args.self.now.next c.args.self.now.last c.requires.stands.passed.last c.in_err-number.was))
    ∙ sym (ap (λ l. line_cell c.args.cues.now l column) c.from_residual.ensures)

pub returns-then-is_past : goal.returns-then-is_past
returns-then-is_past c column =
    let up = up_of c.args.cues.now c.args.frame c.args.self.now c.in_ok-number.number c.index-cues-number.result c.requires.timed c.requires.stands c.in_ok-number.was c.index-cues-number.is in
    ap (λ (p : Picture). p c.args.row column) (up.hidden (sym c.is_past.ensures ∙ c.if-is_past.true))

pub returns-in-Pop : goal.returns-in-Pop
returns-in-Pop c column =
    let up = up_of c.args.cues.now c.args.frame c.args.self.now c.in_ok-number.number c.index-cues-number.result c.requires.timed c.requires.stands c.in_ok-number.was c.index-cues-number.is in
    ap (λ (p : Picture). p c.args.row column) (up.shown (sym c.is_past.ensures ∙ c.if-is_past.false))
    ∙ shown_whole c.index-cues-number.result.kind c.index-cues-number.result _ c.args.row column c.in-Pop.is
    ∙ sym (ap (λ o. cells_of_cue o c.args.row column) up.is)

pub returns-in-Win : goal.returns-in-Win
returns-in-Win c column =
    let up = up_of c.args.cues.now c.args.frame c.args.self.now c.in_ok-number.number c.index-cues-number.result c.requires.timed c.requires.stands c.in_ok-number.was c.index-cues-number.is in
    ap (λ (p : Picture). p c.args.row column) (up.shown (sym c.is_past.ensures ∙ c.if-is_past.false))
    ∙ ap (λ (k : Kind). shown_from k c.index-cues-number.result (newest c.args.self.now.channel c.args.cues.now c.in_ok-number.number) c.args.row column) c.in-Win.is

pub returns-in_err-cue-in-Roll : goal.returns-in_err-cue-in-Roll
returns-in_err-cue-in-Roll c column =
    let up = up_of c.args.cues.now c.args.frame c.args.self.now c.in_ok-number.number c.index-cues-number.result c.requires.timed c.requires.stands c.in_ok-number.was c.index-cues-number.is in
    ap (λ (p : Picture). p c.args.row column) (up.shown (sym c.is_past.ensures ∙ c.if-is_past.false))
    ∙ shown_roll c.index-cues-number.result.kind c.index-cues-number.result _ c.in-Roll.field-0 c.in-Roll.rows c.base_row-base.result c.args.row column c.in-Roll.is c.base_row-base.ensures
    ∙ row_in c.in-Roll.rows c.base_row-base.result _ c.args.row column c.if-row-base.true c.if-base-row.true
    ∙ ap (λ o. cells_of_cue o c.base_row-base.result column) (c.in_err-cue-in-Roll.ensures c.index-cues-number.result up.is)
    ∙ sym (ap (λ l. line_cell c.args.cues.now l column) c.from_residual-in_err-cue-in-Roll.ensures)

pub returns-in_ok-cue-in-Roll : goal.returns-in_ok-cue-in-Roll
returns-in_ok-cue-in-Roll c column =
    let up = up_of c.args.cues.now c.args.frame c.args.self.now c.in_ok-number.number c.index-cues-number.result c.requires.timed c.requires.stands c.in_ok-number.was c.index-cues-number.is in
    ap (λ (p : Picture). p c.args.row column) (up.shown (sym c.is_past.ensures ∙ c.if-is_past.false))
    ∙ shown_roll c.index-cues-number.result.kind c.index-cues-number.result _ c.in-Roll.field-0 c.in-Roll.rows c.base_row-base.result c.args.row column c.in-Roll.is c.base_row-base.ensures
    ∙ row_in c.in-Roll.rows c.base_row-base.result _ c.args.row column c.if-row-base.true c.if-base-row.true
    ∙ ap (λ o. cells_of_cue o c.base_row-base.result column) (c.in_ok-cue-in-Roll.ensures c.index-cues-number.result up.is)

pub returns-else-row-base : goal.returns-else-row-base
returns-else-row-base c column =
    let up = up_of c.args.cues.now c.args.frame c.args.self.now c.in_ok-number.number c.index-cues-number.result c.requires.timed c.requires.stands c.in_ok-number.was c.index-cues-number.is in
    ap (λ (p : Picture). p c.args.row column) (up.shown (sym c.is_past.ensures ∙ c.if-is_past.false))
    ∙ shown_roll c.index-cues-number.result.kind c.index-cues-number.result _ c.in-Roll.field-0 c.in-Roll.rows c.base_row-base.result c.args.row column c.in-Roll.is c.base_row-base.ensures
    ∙ elim c.else-row-base.branch [
      | else-row-base-via-then-row-base+else-base-row w ↦ row_above c.in-Roll.rows c.base_row-base.result _ c.args.row column w.if-row-base.true w.if-base-row.false
      | else-row-base-via-else-row-base w ↦ row_below c.in-Roll.rows c.base_row-base.result _ c.args.row column w.if-row-base.false
    ]
