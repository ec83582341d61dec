use Rattle.std.proofs.Common.{◌≢◌, ◌∙◌, ◌<◌, ◌≤◌, ℕ, ap, arith, below_more, subst, sym}
use Rattle.line21_codes.specs.declared.channels.Chan.{Chan}
use Rattle.cc_receiver.specs.Receivers.{displayed_grid}
use Rattle.cue_lists.specs.AuthoredGrid.{authored_grid}
use Rattle.cc_verifier.specs.ChannelCursors.{cursor_channel}
use Rattle.cc_verifier.specs.ChannelLines.{line_cell}
use Rattle.cc_verifier.proofs.AreaLemmas.{none_in_rows, other_in_row}
use Rattle.cc_verifier.proofs.area.shows_other.Goals as goal

pub returns-then-row_shows_other-clause-other : goal.returns-then-row_shows_other-clause-other
returns-then-row_shows_other-clause-other c told =
    let from : 1 ≤ c.loop-row.row = omega arith in
    let to : c.loop-row.row ≤ 15 = omega arith in
    other_in_row (displayed_grid c.args.receiver.now (cursor_channel c.args.cursor.now)) (authored_grid (cursor_channel c.args.cursor.now) c.args.cues.now c.args.frame)
    c.loop-row.row (line_cell c.args.cues.now c.line-line.result) from to c.line-line.ensures
    (subst (λ (ch : Chan). (column : ℕ) × (column < 32) × (displayed_grid c.args.receiver.now ch c.loop-row.row column ≢ line_cell c.args.cues.now c.line-line.result column))
    c.channel.ensures (c.row_shows_other.ensures.other c.if-row_shows_other.true))

pub loop-row-preserved : goal.loop-row-preserved
loop-row-preserved c =
    below_more _ _ c.loop-row.invariant (λ from column col.
    ap (λ (ch : Chan). displayed_grid c.args.receiver.now ch c.loop-row.row column) (sym c.channel.ensures)
    ∙ c.row_shows_other.ensures.same c.if-row_shows_other.false column col
    ∙ sym (c.line-line.ensures column))

pub returns-clause-same : goal.returns-clause-same
returns-clause-same c told =
    none_in_rows (displayed_grid c.args.receiver.now (cursor_channel c.args.cursor.now)) (authored_grid (cursor_channel c.args.cursor.now) c.args.cues.now c.args.frame)
    (λ row below from column col. c.loop-row.invariant row (omega arith) from column col)
