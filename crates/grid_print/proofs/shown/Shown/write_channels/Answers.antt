use Rattle.std.proofs.Common.{append_assoc, append-nil}
use Rattle.text_output.proofs.PageLemmas.{written_same}
use Rattle.grid_print.specs.GridTexts.{channel_texts}
use Rattle.grid_print.proofs.shown.Shown.write_channels.Goals as goal

pub returns-clause-text : goal.returns-clause-text
unfolding channel_texts
returns-clause-text g c start faults before has =
    written_same start faults _ _ _ (simp (append_assoc, append-nil))
    (c.write_channel-4.ensures.text start faults _ (c.write_channel-3.ensures.text start faults _ (c.write_channel-2.ensures.text start faults _
    (c.write_channel.ensures.text start faults before has))))
