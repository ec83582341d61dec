-- Between crates: the program's answer stands on none of these definitions.
-- Rule Overlap: no two runs of a cue write one cell, and no two cues of a channel are shown at once.
use Rattle.std.specs.Prelude.{◌&&◌, nat_lt, Bool, List, [], ◌∷◌, Option}
use Rattle.cue_types.specs.declared.cue.Cue.{Cue}
use Rattle.cue_types.specs.Hide.{hide_is}
use Rattle.cue_lists.specs.Rules.Alternatives.{Alternative, alone, with_former}
use Rattle.cue_types.specs.Cells.{have_shared_cell}
use Rattle.cue_types.specs.Lane.{is_line21}

-- on a channel, SHOW is below the former cue's HIDE
abbrev pub shows_before_it_hides : Cue → Cue → Bool
shows_before_it_hides cue former = is_line21 cue.kind && hide_is former.hide (λ hide. nat_lt cue.show hide)

-- the ways to break the rule: two runs of the cue share a cell, lead cells counted; or the cue shows too early
abbrev pub overlap : Cue → Option Cue → List Alternative
overlap cue former =
    alone (have_shared_cell cue.runs)
    ∷ with_former former (shows_before_it_hides cue)
    ∷ []
