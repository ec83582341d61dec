-- Between crates: the program's answer stands on none of these definitions.
-- Rule WindowBusy: a window cue loads when no earlier cue uses its window.
use Rattle.std.specs.Prelude.{◌==◌, ◌&&◌, nat_lt, Bool, false, List, [], ◌∷◌}
use Rattle.cue_types.specs.declared.cue.Cue.{Cue}
use Rattle.cue_types.specs.declared.cue.Kind.{Kind}
use Rattle.cue_types.specs.declared.cue.Kind.TheVariants as kind
use Rattle.cue_types.specs.Hide.{hide_is}
use Rattle.cue_lists.specs.Rules.Alternatives.{Alternative, with_earlier}
use Rattle.cue_lists.specs.Rules.Former.{nearest_number}

-- two window cues of one service and ID
abbrev pub same_window : Kind → Kind → Bool
same_window (kind.Win a) (kind.Win b) = (a.service == b.service) && (a.id == b.id)
same_window (kind.Win a) (kind.Pop c) = false
same_window (kind.Win a) (kind.Paint c) = false
same_window (kind.Win a) (kind.Roll c n) = false
same_window (kind.Pop c) b = false
same_window (kind.Paint c) b = false
same_window (kind.Roll c n) b = false

-- an earlier cue of the same service and ID has a HIDE above the cue's LOAD
abbrev pub keeps_window : Cue → Cue → Bool
keeps_window cue other =
    same_window cue.kind other.kind && hide_is other.hide (λ hide. nat_lt cue.load hide)

-- the way to break the rule
abbrev pub window_busy : Cue → List Cue → List Alternative
window_busy cue earlier = with_earlier (nearest_number (keeps_window cue) earlier) ∷ []
