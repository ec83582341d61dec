-- Between crates: the program's answer stands on none of these definitions.
-- Rule Share: a window cue's service has a share of the frame.
use Rattle.std.specs.Prelude.{is_none, Bool, false, List, [], ◌∷◌}
use Rattle.cue_types.specs.Listing.{Listing, share_of}
use Rattle.cue_lists.specs.Rules.Alternatives.{Alternative, alone}
use Rattle.cue_types.specs.declared.cue.Cue.{Cue}
use Rattle.cue_types.specs.declared.cue.Kind.{Kind}
use Rattle.cue_types.specs.declared.cue.Kind.TheVariants as kind

-- a window cue's service has no share
abbrev pub lacks_share : Listing → Kind → Bool
lacks_share list (kind.Pop channel) = false
lacks_share list (kind.Paint channel) = false
lacks_share list (kind.Roll channel rows) = false
lacks_share list (kind.Win window) = is_none (share_of list window.service)

-- the way to break the rule
abbrev pub share : Listing → Cue → List Alternative
share list cue = alone (lacks_share list cue.kind) ∷ []
