-- Between crates: the program's answer stands on none of these definitions.
-- The times in which cues are loaded, looked up frame by frame.
use Rattle.std.specs.Prelude.{◌≡◌, ⊤, ℕ, ◌≤◌, ◌&&◌, nat_le, nat_lt, Bool, List, [], ◌∷◌, drop, map}
use Rattle.std.specs.List.{list_any}
use Rattle.cue_lists.specs.Channels.{cues_on}
use Rattle.cue_lists.specs.declared.cue.Cue.{Cue}
use Rattle.line21_codes.specs.declared.channels.Chan.TheVariants.{Cc3}
use Rattle.xds_frames.specs.FreeSlots.{is_loading}
use Rattle.xds_frames.specs.declared.loads.Loads.{Loads}
use Rattle.xds_frames.specs.declared.span.Span.{Span}

-- the time of a cue
abbrev pub span_of : Cue → Span
span_of cue = record { load = cue.load; show = cue.show }

-- the frame lies in one of these times
abbrev pub is_within : List Span → ℕ → Bool
is_within spans frame = list_any (λ (span : Span). nat_le span.load frame && nat_lt frame span.show) spans

-- none begins before one that stands before it
abbrev pub AreInOrder : List Span → Type 0
AreInOrder [] = ⊤
AreInOrder (span ∷ []) = ⊤
AreInOrder (span ∷ (next ∷ spans)) = (span.load ≤ next.load) × AreInOrder (next ∷ spans)

-- the cues of CC3 are loaded in their order
abbrev pub AreLoadedInOrder : List Cue → Type 0
AreLoadedInOrder cues = AreInOrder (map span_of (cues_on Cc3 cues))

-- they are the times of these cues, which are loaded in their order, and what is left tells of each frame from this one on whether a cue
-- of CC3 is loaded in it
pub record StandsAt (cues : List Cue) (frame : ℕ) (loads : Loads) : Type 0 where
  pub spans_are : map span_of (cues_on Cc3 cues) ≡ loads.spans.items
  pub ordered : AreLoadedInOrder cues
  pub order : AreInOrder (drop loads.next loads.spans.items)
  pub tells : (later : ℕ) → frame ≤ later → is_loading Cc3 cues later ≡ is_within (drop loads.next loads.spans.items) later
