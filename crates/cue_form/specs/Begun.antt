-- Believed in part: the program's answer stands on some of these definitions.
-- A cue list that is begun: what its first records spell. Further runs belong to its last cue.
use Rattle.std.specs.Prelude.{◌≡◌, ⊤, ◌<◌, ◌≤◌, ◌^◌, Bool, true, false, List, [], ◌∷◌, ◌++◌, length, All, MatchOption, Option, Some, None, option_to_list}
use Rattle.cue_types.specs.Coloured.{coloured}
use Rattle.cue_types.specs.Cues.{IsOfKind, IsFrameOrNone, IsCueFormed}
use Rattle.cue_types.specs.Listing.{IsListRate, most_cues, most_frames}
use Rattle.cue_types.specs.Shares.{AreShares}
use Rattle.dtvcc_codes.specs.declared.pens.PenColors.{PenColors}
use Rattle.dtvcc_codes.specs.declared.windows.WinAttr.{WinAttr}
use Rattle.cue_types.specs.declared.cue.Cue.{Cue}
use Rattle.cue_types.specs.declared.cue.Kind.{Kind}
use Rattle.cue_types.specs.declared.cue.Kind.TheVariants as kind
use Rattle.cue_types.specs.declared.cue.Run.{Run}
use Rattle.cue_types.specs.declared.head.Head.{Head}
use Rattle.cue_types.specs.declared.head.Version.{Version}
use Rattle.cue_types.specs.declared.head.Version.TheVariants as version
use Rattle.cue_types.specs.declared.list.Share.{Share}

-- the head, the shares and the cues so far; further runs belong to the last cue
pub record Begun : Type 0 where
  pub head : Option Head
  pub shares : List Share
  pub earlier : List Cue
  pub last : Option Cue

-- a list without a record
abbrev pub nothing : Begun
nothing = record { head = None; shares = []; earlier = []; last = None }

-- the cues so far
abbrev pub cues_of : Begun → List Cue
cues_of b = b.earlier ++ option_to_list b.last

-- with one cue more
abbrev pub with_cue : Begun → Cue → Begun
with_cue b cue = record b { earlier = cues_of b; last = Some cue }

-- the cue with one run more
abbrev pub cue_with_run : Cue → Run → Cue
cue_with_run cue run = record cue { runs = cue.runs ++ run ∷ [] }

-- the cue with attributes of its window's own
abbrev pub kind_with_attributes : WinAttr → Kind → Kind
kind_with_attributes attributes (kind.Pop channel) = kind.Pop channel
kind_with_attributes attributes (kind.Paint channel) = kind.Paint channel
kind_with_attributes attributes (kind.Roll channel rows) = kind.Roll channel rows
kind_with_attributes attributes (kind.Win window) = kind.Win (record window { attr = Some attributes })

abbrev pub cue_with_attributes : WinAttr → Cue → Cue
cue_with_attributes attributes cue = record cue { kind = kind_with_attributes attributes cue.kind }

-- the cue with colours of its last run's own
abbrev pub cue_with_colours : PenColors → Cue → Cue
cue_with_colours colours cue = record cue { runs = coloured colours cue.runs }

-- there are none
abbrev pub no_runs : List Run → Bool
no_runs [] = true
no_runs (_ ∷ _) = false

-- the last cue has no run yet
abbrev pub awaits_run : Option Cue → Bool
awaits_run None = false
awaits_run (Some cue) = no_runs cue.runs

-- a cue in its ranges, with or without a run
pub record IsCueBegun (cue : Cue) : Type 0 where
  pub load : cue.load < 2 ^ 32
  pub show : cue.show < 2 ^ 32
  pub hide : IsFrameOrNone cue.hide
  pub kind : IsOfKind cue.kind cue.hide cue.runs

-- what a list of version 1 can't have: attributes of a window's own, and colours of a run's own
abbrev pub IsPlainKind : Kind → Type 0
IsPlainKind (kind.Pop channel) = ⊤
IsPlainKind (kind.Paint channel) = ⊤
IsPlainKind (kind.Roll channel rows) = ⊤
IsPlainKind (kind.Win window) = window.attr ≡ None

pub record IsPlain (cue : Cue) : Type 0 where
  pub kind : IsPlainKind cue.kind
  pub runs : All (λ run. run.colors ≡ None) cue.runs

-- what cues of a version are
abbrev pub AreOfVersion : Version → List Cue → Type 0
AreOfVersion version.One cues = All IsPlain cues
AreOfVersion version.Two cues = ⊤

-- a head in its ranges, and shares within its room
pub record IsHeaded (b : Begun) (head : Head) : Type 0 where
  pub rate : IsListRate head.rate
  pub some : 1 ≤ head.frames
  pub frames : head.frames ≤ most_frames
  pub shares : AreShares head.rate b.shares
  pub version : AreOfVersion head.version (cues_of b)

-- what holds of every begun list: without a head there is nothing, and without a last cue no other
pub record IsBegun (b : Begun) : Type 0 where
  pub head : MatchOption b.head (b ≡ nothing) (IsHeaded b)
  pub earlier : All IsCueFormed b.earlier
  pub last : MatchOption b.last (b.earlier ≡ []) IsCueBegun
  pub few : length (cues_of b) ≤ most_cues
