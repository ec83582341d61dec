-- Believed: the program's answer stands on these definitions.
-- A cue list as clauses see it: its rate, its frames, its shares and its cues, and what holds of every one.
use Rattle.std.specs.Prelude.{ℕ, ◌≤◌, ◌==◌, List, length, find, All, Option, option_map}
use Rattle.cc_base.specs.declared.rate.Rate.{Rate}
use Rattle.cc_base.specs.declared.rate.Rate.TheVariants as rate
use Rattle.cue_types.specs.Cues.{IsCueFormed}
use Rattle.cue_types.specs.Shares.{AreShares}
use Rattle.cue_types.specs.declared.cue.Cue.{Cue}
use Rattle.cue_types.specs.declared.list.Share.{Share}

-- a cue list: its rate, its number of frames, the shares of services and the cues, in the order of their records
pub record Listing : Type 0 where
  pub rate : Rate
  pub frames : ℕ
  pub shares : List Share
  pub cues : List Cue

-- the bytes of each frame that a service may use, where the list has a share of it
abbrev pub share_of : Listing → ℕ → Option ℕ
share_of l service = option_map (λ share. share.bytes) (find (λ share. share.service == service) l.shares)

-- the most frames of a list, and the most cues
abbrev pub most_frames : ℕ
most_frames = 1000000

abbrev pub most_cues : ℕ
most_cues = 20000

-- the rates of lists
abbrev pub IsListRate : Rate → Type 0
IsListRate rate.F2997 = Unit {0}
IsListRate rate.F30 = Unit {0}
IsListRate rate.F5994 = Unit {0}
IsListRate rate.F60 = Unit {0}
IsListRate _ = ⊥

-- what holds of every cue list
pub record IsFormed (l : Listing) : Type 0 where
  pub rate : IsListRate l.rate
  pub some : 1 ≤ l.frames
  pub frames : l.frames ≤ most_frames
  pub shares : AreShares l.rate l.shares
  pub few : length l.cues ≤ most_cues
  pub cues : All IsCueFormed l.cues
