-- Believed: the program's answer stands on these definitions.
-- A second list beside a first one: it has the first one's rate and number of frames, and no share.
use Rattle.std.specs.Prelude.{◌≡◌, ◌≢◌, ◌⊎◌, ℕ, IsSome, Option, Some, None}
use Rattle.cue_lists.specs.Listing.{Listing, share_of}
use Rattle.dual_plans.specs.declared.other_list.OtherField.{OtherField}

pub record AreAlike (one two : Listing) : Type 0 where
  pub rate : two.rate ≡ one.rate
  pub frames : two.frames ≡ one.frames
  pub unshared : (service : ℕ) → share_of two service ≡ None

-- the first field of the second list that isn't as the first list asks, if there is one: field 3 of record 1 is the rate, field 4 the number
-- of frames, and record 2 is the first share
abbrev pub IsJudged : Listing → Listing → Option OtherField → Type 0
IsJudged one two (Some at) =
    ((at.rec ≡ 1) × (at.field ≡ 3) × (two.rate ≢ one.rate))
    ⊎ (((at.rec ≡ 1) × (at.field ≡ 4) × (two.rate ≡ one.rate) × (two.frames ≢ one.frames))
    ⊎ ((at.rec ≡ 2) × (at.field ≡ 1) × (two.rate ≡ one.rate) × (two.frames ≡ one.frames) × ((service : ℕ) × IsSome (share_of two service))))
IsJudged one two None = AreAlike one two
