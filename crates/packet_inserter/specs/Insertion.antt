-- Believed: the program's answer stands on these definitions.
-- A caption distribution packet in which the captions are replaced (SMPTE ST 334-2): its cc_data sections go, and one with the
-- new triplets stands in the place of the first of them, or, where there was none, before the first section that isn't a time
-- code, or else at the end. The packet says that it carries cc_data, of an active caption service; all else stays.
use Rattle.std.specs.Prelude.{◌≡◌, ℕ, ◌+◌, ◌==◌, ◌⊎◌, not, bit_or, Bool, true, false, List, [], ◌∷◌, ◌++◌, length, filter}
use Rattle.std.specs.List.{All, concat}
use Rattle.cc_data.specs.declared.triplet.Triplet.{Triplet}
use Rattle.cdp_packets.specs.Packets.{Frame}
use Rattle.cdp_packets.specs.Written.{cc_data_section}

-- a section is one of cc_data, by its id
abbrev pub is_captions : List ℕ → Bool
is_captions (id ∷ rest) = id == 0x72
is_captions [] = false

-- it is a time code
abbrev pub is_time_code_section : List ℕ → Bool
is_time_code_section (id ∷ rest) = id == 0x71
is_time_code_section [] = false

-- it is neither removed nor new
abbrev pub is_kept : List ℕ → Bool
is_kept section = not (is_captions section)

-- these sections stand before the first one of cc_data
pub record StandBeforeCaptions (sections before : List (List ℕ)) : Type 0 where
  pub first : List ℕ
  pub behind : List (List ℕ)
  pub cut : sections ≡ before ++ first ∷ behind
  pub is_first : is_captions first ≡ true
  pub none_before : All (λ section. is_kept section ≡ true) before

-- none is one of cc_data, and these stand before the first one that isn't a time code
pub record StandBeforeOthers (sections before : List (List ℕ)) : Type 0 where
  pub none : All (λ section. is_kept section ≡ true) sections
  pub time_codes : All (λ section. is_time_code_section section ≡ true) before
  pub first : List ℕ
  pub behind : List (List ℕ)
  pub cut : sections ≡ before ++ first ∷ behind
  pub is_first : is_time_code_section first ≡ false

-- all are time codes, and these are all of them
pub record AreTimeCodes (sections before : List (List ℕ)) : Type 0 where
  pub time_codes : All (λ section. is_time_code_section section ≡ true) sections
  pub all : before ≡ sections

-- the new section's place is after these sections
abbrev pub IsPlace : List (List ℕ) → List (List ℕ) → Type 0
IsPlace sections before = StandBeforeCaptions sections before ⊎ StandBeforeOthers sections before ⊎ AreTimeCodes sections before

-- those that are kept stay in order, and the new section stands in its place
pub record IsPutAmong (section : List ℕ) (old new : List (List ℕ)) : Type 0 where
  pub before : List (List ℕ)
  pub behind : List (List ℕ)
  pub place : IsPlace old before
  pub kept : filter is_kept old ≡ before ++ behind
  pub new_is : new ≡ before ++ section ∷ behind

-- the triplets are the new packet's, which is the old one in all else: flag bits 6 and 1, cc_data and active captions,
-- are set, and the others stay
pub record IsInserted (triplets : List Triplet) (old new : Frame) : Type 0 where
  pub rate : new.rate ≡ old.rate
  pub flags : new.flags ≡ bit_or old.flags 0x42
  pub counter : new.counter ≡ old.counter
  pub sections : IsPutAmong (cc_data_section triplets) old.sections new.sections

-- the number of a packet's bytes: its sections, seven before them and four after them
abbrev pub packet_length : Frame → ℕ
packet_length packet = length (concat packet.sections) + 11
