-- Believed in part: the program's answer stands on some of these definitions.
-- Where a byte of a caption distribution packet can be refused, and for what (SMPTE ST 334-2); and what sections can follow.
use Rattle.std.specs.Prelude.{◌≡◌, ℕ, ◌+◌, ◌<◌, ◌≤◌, ◌++◌, ◌⊎◌, true, List, [], ◌∷◌, drop, length}
use Rattle.std.specs.List.{All}
use Rattle.cc_base.specs.declared.why.Why.{Why}
use Rattle.cc_base.specs.declared.why.Why.TheVariants as why
use Rattle.cdp_packets.specs.Sections.{IsSectionList, is_id}

-- some list of sections of this many bytes begins with these
pub record CanBegin (left : ℕ) (front : List ℕ) : Type 0 where
  pub rest : List ℕ
  pub bytes_are : All (λ byte. byte < 256) rest
  pub are : IsSectionList (front ++ rest)
  pub long : length (front ++ rest) ≡ left

-- the bytes end with whole sections: seven bytes of the header, and after them a list of sections
abbrev pub EndWithSections : List ℕ → Type 0
EndWithSections bytes = (7 ≤ length bytes) × IsSectionList (drop 7 bytes)

-- the bytes end with the id of a section, after whole sections
pub record EndWithId (bytes : List ℕ) : Type 0 where
  pub seven : 7 ≤ length bytes
  pub sections : List ℕ
  pub are : IsSectionList sections
  pub id : ℕ
  pub id_is : is_id id ≡ true
  pub spelled : drop 7 bytes ≡ sections ++ id ∷ []

-- after these bytes, in a packet of this length, a byte may be refused for this reason: the identifier is the first two bytes,
-- the length the third, the rate the fourth; a section's id, or the footer's, follows whole sections, and a count
-- after an id; the footer is the last four bytes, its id, the counter and the sum
abbrev pub StandsAt : ℕ → List ℕ → Why → Type 0
StandsAt size bytes why.Identifier = length bytes < 2
StandsAt size bytes why.Length = length bytes ≡ 2
StandsAt size bytes why.Rate = length bytes ≡ 3
StandsAt size bytes why.Section = EndWithSections bytes × (length bytes + 4 ≤ size)
StandsAt size bytes why.Count = EndWithId bytes × (length bytes + 4 < size)
StandsAt size bytes why.Counter = (length bytes + 3 ≡ size) ⊎ (length bytes + 2 ≡ size)
StandsAt size bytes why.Sum = length bytes + 1 ≡ size
StandsAt size bytes _ = ⊥
