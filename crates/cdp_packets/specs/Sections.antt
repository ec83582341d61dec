-- Believed: the program's answer stands on these definitions.
-- Sections of caption distribution packets (SMPTE ST 334-2): time code, cc_data, service information, and those kept for
-- the future. Each begins with its id; the second byte says how long it is, but for the time code, which has five bytes.
use Rattle.std.specs.Prelude.{◌≡◌, ℕ, ◌*◌, ◌%◌, ◌==◌, ◌&&◌, ◌||◌, nat_le, if◌then◌else◌, true, Bool, List, [], ◌∷◌, length}
use Rattle.std.specs.List.{concat}

-- the ids of sections; between them stands the footer's, 0x74
abbrev pub is_id : ℕ → Bool
is_id id = nat_le 0x71 id && nat_le id 0x73 || nat_le 0x75 id && nat_le id 0xEF

-- the number of bytes after the second one: three more of a time code, three a triplet, seven a service, or as many
-- as the second byte says
abbrev pub section_rest : ℕ → ℕ → ℕ
section_rest id second =
    if id == 0x71 then 3
    else if id == 0x72 then 3 * (second % 32)
    else if id == 0x73 then 7 * (second % 16)
    else second

-- bytes are one section
abbrev pub IsSection : List ℕ → Type 0
IsSection (id ∷ second ∷ rest) = (is_id id ≡ true) × (length rest ≡ section_rest id second)
IsSection _ = ⊥

-- each of these lists of bytes is a section
abbrev pub AreSections : List (List ℕ) → Type 0
AreSections [] = Unit {0}
AreSections (section ∷ sections) = IsSection section × AreSections sections

-- bytes are a list of sections, one after another
pub record IsSectionList (bytes : List ℕ) : Type 0 where
  pub cut : List (List ℕ)
  pub are : AreSections cut
  pub joined : concat cut ≡ bytes
