-- Believed in part: the program's answer stands on some of these definitions.
-- Where the packets of a list stand: whole packet after whole packet, in file order.
use Rattle.std.specs.Prelude.{◌≡◌, ◌⊎◌, take, ◌-◌, ℕ, zero, suc, ◌<◌, ◌≤◌, Bool, true, false, if◌then◌else◌, List, [], ◌∷◌, ◌++◌, length, Option, Some, None}
use Rattle.line21_codes.specs.declared.codes.Code.{Code}
use Rattle.xds_packets.specs.PacketCodes.{continue_code, rest_codes, start_code}
use Rattle.xds_packets.specs.Sending.{Listed, given_in, unfinished, writing_at}

-- a code in its slot
pub record PlacedCode : Type 0 where
  pub slot : ℕ
  pub code : Code

-- the first free slot from one on
pub record IsNext (free : ℕ → Bool) (from n : ℕ) : Type 0 where
  pub behind : from ≤ n
  pub is_free : free n ≡ true
  pub none : (m : ℕ) → from ≤ m → m < n → free m ≡ false

-- the first free slot from one on, of a frame that isn't before the packet's
pub record IsStart (free : ℕ → Bool) (frame_of : ℕ → ℕ) (from frame n : ℕ) : Type 0 where
  pub behind : from ≤ n
  pub is_free : free n ≡ true
  pub due : frame ≤ frame_of n
  pub none : (m : ℕ) → from ≤ m → m < n → free m ≡ true → frame_of m < frame

-- the pairs of a packet after the one in a slot, and the slot after them all: each in the next free slot; where a slot that isn't free
-- lies between, the continue pair stands first in that slot
abbrev pub Follow : (ℕ → Bool) → Code → ℕ → List Code → List PlacedCode → ℕ → Type 0
Follow free cont at codes [] end = (codes ≡ []) × (end ≡ suc at)
Follow free cont at codes (p ∷ placed) end = IsNext free (suc at) p.slot
    × (((p.slot ≡ suc at) × ((rest : List Code) × ((codes ≡ p.code ∷ rest) × Follow free cont p.slot rest placed end)))
    ⊎ ((suc at < p.slot) × ((p.code ≡ cont) × (((code : Code) × ((rest : List Code) × (codes ≡ code ∷ rest))) × Follow free cont p.slot codes placed end))))

-- a packet from a slot on, and the slot after it
pub record StandsFrom (free : ℕ → Bool) (frame_of : ℕ → ℕ) (from : ℕ) (listed : Listed) (placed : List PlacedCode) (end : ℕ) : Type 0 where
  pub at : ℕ
  pub start : IsStart free frame_of from listed.from at
  pub others : List PlacedCode
  pub placed_are : placed ≡ record { slot = at; code = start_code listed.packet } ∷ others
  pub follow : Follow free (continue_code listed.packet) at (rest_codes listed.packet listed.packet.text) others end

-- all packets from a slot on
abbrev pub StandFrom : (ℕ → Bool) → (ℕ → ℕ) → ℕ → List Listed → List PlacedCode → ℕ → Type 0
StandFrom free frame_of from [] placed end = (placed ≡ []) × (end ≡ from)
StandFrom free frame_of from (l ∷ listed) placed end = (first rest : List PlacedCode) × ((placed ≡ first ++ rest) × ((behind : ℕ) × (StandsFrom free frame_of from l first behind × StandFrom free frame_of behind listed rest end)))

-- what is given in this many slots from one on
abbrev pub placed_in : ℕ → Option Code → List PlacedCode → List PlacedCode
placed_in n None placed = placed
placed_in n (Some code) placed = record { slot = n; code = code } ∷ placed

abbrev pub given_from : (ℕ → Option Code) → ℕ → ℕ → List PlacedCode
given_from t from zero = []
given_from t from (suc k) = placed_in from (t from) (given_from t (suc from) k)

abbrev pub given_at : (ℕ → Bool) → (ℕ → ℕ) → List Listed → ℕ → Option Code
given_at free frame_of listed n = (given_in (free n) (frame_of n) (writing_at free frame_of listed n)).code

-- the writer gives the pairs where they stand, and none elsewhere; and after them it is over
pub record GivesPlaced (free : ℕ → Bool) (frame_of : ℕ → ℕ) (listed : List Listed) (placed : List PlacedCode) (end : ℕ) : Type 0 where
  pub given_are : given_from (given_at free frame_of listed) 0 end ≡ placed
  pub none_left : (writing_at free frame_of listed end).left ≡ []
  pub none_under : (writing_at free frame_of listed end).codes ≡ []

abbrev pub StandingIsGiven : Type 0
StandingIsGiven = (free : ℕ → Bool) (frame_of : ℕ → ℕ) (listed : List Listed) (placed : List PlacedCode) (end : ℕ) → StandFrom free frame_of 0 listed placed end
    → GivesPlaced free frame_of listed placed end

-- all packets stand below a slot
pub record AllStand (free : ℕ → Bool) (frame_of : ℕ → ℕ) (listed : List Listed) (below : ℕ) : Type 0 where
  pub placed : List PlacedCode
  pub end : ℕ
  pub stand : StandFrom free frame_of 0 listed placed end
  pub within : end ≤ below

-- after this many slots the writer is over exactly where all packets stand in them
abbrev pub OverWhereAllStand : Type 0
OverWhereAllStand = (free : ℕ → Bool) (frame_of : ℕ → ℕ) (listed : List Listed) (n : ℕ)
    → (AllStand free frame_of listed n → ((writing_at free frame_of listed n).codes ≡ []) × ((writing_at free frame_of listed n).left ≡ []))
    × ((writing_at free frame_of listed n).codes ≡ [] → (writing_at free frame_of listed n).left ≡ [] → AllStand free frame_of listed n)

-- where packet n is the first that isn't ended after this many slots, those before it stand in them, and it finds no so_far there
abbrev pub LacksRoom : (ℕ → Bool) → (ℕ → ℕ) → List Listed → ℕ → Option ℕ → Type 0
LacksRoom free frame_of listed n None = AllStand free frame_of listed n
LacksRoom free frame_of listed n (Some number) = AllStand free frame_of (take (number - 1) listed) n × (AllStand free frame_of (take number listed) n → ⊥)

abbrev pub UnfinishedLacksRoom : Type 0
UnfinishedLacksRoom = (free : ℕ → Bool) (frame_of : ℕ → ℕ) (listed : List Listed) (n : ℕ) → LacksRoom free frame_of listed n (unfinished (length listed) (writing_at free frame_of listed n))

-- each further pair stands in the next free slot, and where the slot before it isn't free, the continue pair stands there first
abbrev pub PairsStandInTheNextFreeSlots : Type 0
PairsStandInTheNextFreeSlots = (free : ℕ → Bool) (frame_of : ℕ → ℕ) (listed : List Listed) (n : ℕ) (code : Code) (codes : List Code)
    → (writing_at free frame_of listed (suc n)).codes ≡ code ∷ codes
    → (given_in (free (suc n)) (frame_of (suc n)) (writing_at free frame_of listed (suc n))).code
    ≡ (if free (suc n) then Some (if free n then code else (writing_at free frame_of listed (suc n)).cont) else None)
