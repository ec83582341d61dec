-- Believed in part: the program's answer stands on some of these definitions.
-- Triplets of cc_data (CTA-708-E, cc_data()): the first of three bytes has five marker bits, the bit that says whether
-- the triplet counts, and two bits of its kind, from the top; the other two are bytes of captions.
use Rattle.std.specs.Prelude.{◌≡◌, ℕ, ◌+◌, ◌*◌, ◌/◌, ◌%◌, ◌<◌, ◌==◌, if◌then◌else◌, Bool, true, false, List, [], ◌∷◌}
use Rattle.std.specs.List.{flat_map}
use Rattle.cc_data.specs.declared.triplet.Triplet.{Triplet}

-- the bit that says whether a triplet counts
abbrev pub valid_bit : Bool → ℕ
valid_bit false = 0
valid_bit true = 1

-- the first byte of a triplet with these marker bits
abbrev pub first_byte : ℕ → Triplet → ℕ
first_byte marker t = 8 * marker + 4 * valid_bit t.valid + t.kind

-- three bytes are a triplet, whatever its marker bits are
pub record IsTriplet (t : Triplet) (bytes : List ℕ) : Type 0 where
  pub marker : ℕ
  pub five_bits : marker < 32
  pub two_bits : t.kind < 4
  pub spelled : bytes ≡ first_byte marker t ∷ t.a ∷ t.b ∷ []

-- bytes are these triplets, three bytes each
abbrev pub AreTriplets : List Triplet → List ℕ → Type 0
AreTriplets [] [] = Unit {0}
AreTriplets (t ∷ ts) (first ∷ a ∷ b ∷ rest) = IsTriplet t (first ∷ a ∷ b ∷ []) × AreTriplets ts rest
AreTriplets _ _ = ⊥

-- the triplet that three bytes are read as
abbrev pub triplet_of : ℕ → ℕ → ℕ → Triplet
triplet_of first a b = record { valid = first / 4 % 2 == 1; kind = first % 4; a = a; b = b }

-- the triplets that bytes are read as, three bytes each
abbrev pub triplets_of : List ℕ → List Triplet
triplets_of (first ∷ a ∷ b ∷ rest) = triplet_of first a b ∷ triplets_of rest
triplets_of _ = []

-- the bytes that a triplet is written as, whose marker bits are ones: the first is FC to FF where the triplet counts,
-- and F8 to FB where it doesn't
abbrev pub bytes_of_triplet : Triplet → List ℕ
bytes_of_triplet t = ((if t.valid then 0xFC else 0xF8) + t.kind) ∷ t.a ∷ t.b ∷ []

-- the bytes that triplets are written as
abbrev pub all_written : List Triplet → List ℕ
all_written ts = flat_map bytes_of_triplet ts

-- FA 00 00, with which encoders fill a section up: it would be of a channel packet, if it counted
abbrev pub filler : Triplet
filler = record { valid = false; kind = 2; a = 0; b = 0 }
