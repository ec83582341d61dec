-- Believed: the library's answers stand on these definitions.
-- What is gathered from the parts of a caption distribution packet (SMPTE ST 334-2; CTA-708-E, cc_data()): the rate, the
-- flags, the counter, the bytes of the sections, and the triplets with the pairs of line 21 among those that count. There is
-- room for 244 bytes and 81 triplets, which no packet passes.
use Rattle.std.specs.Prelude.{ℕ, nat_lt, if◌then◌else◌, List, [], ◌∷◌, ◌++◌, length}
use Rattle.cc_base.specs.declared.rate.Rate.{Rate}
use Rattle.cc_base.specs.declared.rate.Rate.TheVariants as rate
use Rattle.cc_base.specs.Steps.{front_from}
use Rattle.cc_data.specs.declared.triplet.Triplet.{Triplet}
use Rattle.cdp_packets.specs.declared.parts.CdpPart.{CdpPart}
use Rattle.cdp_packets.specs.declared.parts.CdpPart.TheVariants as part
use Rattle.line21_codes.specs.declared.channels.FieldNumber.TheVariants.{One, Two}
use Rattle.line21_codes.specs.declared.pairs.Pair.{Pair}
use Rattle.services_files.specs.Received.{field_pair}

-- what a packet's parts say: rate, flags, counter, the bytes of the sections, the triplets, and the pairs of both fields
pub record Gathered : Type 0 where
  pub rate : Rate
  pub flags : ℕ
  pub counter : ℕ
  pub sections : List ℕ
  pub triplets : List Triplet
  pub pairs_one : List Pair
  pub pairs_two : List Pair

-- before the first part
abbrev pub nothing_gathered : Gathered
nothing_gathered = record {
  rate = rate.F23976;
  flags = 0;
  counter = 0;
  sections = [];
  triplets = [];
  pairs_one = [];
  pairs_two = [];
}

-- one more after others, where there is room
abbrev pub one_more : {T : Type 0} → ℕ → List T → T → List T
one_more room items item = if nat_lt (length items) room then items ++ item ∷ [] else items

-- the pair of a triplet, if it has one of this field, after others
abbrev pub pair_more : List Pair → List Pair → List Pair
pair_more pairs [] = pairs
pair_more pairs (pair ∷ rest) = one_more 81 pairs pair

-- after one more triplet
abbrev pub with_triplet : Triplet → Gathered → Gathered
with_triplet t g = record g {
  triplets = one_more 81 g.triplets t;
  pairs_one = pair_more g.pairs_one (field_pair One t);
  pairs_two = pair_more g.pairs_two (field_pair Two t);
}

-- after one more part
abbrev pub gather : Gathered → CdpPart → Gathered
gather g (part.Rate rate) = record g { rate = rate }
gather g (part.Flags flags) = record g { flags = flags }
gather g (part.Counter counter) = record g { counter = counter }
gather g (part.SectionByte byte) = record g { sections = one_more 244 g.sections byte }
gather g (part.Half triplet) = g
gather g (part.Triplet triplet) = with_triplet triplet g
gather g part.End = g

-- after parts
abbrev pub gathered : List CdpPart → Gathered
gathered parts = front_from gather nothing_gathered parts
