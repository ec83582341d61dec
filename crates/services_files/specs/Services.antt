-- Believed: the library's answers stand on these definitions.
-- What the services of DTVCC say of the parts of distribution packets (CTA-708-E, sections 5 and 6). A triplet of cc_data is tried
-- as soon as its second byte has come, with a third byte 00, and it is taken when it is whole: what it brings of channel packets and
-- their service blocks is read after the whole triplets before it.
use Rattle.std.specs.Prelude.{List, [], ◌∷◌, Option, Some, None}
use Rattle.std.specs.List.{flat_map}
use Rattle.cc_base.specs.declared.why.Why.{Why}
use Rattle.cc_base.specs.Feeding.{Verdict}
use Rattle.cc_base.specs.Steps.{step_why}
use Rattle.cc_base.specs.Syntax.{Syntax, open_behind, parts_from, parts_of}
use Rattle.cc_data.specs.declared.triplet.Triplet.{Triplet}
use Rattle.cdp_packets.specs.declared.parts.CdpPart.{CdpPart}
use Rattle.cdp_packets.specs.declared.parts.CdpPart.TheVariants as part
use Rattle.channel_packets.specs.Reading.{packet_syntax}
use Rattle.service_blocks.specs.Reading.{block_syntax}

-- the triplet that is whole with a part, if one is
abbrev pub whole_triplet : CdpPart → List Triplet
whole_triplet (part.Triplet triplet) = triplet ∷ []
whole_triplet _ = []

-- the triplets that are whole in parts, in order
abbrev pub whole_triplets : List CdpPart → List Triplet
whole_triplets parts = flat_map whole_triplet parts

-- the triplet that is tried at a part: one whose second byte has come, or a whole one
abbrev pub tried_at : CdpPart → List Triplet
tried_at (part.Half triplet) = triplet ∷ []
tried_at (part.Triplet triplet) = triplet ∷ []
tried_at _ = []

-- the first reason of two, if there is one
abbrev pub first_why : Option Why → Option Why → Option Why
first_why None other = other
first_why (Some why) other = Some why

-- why the first refused one of items is refused after this front, if one is
abbrev pub why_refused : {Front I P : Type 0} → Syntax Front I P → Front → List I → Option Why
why_refused syntax front [] = None
why_refused syntax front (item ∷ items) = first_why (step_why (syntax.judge front item)) (why_refused syntax (syntax.after front item) items)

-- why the reader of blocks refuses one of triplets, after the triplets before, if it does
abbrev pub why_unheard : List Triplet → List Triplet → Option Why
why_unheard before triplets =
    why_refused block_syntax (open_behind block_syntax (parts_of packet_syntax before)) (parts_from packet_syntax (open_behind packet_syntax before) triplets)

-- why the services refuse a part after the parts before
abbrev pub services_say : Verdict CdpPart
services_say before part = why_unheard (whole_triplets before) (tried_at part)
