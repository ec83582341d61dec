-- What stands after some triplets of a caption channel is a caption channel of its own.
use Rattle.std.proofs.Common.{◌≡◌, ◌∙◌, ◌||◌, Bool, true, false, List, [], ◌∷◌, ◌++◌, map, cond, refl, sym, ap, subst}
use Rattle.std.specs.List.{flat_map, list_all}
use Rattle.std.proofs.lemmas.Bool.{and_parts}
use Rattle.channel_packets.specs.Triplet.{Triplet}
use Rattle.channel_packets.specs.ChannelPackets.{AreChannelPackets, ChannelPacket, TripletStretch, channel_triplets, continues_packet, is_stretch, starts, stretch_packet, stretch_triplets}
use Rattle.service_blocks.specs.Channels.{AreChannel, HaveBlocks, IsHeard}
use Rattle.service_blocks.specs.ServiceBlocks.{Block}
use Rattle.service_blocks.proofs.ChannelLemmas.{channel_heard, heard_channel}

-- a channel of triplets
record IsChannel (triplets : List Triplet) : Type 0 where
  packets : List ChannelPacket
  blocks : List (List Block)
  are : AreChannel packets blocks triplets

tail_is : (t u : Triplet) (ts us : List Triplet) → t ∷ ts ≡ u ∷ us → ts ≡ us
tail_is t u ts us is = cc

-- triplets of channel packets as a channel
record IsSplit (triplets : List Triplet) : Type 0 where
  strays : List Triplet
  stretches : List TripletStretch
  blocks : List (List Block)
  spelled : triplets ≡ strays ++ flat_map stretch_triplets stretches
  strays_are : list_all continues_packet strays ≡ true
  stretches_are : list_all is_stretch stretches ≡ true
  blocks_are : HaveBlocks (map stretch_packet stretches) blocks

-- one triplet less
shorter : (t : Triplet) (rest : List Triplet) (strays : List Triplet) (stretches : List TripletStretch) (blocks : List (List Block))
    → t ∷ rest ≡ strays ++ flat_map stretch_triplets stretches → list_all continues_packet strays ≡ true → list_all is_stretch stretches ≡ true
    → HaveBlocks (map stretch_packet stretches) blocks → IsSplit rest
shorter t rest (s ∷ strays) stretches blocks is go_on are have = record {
  strays = strays;
  stretches = stretches;
  blocks = blocks;
  spelled = tail_is t s rest (strays ++ flat_map stretch_triplets stretches) is;
  strays_are = (and_parts (continues_packet s) (list_all continues_packet strays) go_on).1;
  stretches_are = are;
  blocks_are = have;
}
shorter t rest [] [] blocks is go_on are have = cc
shorter t rest [] (st ∷ stretches) [] is go_on are have = absurd have
shorter t rest [] (st ∷ stretches) (b ∷ blocks) is go_on are have =
    let parts = and_parts (is_stretch st) (list_all is_stretch stretches) are in
    record {
      strays = st.more;
      stretches = stretches;
      blocks = blocks;
      spelled = tail_is t st.first rest (st.more ++ flat_map stretch_triplets stretches) is;
      strays_are = (and_parts (starts st.first) (list_all continues_packet st.more) parts.0).1;
      stretches_are = parts.1;
      blocks_are = have.1;
    }

-- of a channel
one_less : (t : Triplet) (triplets : List Triplet) → IsChannel (t ∷ triplets) → IsChannel triplets
one_less t triplets is = at (starts t || continues_packet t) refl
  where
    p : AreChannelPackets is.packets (t ∷ triplets)
    p = is.are.packets_are

    at : (b : Bool) → (starts t || continues_packet t) ≡ b → IsChannel triplets
    at false test =
        record {
          packets = is.packets;
          blocks = is.blocks;
          are = record {
            packets_are = record {
              strays = p.strays;
              stretches = p.stretches;
              spelled = sym (ap (λ b. cond b (t ∷ channel_triplets triplets) (channel_triplets triplets)) test) ∙ p.spelled;
              strays_are = p.strays_are;
              stretches_are = p.stretches_are;
              packets_are = p.packets_are;
            };
            blocks_are = is.are.blocks_are;
          };
        }
    at true test =
        let w = shorter t (channel_triplets triplets) p.strays p.stretches is.blocks
        (sym (ap (λ b. cond b (t ∷ channel_triplets triplets) (channel_triplets triplets)) test) ∙ p.spelled) p.strays_are p.stretches_are
        (subst (λ (ps : List ChannelPacket). HaveBlocks ps is.blocks) p.packets_are is.are.blocks_are) in
        record {
          packets = map stretch_packet w.stretches;
          blocks = w.blocks;
          are = record {
            packets_are = record {
              strays = w.strays;
              stretches = w.stretches;
              spelled = w.spelled;
              strays_are = w.strays_are;
              stretches_are = w.stretches_are;
              packets_are = refl;
            };
            blocks_are = w.blocks_are;
          };
        }

many_less : (before triplets : List Triplet) → IsChannel (before ++ triplets) → IsChannel triplets
many_less [] triplets is = is
many_less (t ∷ before) triplets is = many_less before triplets (one_less t (before ++ triplets) is)

pub heard_since : (before triplets : List Triplet) → IsHeard (before ++ triplets) → IsHeard triplets
heard_since before triplets heard =
    let (packets, (blocks, are)) = heard_channel (before ++ triplets) heard in
    let left = many_less before triplets (record { packets = packets; blocks = blocks; are = are }) in
    (channel_heard left.packets left.blocks triplets left.are).is
