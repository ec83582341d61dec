use Rattle.std.proofs.Common.{rules, ◌≡◌, ◌≤◌, length, ap, refl, ◌∙◌, arith}
use Rattle.std.specs.List.{flat_map}
use Rattle.line21_codes.specs.declared.channels.FieldNumber.TheVariants.{One, Two}
use Rattle.cdp_packets.specs.PacketTriplets.{section_triplets}
use Rattle.cc_receiver.proofs.CountingLemmas.{front_pairs}
use Rattle.cc_receiver.proofs.FilledLemmas.{sections_few}
use Rattle.cc_receiver.proofs.SaysLemmas.{behind_kept}
use Rattle.cc_receiver.proofs.frame.Frame.fill.Goals as goal

kept_bytes : goal.invariant_of-self
kept_bytes c =
    let bytes : c.try_extend_from_slice.new.self.items ≡ c.args.packet.sections.now = search rules in record {
      of_sections = λ _ cut are joined.
          let own = flat_map section_triplets cut in
          let spelled = joined ∙ bytes in
          let has = c.requires.triplets cut are spelled in
          let long = ap length spelled in
          let fits = sections_few cut are in
          let few = c.requires.few in
          let most : length own ≤ 81 = omega (arith, long, few, fits) in
          let one = front_pairs One c.front.result.now own (c.front.ensures own has) most in
          let two = front_pairs Two c.front-2.result.now own (c.front-2.ensures own has) most in
          let kept = c.copy_from.ensures own has in
          record {
            items = kept.items;
            behind = behind_kept own c.copy_from.new.self kept;
            pairs_one_are = c.put_pairs.ensures One refl one.0 c.clear-2.ensures ∙ one.1;
            pairs_two_are = c.put_pairs-2.ensures Two refl two.0 c.clear-3.ensures ∙ two.1;
          };
    }

pub invariant_of-self : goal.invariant_of-self
invariant_of-self c = kept_bytes c
