use Rattle.std.proofs.Common.{arith, sym, subst}
use Rattle.std.proofs.lemmas.Grind.{common_steps}
use Rattle.std.proofs.lemmas.List.Folds.{flat_map-map}
use Rattle.cc_data.specs.Triplets.{bytes_of_triplet}
use Rattle.cdp_packets.specs.Sections.{IsSectionList}
use Rattle.cdp_packets.specs.Written.{cc_data_section}
use Rattle.cdp_packets.proofs.SectionLemmas.{list-push, cc_data_section-is}
use Rattle.cdp_packets.proofs.sections.cc_section.Goals as goal

pub returns-clause-section : goal.returns-clause-section
returns-clause-section c =
    let joined = flat_map-map (λ bytes. bytes) bytes_of_triplet c.args.triplets.now in
    grind (arith, common_steps)

pub returns-clause-list : goal.returns-clause-list
returns-clause-list c list =
    subst IsSectionList (sym (returns-clause-section c)) (list-push c.args.out.now.items (cc_data_section c.args.triplets.now) list (cc_data_section-is c.args.triplets.now c.requires.few))
