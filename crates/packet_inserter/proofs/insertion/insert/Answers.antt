use Rattle.std.proofs.Common.{◌≡◌, ◌≤◌, ◌++◌, bit_or, length, take, drop, refl, sym, ap, subst, ◌∙◌, arith}
use Rattle.std.specs.List.{concat}
use Rattle.cdp_packets.specs.Packets.{Frame}
use Rattle.cdp_packets.specs.Sections.{AreSections}
use Rattle.cdp_packets.specs.Written.{cc_data_section, written_packet}
use Rattle.cdp_packets.proofs.SectionLemmas.{cc_data_section-is}
use Rattle.packet_inserter.proofs.InsertionLemmas.{IsMade, length-new, made, put_behind, room_behind}
use Rattle.packet_inserter.proofs.insertion.insert.Goals as goal
use Rattle.packet_inserter.proofs.insertion.insert.Goals.{After-deref, After-place}

-- what is made of a packet with these sections
made_of : (c : After-place) (old : Frame) → AreSections old.sections → concat old.sections ≡ c.args.packet.now.sections.now
    → IsMade c.args.triplets.now old c.kept_sections-kept.result.items c.place.result
made_of c old are joined =
    let spot = c.place.ensures old.sections are joined in
    made c.args.triplets.now old spot.0 c.kept_sections-kept.result.items c.place.result
    (cc_data_section-is c.args.triplets.now c.requires.few) are spot.1 spot.2 (c.kept_sections-kept.ensures old.sections are joined)

-- the packet that the sections are of, whatever else it says
abbrev packet_of : (c : After-place) → Frame
packet_of c = record { rate = c.args.packet.now.rate; flags = 0; counter = 0; sections = c.requires.list.cut }

made_here : (c : After-place) → IsMade c.args.triplets.now (packet_of c) c.kept_sections-kept.result.items c.place.result
made_here c = made_of c (packet_of c) c.requires.list.are c.requires.list.joined

pub split_at-requires : goal.split_at-requires
split_at-requires c = subst (λ kept. c.place.result ≤ length kept) (sym c.as_slice.ensures.value) (made_here c).within

pub returns-then-len-triplets-gt-ROOM-clause-limit : goal.returns-then-len-triplets-gt-ROOM-clause-limit
returns-then-len-triplets-gt-ROOM-clause-limit c old says are =
    let make = made_of (goal.at.returns-then-len-triplets-gt-ROOM-clause-limit c).After-place old are (sym says.sections) in
    (refl, (make.new, make.inserted, omega (arith, make.long, c.if-len-triplets-gt-ROOM.true, c.len.ensures.value)))

pub append-requires-2 : goal.append-requires-2
append-requires-2 c =
    let make = made_here (goal.at.append-requires-2 c).After-place in
    room_behind c.kept_sections-kept.result.items c.as_slice.result.now c.new-sections.result.items c.split_at.result.0.now
    (cc_data_section c.args.triplets.now) c.split_at.result.1.now c.append.new.out.items c.cc_section.new.out.items c.place.result 244
    c.as_slice.ensures.value c.split_at.ensures.front c.split_at.ensures.back c.new-sections.ensures c.append.ensures c.cc_section.ensures.section make.within
    (omega (arith, length-new c.args.triplets.now, c.if-len-triplets-gt-ROOM.false, c.len.ensures.value))

-- the sections that were put
sections_are : (c : After-deref) → c.deref.result.now
    ≡ (take c.place.result c.kept_sections-kept.result.items ++ cc_data_section c.args.triplets.now) ++ drop c.place.result c.kept_sections-kept.result.items
sections_are c =
    put_behind c.kept_sections-kept.result.items c.as_slice.result.now c.new-sections.result.items c.split_at.result.0.now
    (cc_data_section c.args.triplets.now) c.split_at.result.1.now c.append.new.out.items c.cc_section.new.out.items c.append-2.new.out.items
    c.deref.result.now c.place.result
    c.as_slice.ensures.value c.split_at.ensures.front c.split_at.ensures.back c.new-sections.ensures c.append.ensures c.cc_section.ensures.section
    c.append-2.ensures c.deref.ensures.0

pub write_cdp-requires-clause-list : goal.write_cdp-requires-clause-list
write_cdp-requires-clause-list c =
    let make = made_here (goal.at.write_cdp-requires-clause-list c).After-place in
    let here = sections_are (goal.at.write_cdp-requires-clause-list c).After-deref in
    record { cut = make.new.sections; are = make.are; joined = sym make.sections ∙ sym here }

pub returns-clause-inserted : goal.returns-clause-inserted
returns-clause-inserted c old says are =
    let make = made_of (goal.at.returns-clause-inserted c).After-place old are (sym says.sections) in
    let here = sections_are (goal.at.returns-clause-inserted c).After-deref in
    let rate : c.args.packet.now.rate ≡ make.new.rate = says.rate ∙ sym make.rate in
    let flags : bit_or c.args.packet.now.flags 0x42 ≡ make.new.flags = ap (λ f. bit_or f 0x42) says.flags ∙ sym make.flags in
    let counter : c.args.packet.now.counter ≡ make.new.counter = says.counter ∙ sym make.counter in
    let sections : c.deref.result.now ≡ concat make.new.sections = here ∙ make.sections in (
      make.new,
      make.inserted,
      make.are,
      omega (arith, make.long, c.if-len-triplets-gt-ROOM.false, c.len.ensures.value),
      c.write_cdp.ensures.written ∙ ap (λ r. written_packet r (bit_or c.args.packet.now.flags 0x42) c.args.packet.now.counter c.deref.result.now) rate
          ∙ ap (λ f. written_packet make.new.rate f c.args.packet.now.counter c.deref.result.now) flags
          ∙ ap (λ n. written_packet make.new.rate make.new.flags n c.deref.result.now) counter
          ∙ ap (written_packet make.new.rate make.new.flags make.new.counter) sections,
    )
