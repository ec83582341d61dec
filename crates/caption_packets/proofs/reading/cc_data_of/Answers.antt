use Rattle.std.proofs.Common.{ℕ, List, ◌++◌, ◌∙◌, ap, arith, length, length-append, subst, sym}
use Rattle.caption_packets.proofs.FrameLemmas.{AreOnTheWay, section_few, way_ended, way_next}
use Rattle.caption_packets.proofs.reading.cc_data_of.Goals as goal

pub append-requires : goal.append-requires
append-requires c = omega (
  arith,
  c.loop-section.invariant.fits,
  ap length c.triplet_bytes.ensures.bytes,
  section_few c.in-Some.section.now,
  ap length c.in-Some.ensures.whole,
  length-append c.in-Some.section.now c.in-Some.behind.now,
)

pub loop-section-preserved : goal.loop-section-preserved
loop-section-preserved c = record {
  fits = omega (
    arith,
    c.loop-section.invariant.fits,
    ap length c.append.ensures,
    length-append c.loop-section.bytes.items c.triplet_bytes.result.now,
    ap length c.triplet_bytes.ensures.bytes,
    section_few c.in-Some.section.now,
    ap length c.in-Some.ensures.whole,
    length-append c.in-Some.section.now c.in-Some.behind.now,
  );
  way = λ cut are joined.
      let gathered = c.append.ensures ∙ ap (λ (more : List ℕ). c.loop-section.bytes.items ++ more) c.triplet_bytes.ensures.bytes in
      subst (AreOnTheWay cut c.in-Some.behind.now) (sym gathered)
      (way_next cut c.loop-section.rest.now c.loop-section.bytes.items c.in-Some.section.now c.in-Some.behind.now
      (c.loop-section.invariant.way cut are joined) c.in-Some.ensures.section c.in-Some.ensures.whole);
}

pub returns : goal.returns
returns c cut are joined =
    way_ended cut c.loop-section.rest.now c.loop-section.bytes.items (c.loop-section.invariant.way cut are joined) c.in_default.ensures.none
