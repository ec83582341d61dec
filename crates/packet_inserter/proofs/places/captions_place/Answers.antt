use Rattle.std.proofs.Common.{not, length, sym, ap, ◌∙◌, length-append, arith}
use Rattle.packet_inserter.specs.Insertion.{is_kept}
use Rattle.packet_inserter.proofs.WalkLemmas.{all_passed, begin_passed, next_passed, place_of_captions}
use Rattle.packet_inserter.proofs.places.captions_place.Goals as goal

pub loop-section-init : goal.loop-section-init
loop-section-init c = record { fits = omega arith; passed = λ cut are joined. begin_passed is_kept cut c.args.sections.now are joined }

pub loop-section-preserved : goal.loop-section-preserved
loop-section-preserved c = record {
  fits = omega (arith, c.loop-section.invariant.fits, ap length c.in-Some.ensures.whole, length-append c.in-Some.section.now c.in-Some.behind.now);
  passed = λ cut are joined. next_passed is_kept cut c.loop-section.rest.now c.in-Some.section.now c.in-Some.behind.now c.loop-section.place
      (c.loop-section.invariant.passed cut are joined) c.in-Some.ensures.section c.in-Some.ensures.whole
      (ap not (sym c.is_captions.ensures ∙ c.if-is_captions.false));
}

pub returns-then-is_captions-clause-some : goal.returns-then-is_captions-clause-some
returns-then-is_captions-clause-some c cut are joined =
    place_of_captions cut c.loop-section.rest.now c.in-Some.section.now c.in-Some.behind.now c.loop-section.place
    (c.loop-section.invariant.passed cut are joined) c.in-Some.ensures.section c.in-Some.ensures.whole
    (sym c.is_captions.ensures ∙ c.if-is_captions.true)

pub returns-clause-none : goal.returns-clause-none
returns-clause-none c cut are joined =
    all_passed is_kept cut c.loop-section.rest.now c.loop-section.place (c.loop-section.invariant.passed cut are joined) c.in_default.ensures.none
