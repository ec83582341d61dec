use Rattle.std.proofs.Common.{length, sym, ap, ◌∙◌, length-append, arith}
use Rattle.packet_inserter.specs.Insertion.{is_time_code_section}
use Rattle.packet_inserter.proofs.WalkLemmas.{all_time_codes, begin_passed, behind_time_codes, next_passed}
use Rattle.packet_inserter.proofs.places.time_codes_len.Goals as goal

pub loop-section-init : goal.loop-section-init
loop-section-init c = record { fits = omega arith; passed = λ cut are joined. begin_passed is_time_code_section cut c.args.sections.now are joined }

pub loop-section-preserved : goal.loop-section-preserved
loop-section-preserved c = record {
  fits = omega (arith, c.loop-section.invariant.fits, ap length c.in-Some.ensures.whole, length-append c.in-Some.section.now c.in-Some.behind.now);
  passed = λ cut are joined. next_passed is_time_code_section cut c.loop-section.rest.now c.in-Some.section.now c.in-Some.behind.now c.loop-section.place
      (c.loop-section.invariant.passed cut are joined) c.in-Some.ensures.section c.in-Some.ensures.whole
      (sym c.is_time_code.ensures ∙ c.if-not-is_time_code.false);
}

pub returns-then-not-is_time_code : goal.returns-then-not-is_time_code
returns-then-not-is_time_code c cut are joined =
    behind_time_codes cut c.loop-section.rest.now c.in-Some.section.now c.in-Some.behind.now c.loop-section.place
    (c.loop-section.invariant.passed cut are joined) c.in-Some.ensures.section c.in-Some.ensures.whole
    (sym c.is_time_code.ensures ∙ c.if-not-is_time_code.true)

pub returns : goal.returns
returns c cut are joined =
    all_time_codes cut c.loop-section.rest.now c.loop-section.place (c.loop-section.invariant.passed cut are joined) c.in_default.ensures.none
