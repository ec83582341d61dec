use Rattle.std.proofs.Common.{not, true, false, length, sym, ap, subst, ◌∙◌, append-nil, length-append, arith}
use Rattle.packet_inserter.proofs.WalkLemmas.{AreKept, all_kept, begin_kept, next_kept}
use Rattle.packet_inserter.proofs.places.kept_sections.Goals as goal

pub loop-section-init : goal.loop-section-init
loop-section-init c = record {
  fits = rw c.new-kept.ensures (omega (arith, c.requires));
  kept = λ cut are joined. rw c.new-kept.ensures (begin_kept cut c.args.sections.now are joined);
}

pub loop-section-preserved-then-not-is_captions : goal.loop-section-preserved-then-not-is_captions
loop-section-preserved-then-not-is_captions c = record {
  fits = omega (
    arith,
    c.loop-section.invariant.fits,
    ap length c.append.ensures,
    length-append c.loop-section.kept.items c.in-Some.section.now,
    ap length c.in-Some.ensures.whole,
    length-append c.in-Some.section.now c.in-Some.behind.now,
  );
  kept = λ cut are joined. subst (AreKept cut c.in-Some.behind.now) (sym c.append.ensures)
      (next_kept cut c.loop-section.rest.now c.in-Some.section.now c.in-Some.behind.now c.loop-section.kept.items true
      (c.loop-section.invariant.kept cut are joined) c.in-Some.ensures.section c.in-Some.ensures.whole
      (ap not (sym c.is_captions.ensures ∙ c.if-not-is_captions.true)));
}

pub loop-section-preserved : goal.loop-section-preserved
loop-section-preserved c = record {
  fits = omega (
    arith,
    c.loop-section.invariant.fits,
    ap length c.in-Some.ensures.whole,
    length-append c.in-Some.section.now c.in-Some.behind.now,
  );
  kept = λ cut are joined. subst (AreKept cut c.in-Some.behind.now) (append-nil c.loop-section.kept.items)
      (next_kept cut c.loop-section.rest.now c.in-Some.section.now c.in-Some.behind.now c.loop-section.kept.items false
      (c.loop-section.invariant.kept cut are joined) c.in-Some.ensures.section c.in-Some.ensures.whole
      (ap not (sym c.is_captions.ensures ∙ c.if-not-is_captions.false)));
}

pub returns : goal.returns
returns c cut are joined =
    all_kept cut c.loop-section.rest.now c.loop-section.kept.items (c.loop-section.invariant.kept cut are joined) c.in_default.ensures.none
