use Rattle.std.proofs.Common.{◌≡◌, ◌+◌, ◌++◌, ◌∙◌, ap, arith}
use Rattle.std.specs.List.{flat_map, range_with_len}
use Rattle.text_output.proofs.PageLemmas.{some_none, some_then, writes_none, writes_same, writes_then}
use Rattle.grid_print.specs.GridTexts.{service_texts}
use Rattle.grid_print.proofs.NumberLemmas.{texts_more, texts_shift}
use Rattle.grid_print.proofs.ScreenLemmas.{shown_service}
use Rattle.grid_print.proofs.service.write_shown_services.Goals as goal

pub loop-place-init : goal.loop-place-init
loop-place-init g c = record { some = some_none _; text = λ seen behind. writes_none _ }

pub loop-place-preserved : goal.loop-place-preserved
loop-place-preserved g c = record {
  some = some_then _ _ _ c.loop-place.invariant.some c.write_if_shown.ensures.some;
  text = λ seen behind.
      writes_same _ _ _ _
      (ap (λ n. flat_map (λ place. shown_service seen (place + 1)) (range_with_len 0 c.loop-place.place) ++ shown_service seen n) c.service_at.ensures.number
      ∙ texts_more (λ place. shown_service seen (place + 1)) c.loop-place.place)
      (writes_then _ _ _ _ _ (c.loop-place.invariant.text seen behind) (c.write_if_shown.ensures.text seen behind));
}

pub returns-clause-some : goal.returns-clause-some
returns-clause-some g c = c.loop-place.invariant.some

pub returns-clause-text : goal.returns-clause-text
unfolding service_texts
returns-clause-text g c seen behind =
    let all : c.loop-place.place ≡ 63 = omega arith in
    writes_same _ _ _ _
    (ap (λ n. flat_map (λ place. shown_service seen (place + 1)) (range_with_len 0 n)) all ∙ texts_shift (shown_service seen) 0 63)
    (c.loop-place.invariant.text seen behind)
