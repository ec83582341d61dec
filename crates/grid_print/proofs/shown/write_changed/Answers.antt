use Rattle.std.proofs.Common.{◌≡◌, ◌+◌, ◌++◌, ◌∙◌, Bool, List, [], if◌then◌else◌, ap, arith, length, refl, sym, ℕ}
use Rattle.std.proofs.lemmas.Grind.{common_steps}
use Rattle.std.proofs.lemmas.Option.{slice_get_read}
use Rattle.std.specs.List.{flat_map, range_with_len}
use Rattle.text_output.proofs.PageLemmas.{some_none, some_then, writes_none, writes_same, writes_then}
use Rattle.grid_print.specs.WindowTexts.{service_text}
use Rattle.grid_print.specs.Kept.{changed_at, changed_in, changed_places}
use Rattle.grid_print.proofs.NumberLemmas.{texts_more}
use Rattle.grid_print.proofs.shown.write_changed.Goals as goal

pub loop-place-init : goal.loop-place-init
loop-place-init g c = record { some = some_none _; text = λ seen behind. writes_none _ }

pub loop-place-preserved : goal.loop-place-preserved
loop-place-preserved g c = record {
  some = some_then _ _ _ c.loop-place.invariant.some c.write_if_changed.ensures.some;
  text = λ seen behind.
      let f : ℕ → List ℕ = λ place. if changed_at c.args.services.now place then service_text (place + 1) (seen (place + 1)) else [] in
      writes_same _ _ _ _
      (ap (λ n. flat_map f (range_with_len 0 c.loop-place.place) ++ (if c.index-services-place.result.changed then service_text n (seen n) else [])) c.service_at.ensures.number
      ∙ ap (λ (b : Bool). flat_map f (range_with_len 0 c.loop-place.place) ++ (if b then service_text (c.loop-place.place + 1) (seen (c.loop-place.place + 1)) else []))
      (ap changed_in (sym (slice_get_read c.args.services.now (length c.args.services.now) c.loop-place.place _ refl (grind (arith, common_steps)) c.index-services-place.is)))
      ∙ texts_more f c.loop-place.place)
      (writes_then _ _ _ _ _ (c.loop-place.invariant.text seen behind) (c.write_if_changed.ensures.text seen behind));
}

pub returns-clause-some : goal.returns-clause-some
returns-clause-some g c = c.loop-place.invariant.some

pub returns-clause-text : goal.returns-clause-text
unfolding changed_places
returns-clause-text g c seen behind =
    let all : c.loop-place.place ≡ 63 = grind (arith, common_steps) in
    writes_same _ _ _ _
    (ap (λ n. flat_map (λ place. if changed_at c.args.services.now place then service_text (place + 1) (seen (place + 1)) else []) (range_with_len 0 n)) all)
    (c.loop-place.invariant.text seen behind)
