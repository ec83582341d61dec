use Rattle.std.proofs.Common.{◌≡◌, ◌∙◌, ◌+◌, ◌-◌, true, false, ap, arith, length, refl, sym}
use Rattle.std.proofs.lemmas.Grind.{common_steps, pow_more}
use Rattle.std.proofs.lemmas.Option.{slice_get_read}
use Rattle.std.specs.List.{range_with_len}
use Rattle.grid_print.specs.Changed.{bits, service_bit}
use Rattle.grid_print.specs.Kept.{changed_at, changed_in}
use Rattle.grid_print.proofs.DifferingLemmas.{bits_next}
use Rattle.grid_print.proofs.changed.service_bits.Goals as goal
use Rattle.grid_print.proofs.changed.service_bits.Goals.{then-has_changed, else-has_changed}

pub loop-place-preserved : goal.loop-place-preserved
loop-place-preserved c =
    let services = c.args.services.now in
    let place = c.loop-place.place in
    let back : place + 1 - 1 ≡ place = omega arith in
    let changed : changed_at services (place + 1 - 1) ≡ c.index-services-place.result.changed =
    ap (changed_at services) back
    ∙ ap changed_in (slice_get_read services (length services) place _ refl (grind (arith, common_steps)) c.index-services-place.is) in
    elim c.if-has_changed.branch [
      | then-has_changed w ↦ record {
        bits = bits_next (λ service. changed_at services (service - 1)) place c.loop-place.bits c.if-has_changed.bits true c.loop-place.invariant.bits
            (changed ∙ sym c.has_changed.ensures ∙ w.if-has_changed.true) (w.bits-is ∙ ap (λ n. c.loop-place.bits + n) w.service_bit-bits.ensures);
        below = omega (arith, w.bits-is, w.service_bit-bits.ensures, c.loop-place.invariant.below, pow_more 2 (place + 1));
      }
      | else-has_changed w ↦ record {
        bits = bits_next (λ service. changed_at services (service - 1)) place c.loop-place.bits c.if-has_changed.bits false c.loop-place.invariant.bits
            (changed ∙ sym c.has_changed.ensures ∙ w.if-has_changed.false) (w.bits-is ∙ omega arith);
        below = omega (arith, w.bits-is, c.loop-place.invariant.below, pow_more 2 (place + 1));
      }
    ]

pub returns : goal.returns
returns c =
    let all : c.loop-place.place ≡ 63 = grind (arith, common_steps) in
    c.loop-place.invariant.bits
    ∙ ap (λ n. bits (λ service. changed_at c.args.services.now (service - 1)) service_bit (range_with_len 1 n)) all
