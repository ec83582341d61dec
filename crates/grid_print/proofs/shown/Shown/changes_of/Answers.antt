use Rattle.std.proofs.Common.{◌∙◌, ◌-◌, ap, arith, drop, length, subst, sym}
use Rattle.std.proofs.lemmas.Grind.{common_steps}
use Rattle.grid_print.specs.Changed.{bits, channel_bit, service_bit}
use Rattle.grid_print.specs.GridTexts.{all_services}
use Rattle.grid_print.specs.Kept.{changed_at, seen_at}
use Rattle.grid_print.specs.Screens.{HaveSameWindows}
use Rattle.grid_print.specs.Shown.{last_grid}
use Rattle.grid_print.proofs.DifferingLemmas.{channels_told, services_told}
use Rattle.grid_print.proofs.ScreenLemmas.{kept_now, taken_back}
use Rattle.grid_print.proofs.shown.Shown.changes_of.Goals as goal

pub returns-clause-told : goal.returns-clause-told
returns-clause-told g c seen behind = record {
  channels = c.bits.ensures
      ∙ channels_told (last_grid c.args.self.now) (g.G.Grids.grids c.args.r.now) c.channels_differ-differing.result channel_bit c.channels_differ-differing.ensures;
  services = c.service_bits.ensures
      ∙ ap (λ k. bits (λ service. changed_at k (service - 1)) service_bit all_services) (c.deref.ensures.value ∙ ap (λ k. k.items) c.keep_channels.ensures.services)
      ∙ services_told seen c.args.self.now.services.items _ c.keep_services.result
      (taken_back seen c.deref_mut.result.now c.args.self.now.services.items c.keep_services.new.services
      (drop (length c.keep_services.new.services) c.args.self.now.services.items) c.args.self.now.services.len c.keep_services.result c.deref_mut.ensures.value
      (grind (arith, common_steps)) (c.keep_services.ensures seen behind));
}

pub returns-clause-now : goal.returns-clause-now
returns-clause-now g c seen behind = record {
  grids = c.keep_channels.ensures.now;
  windows = subst (λ k. HaveSameWindows (λ service. seen_at k.items (service - 1)) seen) (sym c.keep_channels.ensures.services)
      (kept_now seen c.args.self.now.services.items _ c.keep_services.result
      (taken_back seen c.deref_mut.result.now c.args.self.now.services.items c.keep_services.new.services
      (drop (length c.keep_services.new.services) c.args.self.now.services.items) c.args.self.now.services.len c.keep_services.result c.deref_mut.ensures.value
      (grind (arith, common_steps)) (c.keep_services.ensures seen behind)));
}
