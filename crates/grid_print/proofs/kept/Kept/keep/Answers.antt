use Rattle.std.proofs.Common.{arith, drop, length, refl, ℕ, ◌≡◌, None}
use Rattle.std.proofs.lemmas.Grind.{common_steps}
use Rattle.grid_print.proofs.KeptLemmas.{unused_kept, used_kept, windows_back}
use Rattle.grid_print.specs.Kept.{seen_of}
use Rattle.grid_print.proofs.kept.Kept.keep.Goals as goal

pub returns-then-not-is_used-clause-kept : goal.returns-then-not-is_used-clause-kept
returns-then-not-is_used-clause-kept g c seen behind =
    let none : (id : ℕ) → seen_of c.args.self.now id ≡ None = c.args.self.now.unused c.if-not-self.true in
    unused_kept (seen c.args.service) _ _ none none
    (c.is_used.ensures seen behind c.if-not-is_used.true) refl

pub returns-clause-kept : goal.returns-clause-kept
returns-clause-kept g c seen behind =
    used_kept (seen c.args.service) _ _ c.keep_windows-changed.result
    (windows_back (seen c.args.service) c.deref_mut.result.now c.args.self.now.windows.items c.keep_windows-changed.new.windows
    (drop (length c.keep_windows-changed.new.windows) c.args.self.now.windows.items) c.args.self.now.windows.len c.keep_windows-changed.result
    c.deref_mut.ensures.value (grind (arith, common_steps)) (c.keep_windows-changed.ensures seen behind))
    refl
