use Rattle.std.proofs.Common.{◌≡◌, [], refl, sym, ap, subst, ◌∙◌}
use Rattle.cc_base.specs.Steps.{front_from}
use Rattle.dtvcc_codes.specs.declared.open_command.OpenCommand.{OpenCommand}
use Rattle.dtvcc_codes.specs.Reading.{completions, open_after}
use Rattle.dtvcc_codes.specs.Readers.{Keeps}
use Rattle.dtvcc_screen.specs.Objects.{screen_of}
use Rattle.dtvcc_screen.proofs.StandsLemmas.{released_stands, stands_still}
use Rattle.dtvcc_screen.proofs.cores.Core.end_delay.Goals as goal

pub returns-clause-stands : goal.returns-clause-stands
returns-clause-stands c = λ state end stands in_delay.
    let are : c.as_slice.result.now ≡ c.args.self.now.held.items = rw (← c.take-held.ensures.value) c.as_slice.ensures.value in
    stands_still _ c.act_all.new.self _ (released_stands state c.args.clock c.as_slice.result.now (screen_of c.args.self.now.screen) c.act_all.new.self
    (ap (completions []) are ∙ stands.carries.held) (ap (front_from open_after []) are ∙ stands.carries.along end in_delay) stands.carries.screen
    (subst (λ (r : OpenCommand). Keeps state.open_bytes r) (sym c.act_all.ensures.reader) stands.unfinished) stands.are_bytes c.act_all.ensures.acted)
    refl refl refl refl
