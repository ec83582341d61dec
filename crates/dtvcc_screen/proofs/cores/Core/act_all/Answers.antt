use Rattle.std.proofs.Common.{◌≡◌, ℕ, ◌+◌, ◌<◌, List, [], None, length, refl, sym, ap, subst, ◌∙◌}
use Rattle.cc_base.specs.Steps.{front_from}
use Rattle.dtvcc_codes.specs.Reading.{open_after}
use Rattle.dtvcc_codes.specs.Readers.{Keeps}
use Rattle.dtvcc_screen.specs.declared.cores.Core.{Core}
use Rattle.dtvcc_screen.specs.Cores.{tenths_of, until_of}
use Rattle.dtvcc_screen.specs.Objects.{screen_of}
use Rattle.dtvcc_screen.proofs.CoreLemmas.{front, front_next, next_going, next_none, rest_acted}
use Rattle.dtvcc_screen.proofs.StandsLemmas.{delayed_carries, rest_of, until_none}
use Rattle.dtvcc_screen.proofs.cores.Core.act_all.Goals as goal
use Rattle.dtvcc_screen.proofs.cores.Core.act_all.Goals.{in-Some+else-is_some, in_default}

pub returns-then-is_some-clause-acted : goal.returns-then-is_some-clause-acted
returns-then-is_some-clause-acted c =
    delayed_carries c.args.bytes.now c.loop-k.k _ c.in-Some.command c.args.clock (screen_of c.args.self.now.screen) (screen_of c.loop-k.self.screen)
    c.loop-k.self.until _ c.loop-k-test.true refl (c.in-Some.ensures.says (front c.args.bytes.now c.loop-k.k) c.loop-k.invariant.cut)
    c.loop-k.invariant.rest c.act.ensures.screen c.act.ensures.until c.loop-k.invariant.going (sym c.is_some.ensures ∙ c.if-is_some.true)
    (rest_of _ c.args.bytes.now (c.loop-k.k + 1) (length c.args.bytes.now) c.hold.ensures refl)

pub loop-k-preserved : goal.loop-k-preserved
loop-k-preserved c =
    let bytes : List ℕ = c.args.bytes.now in
    let open_bytes : List ℕ = front_from open_after [] bytes in
    let within : c.loop-k.k < length bytes = c.loop-k-test.true in
    let cut = subst (λ (open_now : List ℕ). Keeps open_now c.take.new.self) (sym (front_next bytes c.loop-k.k _ within refl))
    (c.take.ensures.leads (front bytes c.loop-k.k) c.loop-k.invariant.cut) in
    elim c.match-take.branch [
      | in-Some+else-is_some w ↦
          let going : w.act.new.self.until ≡ None = until_none w.act.new.self.until (sym w.is_some.ensures ∙ w.if-is_some.false) in
          let none : until_of (tenths_of w.in-Some.command) c.args.clock None ≡ None =
          sym (w.act.ensures.until ∙ ap (until_of (tenths_of w.in-Some.command) c.args.clock) c.loop-k.invariant.going) ∙ going in
          record {
            cut = cut;
            going = ap (λ (s : Core). s.until) w.self-is ∙ going;
            empty = ap (λ (s : Core). s.held.items) w.self-is ∙ w.act.ensures.held ∙ c.loop-k.invariant.empty;
            kept = ap (λ (s : Core). s.reader) w.self-is ∙ w.act.ensures.reader ∙ c.loop-k.invariant.kept;
            rest = c.loop-k.invariant.rest
                ∙ next_going bytes c.loop-k.k _ w.in-Some.command c.args.clock open_bytes (screen_of c.loop-k.self.screen) (screen_of w.act.new.self.screen)
                within refl (w.in-Some.ensures.says (front bytes c.loop-k.k) c.loop-k.invariant.cut) w.act.ensures.screen none
                ∙ ap (λ (s : Core). rest_acted bytes (c.loop-k.k + 1) c.args.clock open_bytes (screen_of s.screen)) (sym w.self-is);
          }
      | in_default w ↦ record {
        cut = cut;
        going = ap (λ (s : Core). s.until) w.self-is ∙ c.loop-k.invariant.going;
        empty = ap (λ (s : Core). s.held.items) w.self-is ∙ c.loop-k.invariant.empty;
        kept = ap (λ (s : Core). s.reader) w.self-is ∙ c.loop-k.invariant.kept;
        rest = c.loop-k.invariant.rest
            ∙ next_none bytes c.loop-k.k _ c.args.clock open_bytes (screen_of c.loop-k.self.screen) within refl
            (sym w.in_default.is ∙ c.take.ensures.says (front bytes c.loop-k.k) c.loop-k.invariant.cut)
            ∙ ap (λ (s : Core). rest_acted bytes (c.loop-k.k + 1) c.args.clock open_bytes (screen_of s.screen)) (sym w.self-is);
      }
    ]
