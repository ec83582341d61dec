use Rattle.std.proofs.Common.{◌≡◌, ◌∙◌, false, true, get_or, set, Some, sym, ap}
use Rattle.std.proofs.lemmas.List.{get_or_default}
use Rattle.cue_lists.specs.declared.cue.Cue.{Cue}
use Rattle.cue_fit.specs.Shown.{load_after, takes_place}
use Rattle.cue_fit.proofs.ShownLemmas.{first_kept, first_load, kept, load_is, moved}
use Rattle.cue_fit.proofs.shown.move_former.Goals as goal

pub returns-in_default-clause-load : goal.returns-in_default-clause-load
returns-in_default-clause-load c =
    let off = rw c.as_slice.ensures.value at c.in_default.ensures in first_load c.args.show c.args.cue.now c.args.cues.now.items off

pub returns-in_default-clause-moved : goal.returns-in_default-clause-moved
returns-in_default-clause-moved c =
    let off = rw c.as_slice.ensures.value at c.in_default.ensures in first_kept c.args.show c.args.cue.now c.args.cues.now.items off

pub returns-then-not-takes_place-clause-load : goal.returns-then-not-takes_place-clause-load
returns-then-not-takes_place-clause-load c =
    let last = rw c.as_slice.ensures.value at c.in-Some.ensures in
    let is : c.index.result.now ≡ get_or c.args.cues.now.items c.in-Some.index c.index.result.now = c.index.ensures in
    c.load_after-load.ensures ∙ ap (λ (former : Cue). load_after c.args.cue.now (Some former)) is
    ∙ load_is c.args.show c.args.cue.now c.args.cues.now.items c.in-Some.index last c.index.result.now

pub returns-then-not-takes_place-clause-moved : goal.returns-then-not-takes_place-clause-moved
returns-then-not-takes_place-clause-moved c =
    let last = rw c.as_slice.ensures.value at c.in-Some.ensures in
    let is : c.index-2.result.now ≡ get_or c.args.cues.now.items c.in-Some.index c.index-2.result.now = c.index-2.ensures in
    let test = c.if-not-takes_place.true in
    let told = c.takes_place.ensures in
    let fails : takes_place c.args.cue.now (Some (get_or c.args.cues.now.items c.in-Some.index c.index-2.result.now)) ≡ false =
    ap (λ (former : Cue). takes_place c.args.cue.now (Some former)) (sym is) ∙ sym told ∙ test in
    kept c.args.show c.args.cue.now c.args.cues.now.items c.in-Some.index last c.index-2.result.now fails

pub returns-clause-load : goal.returns-clause-load
returns-clause-load c =
    let last = rw c.as_slice.ensures.value at c.in-Some.ensures in
    let is : c.index.result.now ≡ get_or c.args.cues.now.items c.in-Some.index c.index.result.now = c.index.ensures in
    c.load_after-load.ensures ∙ ap (λ (former : Cue). load_after c.args.cue.now (Some former)) is
    ∙ load_is c.args.show c.args.cue.now c.args.cues.now.items c.in-Some.index last c.index.result.now

pub returns-clause-moved : goal.returns-clause-moved
returns-clause-moved c =
    let last = rw c.as_slice.ensures.value at c.in-Some.ensures in
    let one : c.index_mut.result.now ≡ get_or c.args.cues.now.items c.in-Some.index c.index_mut.result.now = c.index_mut.ensures.value in
    let two : c.index-2.result.now ≡ get_or c.args.cues.now.items c.in-Some.index c.index-2.result.now = c.index-2.ensures in
    let told = c.if-not-takes_place.ensures in
    let place : takes_place c.args.cue.now (Some (get_or c.args.cues.now.items c.in-Some.index c.index_mut.result.now)) ≡ true =
    ap (λ (former : Cue). takes_place c.args.cue.now (Some former))
    (get_or_default c.args.cues.now.items c.in-Some.index c.index_mut.result.now c.index-2.result.now last.within ∙ sym two) ∙ sym told in
    ap (λ (former : Cue). set c.args.cues.now.items c.in-Some.index (record former { hide = Some c.args.show })) one
    ∙ moved c.args.show c.args.cue.now c.args.cues.now.items c.in-Some.index last c.index_mut.result.now place
