use Rattle.std.proofs.Common.{◌≡◌, ◌-◌, ◌<◌, ◌∙◌, arith, refl, sym, ap, false, true, length}
use Rattle.std.proofs.lemmas.Option.{slice_get_read}
use Rattle.std.specs.Prelude.{Some, slice_get}
use Rattle.cue_types.specs.Line21Cues.{continues}
use Rattle.cue_lists.specs.AuthoredGrid.{chain_of}
use Rattle.cc_verifier.specs.ChannelNewest.{cue_at, newest, IsNewest}
use Rattle.cc_verifier.proofs.ChannelLineLemmas.{chain_alone, chain_broken, chain_first, chain_goes_on, cue_is}
use Rattle.cc_verifier.proofs.channel_chain.chain_cue.Goals as goal

pub returns-in_err-former : goal.returns-in_err-former
returns-in_err-former c cue is =
    let now = cue_is c.args.cues.now c.loop-left.at c.loop-left.invariant.within in
    c.loop-left.invariant.same cue now.0 is now.1
    ∙ chain_alone now.0 _ c.loop-left.left c.in_err-former.ensures c.loop-left-test.true
    ∙ sym (ap (cue_at c.args.cues.now) c.from_residual.ensures)

pub returns-then-not-continues : goal.returns-then-not-continues
returns-then-not-continues c cue is =
    let last : IsNewest c.args.channel c.args.cues.now c.loop-left.at c.in_ok-former.former = c.in_ok-former.ensures in
    let now : slice_get c.args.cues.now c.loop-left.at ≡ Some c.index-cues-at.result =
    slice_get_read c.args.cues.now _ c.loop-left.at c.index-cues-at.result refl c.loop-left.invariant.within c.index-cues-at.is in
    let within : c.in_ok-former.former < length c.args.cues.now = let h = last.before in omega arith in
    let was : slice_get c.args.cues.now c.in_ok-former.former ≡ Some c.index-cues-former.result =
    slice_get_read c.args.cues.now _ c.in_ok-former.former c.index-cues-former.result refl within c.index-cues-former.is in
    let same : last.cue ≡ c.index-cues-former.result = let h = last.is in cc in
    let broken : continues c.index-cues-at.result last.cue ≡ false = ap (continues c.index-cues-at.result) same ∙ sym c.if-not-continues.ensures in
    c.loop-left.invariant.same cue c.index-cues-at.result is now
    ∙ chain_broken c.index-cues-at.result last.cue _ _ c.loop-left.left last.are broken c.loop-left-test.true

pub loop-left-preserved : goal.loop-left-preserved
loop-left-preserved c =
    let last : IsNewest c.args.channel c.args.cues.now c.loop-left.at c.in_ok-former.former = c.in_ok-former.ensures in
    let now : slice_get c.args.cues.now c.loop-left.at ≡ Some c.index-cues-at.result =
    slice_get_read c.args.cues.now _ c.loop-left.at c.index-cues-at.result refl c.loop-left.invariant.within c.index-cues-at.is in
    let before : c.in_ok-former.former < c.loop-left.at = last.before in
    let at : c.loop-left.at < length c.args.cues.now = c.loop-left.invariant.within in
    let within : c.in_ok-former.former < length c.args.cues.now = omega arith in
    let was : slice_get c.args.cues.now c.in_ok-former.former ≡ Some c.index-cues-former.result =
    slice_get_read c.args.cues.now _ c.in_ok-former.former c.index-cues-former.result refl within c.index-cues-former.is in
    let same : last.cue ≡ c.index-cues-former.result = let h = last.is in cc in
    let on : continues c.index-cues-at.result last.cue ≡ true = ap (continues c.index-cues-at.result) same ∙ sym c.if-not-continues.ensures in
    record {
      within = within;
      same = λ cue next is next_is.
          let e : next ≡ last.cue = let h = last.is in cc in
          c.loop-left.invariant.same cue c.index-cues-at.result is now
          ∙ chain_goes_on c.index-cues-at.result last.cue _ _ c.loop-left.left last.are on c.loop-left-test.true
          ∙ ap (λ x. slice_get (chain_of x (newest c.args.channel c.args.cues.now c.in_ok-former.former)) (c.loop-left.left - 1)) (sym e);
    }

pub returns : goal.returns
returns c cue is =
    let now = cue_is c.args.cues.now c.loop-left.at c.loop-left.invariant.within in
    let none : c.loop-left.left ≡ 0 = let h = c.loop-left-test.false in omega arith in
    c.loop-left.invariant.same cue now.0 is now.1
    ∙ ap (slice_get (chain_of now.0 (newest c.args.channel c.args.cues.now c.loop-left.at))) none
    ∙ chain_first now.0 _
    ∙ sym now.1
