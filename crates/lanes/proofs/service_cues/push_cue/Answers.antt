use Rattle.std.proofs.Common.{◌≡◌, ◌∙◌, ◌-◌, ◌++◌, ◌∷◌, [], ap, arith, length, length-append, subst, sym}
use Rattle.dtvcc_author.specs.CueUnits.{window_cue_units}
use Rattle.lanes.specs.CueChunks.{AreCounted, chunks_of}
use Rattle.lanes.specs.declared.cue_load.CueLoad.{CueLoad}
use Rattle.lanes.proofs.CueChunkLemmas.{chunks_push, counted_push}
use Rattle.lanes.proofs.service_cues.push_cue.Goals as goal

pub returns-clause-counted : goal.returns-clause-counted
returns-clause-counted c =
    let load : CueLoad = record { load = c.args.caption.load; until = c.args.caption.starts; cue = c.args.number; count = c.len.result - c.len-before.result } in
    let more = window_cue_units c.args.cue.now in
    let count : load.count ≡ length more =
    omega (arith, c.len.ensures, c.len-before.ensures, ap length c.in_ok-push_units.ensures, length-append c.args.units.now more) in
    subst (λ l. AreCounted l c.push_units.new.units) (sym c.in_ok-push.ensures.items)
    (subst (AreCounted (c.args.loads.now.items ++ load ∷ [])) (sym c.in_ok-push_units.ensures)
    (counted_push c.args.loads.now.items load c.args.units.now more c.requires.counted count))

pub returns-clause-chunks : goal.returns-clause-chunks
returns-clause-chunks c =
    let load : CueLoad = record { load = c.args.caption.load; until = c.args.caption.starts; cue = c.args.number; count = c.len.result - c.len-before.result } in
    let more = window_cue_units c.args.cue.now in
    let count : load.count ≡ length more =
    omega (arith, c.len.ensures, c.len-before.ensures, ap length c.in_ok-push_units.ensures, length-append c.args.units.now more) in
    ap (λ l. chunks_of l c.push_units.new.units) c.in_ok-push.ensures.items
    ∙ ap (chunks_of (c.args.loads.now.items ++ load ∷ [])) c.in_ok-push_units.ensures
    ∙ chunks_push c.args.loads.now.items load c.args.units.now more c.requires.counted count
