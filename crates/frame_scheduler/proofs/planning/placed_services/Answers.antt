use Rattle.std.proofs.Common.{◌≡◌, ◌∙◌, ◌+◌, suc, Some, None, sym, subst, arith}
use Rattle.dtvcc_author.specs.Captions.{service_captions}
use Rattle.dtvcc_author.specs.Kept.{AreKept}
use Rattle.lanes.proofs.CaptionsKept.{captions_kept}
use Rattle.frame_scheduler.specs.ServicePlans.{AreServices}
use Rattle.cue_lists.specs.Listing.{share_of}
use Rattle.frame_scheduler.proofs.ServicesLemmas.{one_faulty, one_planned, services_more, services_none, services_start, share_is}
use Rattle.frame_scheduler.proofs.planning.placed_services.Goals as goal
use Rattle.frame_scheduler.proofs.planning.placed_services.Goals.{in-Some, in_default}

pub loop-service-init : goal.loop-service-init
loop-service-init c = services_start c.args.list.now c.cues-cues.ensures.formed c.requires c.new.result.items c.new.ensures.items

pub placed_service-requires-clause-kept : goal.placed_service-requires-clause-kept
placed_service-requires-clause-kept c =
    let l = c.args.list.now in
    let service = c.loop-service.service in (
      l.frames,
      subst (λ r. AreKept r l.frames (service_captions r service c.cues-cues.result.now)) (sym c.rate-rate.ensures)
          (subst (λ cues. AreKept l.rate l.frames (service_captions l.rate service cues)) (sym c.cues-cues.ensures.cues)
          (captions_kept l service c.cues-cues.ensures.formed c.requires)),
    )

pub placed_service-requires-clause-least : goal.placed_service-requires-clause-least
placed_service-requires-clause-least c =
    (share_is c.args.list.now c.cues-cues.ensures.formed c.requires c.loop-service.service c.in-Some.share (sym c.share.ensures ∙ c.in-Some.is)).2

pub placed_service-requires-clause-most : goal.placed_service-requires-clause-most
placed_service-requires-clause-most c =
    (share_is c.args.list.now c.cues-cues.ensures.formed c.requires c.loop-service.service c.in-Some.share (sym c.share.ensures ∙ c.in-Some.is)).3

pub loop-service-preserved : goal.loop-service-preserved
loop-service-preserved c =
    let l = c.args.list.now in
    let service = c.loop-service.service in
    let formed = c.cues-cues.ensures.formed in
    let next : suc service ≡ service + 1 = omega arith in
    elim c.match-share.branch [
      | in-Some w ↦
          let some : share_of l service ≡ Some w.in-Some.share = sym c.share.ensures ∙ w.in-Some.is in
          let more = services_more l formed c.requires service w.in-Some.share c.loop-service.services w.placed_service.result w.beside-services.result some
          c.loop-service.invariant
          (one_planned l formed c.requires service w.in-Some.share c.rate-rate.result c.cues-cues.result.now w.placed_service.result c.rate-rate.ensures
          c.cues-cues.ensures.cues some w.placed_service.ensures.placed)
          (one_faulty l formed c.requires service w.in-Some.share c.rate-rate.result c.cues-cues.result.now w.placed_service.result c.rate-rate.ensures
          c.cues-cues.ensures.cues some w.placed_service.ensures.fault)
          w.beside-services.ensures in
          subst (λ r. AreServices l (service + 1) r) (sym w.services-is)
          (subst (λ n. AreServices l n w.beside-services.result) next more)
      | in_default w ↦
          let none : share_of l service ≡ None = sym c.share.ensures ∙ w.in_default.is in
          subst (λ r. AreServices l (service + 1) r) (sym w.services-is)
          (subst (λ n. AreServices l n c.loop-service.services) next
          (services_none l formed c.requires service c.loop-service.services none c.loop-service.invariant))
    ]

pub returns-clause-services : goal.returns-clause-services
returns-clause-services c =
    let last : c.loop-service.service ≡ 7 = omega arith in
    subst (λ n. AreServices c.args.list.now n c.loop-service.services) last c.loop-service.invariant
