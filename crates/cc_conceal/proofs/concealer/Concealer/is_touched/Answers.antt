use Rattle.std.proofs.Common.{◌∙◌, ◌∷◌, ◌++◌, [], List, ap, refl, subst, sym}
use Rattle.cdp_packets.specs.Packets.{Frame}
use Rattle.dtvcc_services.specs.Objects.{served_now, service_behind}
use Rattle.services_files.specs.CarriedChannel.{file_triplets}
use Rattle.cc_receiver.specs.ReceivedServices.{received_windows}
use Rattle.cc_conceal.specs.Concealed.{heard_of}
use Rattle.cc_conceal.specs.Concealers.{AreServed}
use Rattle.cc_conceal.proofs.HeardLemmas.{lasts_are}
use Rattle.cc_conceal.proofs.TakeLemmas.{conceals_these, seen_from_reset}
use Rattle.cc_conceal.proofs.concealer.Concealer.is_touched.Goals as goal

pub returns-then-self-2 : goal.returns-then-self-2
returns-then-self-2 c = λ bytes earlier last had are untouched service id is.
    let acted = (conceals_these bytes (earlier ++ last ∷ []) c.args.self.now had are).acted in
    let on = acted.goes_on c.if-self.false earlier last refl in
    let own = subst (λ (l : List Frame). AreServed l c.args.self.now.served) on (acted.behind.apart c.if-self-2.true) in
    ap (λ (l : List Frame). received_windows l service id) on
    ∙ seen_from_reset service id (heard_of earlier ++ last ∷ []) (served_now own.earlier own.last service) (own.leads service)
    ∙ c.is_touched.ensures (file_triplets (heard_of earlier ++ last ∷ [])) own.earlier own.last own.has untouched service is id
    ∙ sym (seen_from_reset service id (heard_of earlier) (service_behind own.earlier service) (own.before (heard_of earlier) last refl service))

pub returns-else-self-2 : goal.returns-else-self-2
returns-else-self-2 c = λ bytes earlier last had are untouched service id is.
    let acted = (conceals_these bytes (earlier ++ last ∷ []) c.args.self.now had are).acted in
    let all = acted.together c.if-self-2.false in
    let front = (lasts_are (heard_of earlier) earlier last last (sym (acted.goes_on c.if-self.false earlier last refl) ∙ all)).0 in
    ap (λ (l : List Frame). received_windows l service id) all
    ∙ c.is_touched-else-self-2.ensures bytes earlier last had.received are untouched service id is
    ∙ sym (ap (λ (l : List Frame). received_windows l service id) front)
