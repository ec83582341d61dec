use Rattle.std.proofs.Common.{◌≡◌, ◌≤◌, ◌∙◌, ◌++◌, ◌+◌, ◌*◌, ◌∷◌, [], Err, List, ap, arith, length, rules, subst, sym}
use Rattle.cc_base.specs.declared.rate.Rate.TheVariants.{F5994}
use Rattle.cc_receiver.specs.ReceivedServices.{received_windows}
use Rattle.cc_receiver.proofs.TakenLemmas.{frames_count}
use Rattle.cdp_packets.specs.PacketTriplets.{packet_triplets}
use Rattle.cdp_packets.specs.Packets.{Frame}
use Rattle.rate_convert.specs.Conversion.{conversion, first_half_of, second_half_of}
use Rattle.words_files.specs.CarriedWords.{carried_words, triplets_packet}
use Rattle.rate_convert.specs.ServedFrames.{AreServed}
use Rattle.rate_convert.proofs.ConversionLemmas.{conversion_more}
use Rattle.rate_convert.proofs.ConverterLemmas.{last_number}
use Rattle.rate_convert.proofs.HalverLemmas.{halves_next, service_misfit, took_frame}
use Rattle.rate_convert.proofs.halver.Halver.halve.Goals as goal

pub returns-in_err-sorted : goal.returns-in_err-sorted
returns-in_err-sorted c = λ bytes earlier last had are halved.
    let answer : c.from_residual.result ≡ Err c.in_err-sorted.field-0.0 = search rules in
    rw answer (c.in_err-sorted.ensures.sorted bytes earlier last had are)

pub returns-in-None : goal.returns-in-None
returns-in-None c = λ bytes earlier last had are halved.
    let full = c.in_ok-sorted.ensures.sorted bytes earlier last had are in
    let h = c.of-halves.ensures.halves (packet_triplets last) full.sorted_are in
    let count = frames_count (earlier ++ last ∷ []) bytes c.args.input.now had are in
    let most = c.requires.few in
    let few : length (earlier ++ last ∷ []) ≤ 2147483647 = omega (arith, count, most) in
    let place : c.args.frame ≡ length earlier = last_number bytes earlier last c.args.input.now c.args.frame had are c.requires.number in
    let one = first_half_of (length earlier) last in
    let two = second_half_of (length earlier) last in
    let next = halves_next bytes earlier last c.args.self.now c.of-halves.result.first c.of-halves.result.second are halved full.convertible few h.0 h.1 in
    let served = c.serve-touched.ensures.served (conversion earlier) one two next in
    let output = subst (λ (fs : List Frame). AreServed fs c.serve-touched.new.served) (sym (conversion_more earlier last)) served in
    let room = next.few in
    took_frame earlier last c.args.self.now (record { served = c.serve-touched.new.served; misfit = c.args.self.now.misfit; words = c.words-self.result }) c.of-halves.result.first c.of-halves.result.second halved full.convertible h.0 h.1
    (subst (λ n. c.words-self.result.items ≡ carried_words (triplets_packet F5994 (2 * n) c.of-halves.result.first) ++ carried_words (triplets_packet F5994 (2 * n + 1) c.of-halves.result.second)) place c.words-self.ensures)
    served (c.serve-touched.ensures.ticks room)
    (c.in-None.ensures bytes earlier (conversion earlier) (conversion (earlier ++ last ∷ [])) last had are output halved.keeps.services
    (λ none service id is. ap (λ (fs : List Frame). received_windows fs service id) (conversion_more earlier last) ∙ c.serve-touched.ensures.same (conversion earlier) one two next none service id is))

pub returns-in-Some : goal.returns-in-Some
returns-in-Some c = λ bytes earlier last had are halved.
    let full = c.in_ok-sorted.ensures.sorted bytes earlier last had are in
    let h = c.of-halves.ensures.halves (packet_triplets last) full.sorted_are in
    let count = frames_count (earlier ++ last ∷ []) bytes c.args.input.now had are in
    let most = c.requires.few in
    let few : length (earlier ++ last ∷ []) ≤ 2147483647 = omega (arith, count, most) in
    let one = first_half_of (length earlier) last in
    let two = second_half_of (length earlier) last in
    let next = halves_next bytes earlier last c.args.self.now c.of-halves.result.first c.of-halves.result.second are halved full.convertible few h.0 h.1 in
    let output = subst (λ (fs : List Frame). AreServed fs c.serve-touched.new.served) (sym (conversion_more earlier last))
    (c.serve-touched.ensures.served (conversion earlier) one two next) in
    service_misfit earlier last c.in-Some.service halved.fit full.convertible
    (c.in-Some.ensures bytes earlier (conversion earlier) (conversion (earlier ++ last ∷ [])) last had are output halved.keeps.services
    (λ none service id is. ap (λ (fs : List Frame). received_windows fs service id) (conversion_more earlier last) ∙ c.serve-touched.ensures.same (conversion earlier) one two next none service id is))
