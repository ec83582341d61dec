use Rattle.std.proofs.Common.{◌≡◌, ◌∙◌, ◌+◌, ◌-◌, ◌++◌, ◌∷◌, [], arith, length, length-append, refl, subst, sym}
use Rattle.cc_receiver.specs.ReceivedServices.{received_windows}
use Rattle.cc_receiver.specs.Receivers.{HasReceived}
use Rattle.words_files.specs.Received.{received_grids}
use Rattle.cc_verifier.specs.Verifiers.{Found, IsReadyAt, KnowsAt}
use Rattle.cc_verifier.proofs.FindingLemmas.{clean_more, first_of_last}
use Rattle.cc_verifier.proofs.verifier.Verifier.judge.Goals as goal

pub find-requires-clause-ready : goal.find-requires-clause-ready
find-requires-clause-ready c =
    let e = c.frames-frame.ensures.count in
    let n = c.requires.1 in
    let at : c.requires.0 ≡ c.frames-frame.result - 1 = omega arith in
    subst (λ n. IsReadyAt n c.args.self.now) at c.requires.2

pub returns-in-Some-clause-judged : goal.returns-in-Some-clause-judged
returns-in-Some-clause-judged c bytes earlier last had are nothing clean on =
    let count = c.frames-frame.ensures.frames bytes (earlier ++ last ∷ []) had are in
    let long = length-append earlier (last ∷ []) in
    let at : c.frames-frame.result - 1 ≡ length earlier = omega arith in
    record {
      found = first_of_last c.args.self.now.list earlier last (c.frames-frame.result - 1) c.in-Some.kind clean
          (c.in-Some.ensures.finds bytes earlier last had are at on) at;
      goes_on = λ none. cc;
    }

pub returns-in-None-clause-judged : goal.returns-in-None-clause-judged
returns-in-None-clause-judged c bytes earlier last had are nothing clean on =
    let count = c.frames-frame.ensures.frames bytes (earlier ++ last ∷ []) had are in
    let long = length-append earlier (last ∷ []) in
    let at : c.frames-frame.result - 1 ≡ length earlier = omega arith in
    let next : c.frames-frame.result - 1 + 1 ≡ length (earlier ++ last ∷ []) = omega arith in
    let finds = c.in-None.ensures.finds bytes earlier last had are at on in
    let screens = received_grids (earlier ++ last ∷ []) in
    let windows = received_windows (earlier ++ last ∷ []) in
    let knows = subst (λ n. KnowsAt n screens windows c.find.new.self) (sym at) finds.1 in
    record {
      found = subst (Found c.args.self.now.list (earlier ++ last ∷ [])) (sym (c.advance.ensures.same.finding ∙ c.find.ensures.same.finding ∙ nothing))
          (clean_more c.args.self.now.list earlier last clean finds.0);
      goes_on = λ none. record {
        counter = c.advance.ensures.counter bytes earlier last (subst (HasReceived bytes) (sym c.find.ensures.same.receiver) had) are;
        ready = subst (λ n. IsReadyAt n c.advance.new.self) next c.advance.ensures.ready;
        knows = subst (λ n. KnowsAt n screens windows c.advance.new.self) next
            (c.advance.ensures.knows (c.frames-frame.result - 1) screens windows refl c.find.ensures.ready knows);
      };
    }
