use Rattle.std.proofs.Common.{◌≡◌, ◌∙◌, ◌+◌, ◌++◌, ◌∷◌, [], arith, length, subst, sym, take, Err, rules}
use Rattle.cc_receiver.proofs.FedFrames.{counts_none, frame_more, moves_by}
use Rattle.cc_receiver.proofs.TakenLemmas.{frames_count}
use Rattle.cc_receiver.specs.Feeds.{Counts}
use Rattle.cc_receiver.specs.Receivers.{HasReceived, frame_count}
use Rattle.cue_types.specs.Listing.{Listing}
use Rattle.cc_verifier.specs.Verifiers.{Found}
use Rattle.cc_verifier.proofs.VerifierLemmas.{found_none, goes_on_still, verified_still}
use Rattle.cc_verifier.proofs.verifier.Verifier.feed.Goals as goal

pub returns-in_err-fed-clause-verified : goal.returns-in_err-fed-clause-verified
returns-in_err-fed-clause-verified c before had =
    let refused = c.in_err-fed.ensures.feeds before had.received in
    let answer : c.from_residual.result ≡ Err c.in_err-fed.field-0.0 = search rules in
    rw answer (verified_still before c.args.bytes.now c.args.self.now c.feed.new.self had refused.received refused.stays)

pub judge-requires : goal.judge-requires
judge-requires c =
    let before = c.requires.on.0 in
    let had = c.requires.on.1 in
    let fed = c.in_ok-fed.ensures.feeds before had.received in
    let counted : frame_count c.feed.new.self ≡ frame_count c.args.self.now.receiver + 1 =
    subst (Counts (frame_count c.args.self.now.receiver) (frame_count c.feed.new.self)) c.in-Caption.is fed.counts in
    let count = frames_count had.frames before c.args.self.now.receiver had.received had.frames_are in
    (length had.frames, counted ∙ (omega arith), (goes_on_still had.frames c.args.self.now c.feed.new.self (had.goes_on c.requires.on.2)).ready)

pub returns-in-Caption-clause-verified : goal.returns-in-Caption-clause-verified
returns-in-Caption-clause-verified c before had =
    let nothing = c.requires.on.2 in
    let fed = c.in_ok-fed.ensures.feeds before had.received in
    let counted : frame_count c.feed.new.self ≡ frame_count c.args.self.now.receiver + 1 =
    subst (Counts (frame_count c.args.self.now.receiver) (frame_count c.feed.new.self)) c.in-Caption.is fed.counts in
    let next = frame_more before (take c.in_ok-fed.fed.used c.args.bytes.now) c.args.self.now.receiver c.feed.new.self had.frames had.frames_are had.received fed.received counted in
    let judged = c.judge.ensures.judged (before ++ take c.in_ok-fed.fed.used c.args.bytes.now) had.frames next.frame fed.received next.frames_are nothing
    (found_none before c.args.self.now had nothing) (goes_on_still had.frames c.args.self.now c.feed.new.self (had.goes_on nothing)) in
    record {
      received = subst (HasReceived (before ++ take c.in_ok-fed.fed.used c.args.bytes.now)) (sym c.judge.ensures.receiver) fed.received;
      frames = had.frames ++ next.frame ∷ [];
      frames_are = next.frames_are;
      found = subst (λ (l : Listing). Found l (had.frames ++ next.frame ∷ []) c.judge.new.self.finding) (sym c.judge.ensures.list) judged.found;
      goes_on = judged.goes_on;
    }

pub returns-in_default-clause-verified : goal.returns-in_default-clause-verified
returns-in_default-clause-verified c before had =
    let fed = c.in_ok-fed.ensures.feeds before had.received in
    verified_still before (take c.in_ok-fed.fed.used c.args.bytes.now) c.args.self.now c.feed.new.self had fed.received
    (counts_none (frame_count c.args.self.now.receiver) (frame_count c.feed.new.self) c.in_ok-fed.fed.ended c.in_default.not-Caption fed.counts)

pub returns-in_default-clause-moves : goal.returns-in_default-clause-moves
returns-in_default-clause-moves c some = moves_by c.in_ok-fed.fed.used (length c.args.bytes.now) c.in_ok-fed.fed.ended c.in_ok-fed.ensures.all c.in_ok-fed.ensures.some some
