use Rattle.std.proofs.Common.{◌≡◌, ◌++◌, Err, length, refl, rules, subst, sym, take}
use Rattle.cc_conceal.specs.Concealers.{HasConcealed, receiver_of}
use Rattle.cc_conceal.specs.declared.concealer.Concealer.{Concealer}
use Rattle.words_reading.proofs.FedFrames.{moves_by}
use Rattle.words_reading.specs.Feeds.{HasFed}
use Rattle.text_output.specs.Gathered.{IsGathered, held_of}
use Rattle.words_commands.proofs.ConcealingLemmas.{frame_added, frame_stopped, front_concealed, next_frame, no_frame, some_frame, word_refused}
use Rattle.words_commands.proofs.concealing.ConcealingJudge.step.Goals as goal

pub returns-in-Err-clause-judges : goal.returns-in-Err-clause-judges
returns-in-Err-clause-judges g c given start before had =
    word_refused _ start _ _ before c.args.bytes.now c.args.self.now c.feed.new.self c.in-Err.refusal had (c.in-Err.ensures.feeds before had.judged.had)

pub add_frame-requires : goal.add_frame-requires
add_frame-requires g c =
    let before = c.requires.ready.before in
    some_frame before c.args.bytes.now c.args.self.now.concealer c.feed.new.self c.in-Ok.fed (c.in-Ok.ensures.feeds before c.requires.ready.read.had) c.in-Caption.is

pub returns-in_err-add_frame-in-Caption-clause-judges : goal.returns-in_err-add_frame-in-Caption-clause-judges
returns-in_err-add_frame-in-Caption-clause-judges g c given start before had =
    let why = c.in_err-add_frame-in-Caption.field-0.0 in
    let answer : c.from_residual.result ≡ Err why = search rules in
    let feeds = c.in-Ok.ensures.feeds before had.judged.had in
    let concealed = c.in-Ok.ensures.conceals before had.judged.had in
    let next = next_frame before c.args.bytes.now had.text c.args.self.now c.feed.new.self c.in-Ok.fed had.judged feeds c.in-Caption.is in
    let way = subst (IsGathered start (g.O.Sink.written c.args.out.now) (held_of c.args.text.now)) had.judged.text_is had.way in
    let made = c.in_err-add_frame-in-Caption.ensures.makes start _ had.judged.frames next.frame had.judged.shown way concealed next.frames_are in
    rw answer
    (frame_stopped start _ _ before c.args.bytes.now had.text c.args.self.now c.feed.new.self c.add_frame.new.self.shown c.in-Ok.fed why had.judged feeds next made)

pub returns-in_ok-add_frame-in-Caption-clause-reads : goal.returns-in_ok-add_frame-in-Caption-clause-reads
returns-in_ok-add_frame-in-Caption-clause-reads g c before had =
    let same = sym c.in_ok-add_frame-in-Caption.ensures.concealer in
    front_concealed before c.args.bytes.now c.args.self.now c.add_frame.new.self c.in-Ok.fed had
    (subst (λ (k : Concealer). HasFed before c.args.bytes.now (receiver_of c.args.self.now.concealer) (receiver_of k) c.in-Ok.fed) same (c.in-Ok.ensures.feeds before had.had))
    (subst (HasConcealed (before ++ take c.in-Ok.fed.used c.args.bytes.now)) same (c.in-Ok.ensures.conceals before had.had)) c.in-Ok.ensures.within
    (moves_by c.in-Ok.fed.used (length c.args.bytes.now) c.in-Ok.fed.ended c.in-Ok.ensures.all c.in-Ok.ensures.some c.requires.some)

pub returns-in_ok-add_frame-in-Caption-clause-judges : goal.returns-in_ok-add_frame-in-Caption-clause-judges
returns-in_ok-add_frame-in-Caption-clause-judges g c given start before had =
    let same = sym c.in_ok-add_frame-in-Caption.ensures.concealer in
    let feeds = c.in-Ok.ensures.feeds before had.judged.had in
    let concealed = c.in-Ok.ensures.conceals before had.judged.had in
    let next = next_frame before c.args.bytes.now had.text c.args.self.now c.feed.new.self c.in-Ok.fed had.judged feeds c.in-Caption.is in
    let way = subst (IsGathered start (g.O.Sink.written c.args.out.now) (held_of c.args.text.now)) had.judged.text_is had.way in
    let made = c.in_ok-add_frame-in-Caption.ensures.makes start _ had.judged.frames next.frame had.judged.shown way concealed next.frames_are in
    frame_added start _ _ before c.args.bytes.now had.text c.args.self.now c.add_frame.new.self c.in-Ok.fed had.judged
    (subst (λ (k : Concealer). HasFed before c.args.bytes.now (receiver_of c.args.self.now.concealer) (receiver_of k) c.in-Ok.fed) same feeds)
    (subst (HasConcealed (before ++ take c.in-Ok.fed.used c.args.bytes.now)) same concealed) c.in-Ok.ensures.within
    (moves_by c.in-Ok.fed.used (length c.args.bytes.now) c.in-Ok.fed.ended c.in-Ok.ensures.all c.in-Ok.ensures.some c.requires.some) c.in-Caption.is next made.0 made.1

pub returns-in_default : goal.returns-in_default
returns-in_default g c =
    let within = c.in-Ok.ensures.within in
    let moves = moves_by c.in-Ok.fed.used (length c.args.bytes.now) c.in-Ok.fed.ended c.in-Ok.ensures.all c.in-Ok.ensures.some c.requires.some in
    record {
      reads = λ before had.
          front_concealed before c.args.bytes.now c.args.self.now (record { concealer = c.feed.new.self; shown = c.args.self.now.shown }) c.in-Ok.fed had
          (c.in-Ok.ensures.feeds before had.had) (c.in-Ok.ensures.conceals before had.had) within moves;
      judges = λ given start before had.
          no_frame start _ _ before c.args.bytes.now c.args.self.now (record { concealer = c.feed.new.self; shown = c.args.self.now.shown }) c.in-Ok.fed had
          (c.in-Ok.ensures.feeds before had.judged.had) (c.in-Ok.ensures.conceals before had.judged.had) within c.in_default.not-Caption refl;
      cause = refl;
      used = (moves, within);
    }
