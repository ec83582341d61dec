use Rattle.std.proofs.Common.{◌∙◌, arith, length, refl, sym}
use Rattle.words_reading.proofs.FedFrames.{moves_by}
use Rattle.convert_commands.proofs.ConvertingLemmas.{goes_on, misfit_met, no_frame, some_counted, still_underway, word_refused, words_added, words_failed}
use Rattle.convert_commands.proofs.converting.ConvertingJudge.step.Goals as goal

pub feed-requires : goal.feed-requires
feed-requires g c =
    let ready = c.requires.ready in
    let few = ready.read.few in
    let within = ready.within in
    let some = c.requires.some in
    record { few = omega arith; none = ready.read.none; on = (ready.before, ready.read.converted) }

pub returns-in-Err-clause-judges : goal.returns-in-Err-clause-judges
returns-in-Err-clause-judges g c given start before had =
    word_refused start _ _ before c.args.bytes.now c.args.self.now c.feed.new.self c.in-Err.refusal had (c.in-Err.ensures.feeds before had.judged.underway.converted)

pub returns-in_default : goal.returns-in_default
returns-in_default g c =
    let within = c.in-Ok.ensures.within in
    let moves = moves_by c.in-Ok.fed.used (length c.args.bytes.now) c.in-Ok.fed.ended c.in-Ok.ensures.all c.in-Ok.ensures.some c.requires.some in
    record {
      reads = λ before had.
          still_underway before c.args.bytes.now c.args.self.now.converter c.feed.new.self c.in-Ok.fed had (c.in-Ok.ensures.feeds before had.converted)
          (c.in-Ok.ensures.converts before had.converted) c.in_default.not-Caption within moves;
      judges = λ given start before had.
          no_frame start _ _ before c.args.bytes.now c.args.self.now c.feed.new.self c.in-Ok.fed had (c.in-Ok.ensures.feeds before had.judged.underway.converted)
          (c.in-Ok.ensures.converts before had.judged.underway.converted) c.in_default.not-Caption within moves;
      cause = refl;
      used = (moves, within);
    }

pub returns-in-Some-clause-judges : goal.returns-in-Some-clause-judges
returns-in-Some-clause-judges g c given start before had =
    misfit_met start _ _ before c.args.bytes.now c.args.self.now c.feed.new.self c.in-Ok.fed c.in-Some.misfit had (c.in-Ok.ensures.feeds before had.judged.underway.converted)
    (c.in-Ok.ensures.converts before had.judged.underway.converted) (sym c.in-Some.ensures.told) c.in-Caption.is

pub words-requires : goal.words-requires
words-requires g c = record {
  some = let ready = c.requires.ready in
      some_counted ready.before c.args.bytes.now c.args.self.now.converter c.feed.new.self c.in-Ok.fed (c.in-Ok.ensures.feeds ready.before ready.read.converted) c.in-Caption.is;
  none = sym c.in-None.ensures.told;
}

pub returns-in-Done-clause-reads : goal.returns-in-Done-clause-reads
returns-in-Done-clause-reads g c before had =
    goes_on before c.args.bytes.now c.args.self.now.converter c.feed.new.self c.in-Ok.fed had (c.in-Ok.ensures.feeds before had.converted) (c.in-Ok.ensures.converts before had.converted)
    (sym c.in-None.ensures.told) c.in-Ok.ensures.within
    (moves_by c.in-Ok.fed.used (length c.args.bytes.now) c.in-Ok.fed.ended c.in-Ok.ensures.all c.in-Ok.ensures.some c.requires.some)

pub returns-in-Done-clause-judges : goal.returns-in-Done-clause-judges
returns-in-Done-clause-judges g c given start before had =
    let moves = moves_by c.in-Ok.fed.used (length c.args.bytes.now) c.in-Ok.fed.ended c.in-Ok.ensures.all c.in-Ok.ensures.some c.requires.some in
    let converted = c.in-Ok.ensures.converts before had.judged.underway.converted in
    words_added start _ _ _ _ _ before c.args.bytes.now c.args.self.now c.feed.new.self c.in-Ok.fed had (c.in-Ok.ensures.feeds before had.judged.underway.converted)
    converted (sym c.in-None.ensures.told) c.in-Caption.is c.in-Ok.ensures.within moves (λ earlier last are. c.deref.ensures.0 ∙ c.words.ensures _ earlier last converted are) c.in-Done.ensures.bytes

pub returns-in-Failed-clause-judges : goal.returns-in-Failed-clause-judges
returns-in-Failed-clause-judges g c given start before had =
    let moves = moves_by c.in-Ok.fed.used (length c.args.bytes.now) c.in-Ok.fed.ended c.in-Ok.ensures.all c.in-Ok.ensures.some c.requires.some in
    let converted = c.in-Ok.ensures.converts before had.judged.underway.converted in
    words_failed start _ _ _ _ _ before c.args.bytes.now c.args.self.now c.feed.new.self c.in-Ok.fed had (c.in-Ok.ensures.feeds before had.judged.underway.converted)
    converted (sym c.in-None.ensures.told) c.in-Caption.is c.in-Ok.ensures.within moves (λ earlier last are. c.deref.ensures.0 ∙ c.words.ensures _ earlier last converted are) c.in-Failed.ensures.bytes
