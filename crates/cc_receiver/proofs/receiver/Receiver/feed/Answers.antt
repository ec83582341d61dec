use Rattle.std.proofs.Common.{arith, rules, ◌≡◌, ◌+◌, ◌-◌, ◌<◌, ◌≤◌, ◌++◌, List, ℕ, Err, Some, length, length-append, take, drop, ap, refl, sym, subst, ◌∙◌}
use Rattle.std.proofs.lemmas.List.{length-take}
use Rattle.std.proofs.lemmas.List.Elements.{All-drop}
use Rattle.cc_base.specs.Syntax.{open_behind}
use Rattle.anc_words.specs.Ending.{bytes_to_end}
use Rattle.anc_words.specs.Reading.{anc_syntax}
use Rattle.services_files.specs.Catching.{refusal_of}
use Rattle.services_files.specs.Services.{services_say}
use Rattle.services_files.proofs.ChannelFiles.{refused_offence, unrefused_unoffending}
use Rattle.cc_receiver.specs.declared.receiver.Ended.TheVariants as ended
use Rattle.cc_receiver.specs.Feeds.{Feeds}
use Rattle.cc_receiver.specs.Receiving.{EndsBy}
use Rattle.cc_receiver.specs.Receivers.{HasReceived}
use Rattle.cc_receiver.proofs.FeedLemmas.{bytes-cut, bytes_fit, counts_by, piece_few, piece_is, piece_most, up_to, within_piece}
use Rattle.cc_receiver.proofs.ReceivedLemmas.{kept_is}
use Rattle.cc_receiver.proofs.RefusedLemmas.{offends-still, offends-within, received-refused}
use Rattle.cc_receiver.proofs.TakenLemmas.{refused_counts}
use Rattle.cc_receiver.proofs.receiver.Receiver.feed.Goals as goal

pub returns-in-Some-clause-feeds : goal.returns-in-Some-clause-feeds
returns-in-Some-clause-feeds c = λ before had.
    let some : refusal_of services_say before ≡ Some c.in-Some.refusal = sym (kept_is before c.args.self.now had) ∙ sym c.refusal.ensures ∙ c.in-Some.is in
    let fit = bytes_fit c.args.bytes.now (λ k below. omega (arith, c.type_inv.bytes k)) in
    let received = received-refused before c.args.bytes.now c.in-Some.refusal c.args.self.now some fit had in
    let own = refused_offence before c.in-Some.refusal had.bytes_are some in record {
      received = received;
      offence = offends-still before c.args.bytes.now (before ++ c.args.bytes.now) c.in-Some.refusal refl own;
      first = λ packets n any few is. absurd (omega (arith, any, few, offends-within before c.in-Some.refusal own));
      stays = refl;
    }

pub returns-then-ne-clause-feeds : goal.returns-then-ne-clause-feeds
returns-then-ne-clause-feeds c = λ before had.
    let u = c.loop-used.invariant.underway before had in
    let behind = before ++ take c.loop-used.used c.args.bytes.now in
    let few = piece_few c.loop-used.used c.min.result c.bytes_to_end.result (bytes_to_end (open_behind anc_syntax behind)) c.args.bytes.now c.min.ensures
    (c.bytes_to_end.ensures.least behind (u.received.reached.leads u.none)) in
    let is = piece_is before c.args.bytes.now c.loop-used.used c.min.result in
    let most = piece_most c.min.result c.bytes_to_end.result (bytes_to_end (open_behind anc_syntax behind)) (length c.args.bytes.now - c.loop-used.used) c.min.ensures
    (c.bytes_to_end.ensures.least behind (u.received.reached.leads u.none)) in
    let now = subst (λ (bs : List ℕ). HasReceived bs c.read.new.self) is (c.read.ensures.received behind u.received few) in
    let frames = c.loop-used.invariant.frames in record {
      received = now;
      unoffending = unrefused_unoffending (before ++ take (c.loop-used.used + c.min.result) c.args.bytes.now) now.bytes_are
          (sym (ap (refusal_of services_say) is) ∙ sym (c.in_ok-ended.ensures.refusal behind u.received few));
      ends = λ some. subst (EndsBy c.in_ok-ended.ended) is (c.in_ok-ended.ensures.ended behind u.received few);
      first = λ packets fewer some less is_file.
          within_piece before c.args.bytes.now c.loop-used.used c.min.result (omega (arith, c.min.ensures, c.loop-used.invariant.within)) most u.within packets fewer some less is_file;
      counts = counts_by c.in_ok-ended.ended _ _
          (λ ends. c.in_ok-ended.ensures.more behind u.received few ends ∙ ap (λ n. n + 1) frames)
          (λ other. c.in_ok-ended.ensures.same other ∙ frames);
    }

pub loop-used-preserved : goal.loop-used-preserved
loop-used-preserved c =
    let no : c.in_ok-ended.ended ≡ ended.No = Prim.search rules in
    record {
      within = omega (arith, c.min.ensures, c.loop-used.invariant.within);
      unrefused = Prim.search rules;
      frames = c.in_ok-ended.ensures.same (λ is. let clash = sym no ∙ is in cc) ∙ c.loop-used.invariant.frames;
      underway = λ before had.
          let u = c.loop-used.invariant.underway before had in
          let behind = before ++ take c.loop-used.used c.args.bytes.now in
          let few = piece_few c.loop-used.used c.min.result c.bytes_to_end.result (bytes_to_end (open_behind anc_syntax behind)) c.args.bytes.now c.min.ensures
          (c.bytes_to_end.ensures.least behind (u.received.reached.leads u.none)) in
          let is = piece_is before c.args.bytes.now c.loop-used.used c.min.result in
          let most = piece_most c.min.result c.bytes_to_end.result (bytes_to_end (open_behind anc_syntax behind)) (length c.args.bytes.now - c.loop-used.used) c.min.ensures
          (c.bytes_to_end.ensures.least behind (u.received.reached.leads u.none)) in
          let ends = subst (λ e. EndsBy e (before ++ take (c.loop-used.used + c.min.result) c.args.bytes.now)) no
          (subst (EndsBy c.in_ok-ended.ended) is (c.in_ok-ended.ensures.ended behind u.received few)) in
          record {
            received = subst (λ (bs : List ℕ). HasReceived bs c.read.new.self) is (c.read.ensures.received behind u.received few);
            none = sym (ap (refusal_of services_say) is) ∙ sym (c.in_ok-ended.ensures.refusal behind u.received few);
            within = up_to before c.args.bytes.now (c.loop-used.used + c.min.result)
                (within_piece before c.args.bytes.now c.loop-used.used c.min.result (omega (arith, c.min.ensures, c.loop-used.invariant.within)) most u.within) ends;
          };
    }

pub returns-clause-feeds : goal.returns-clause-feeds
returns-clause-feeds c = λ before had.
    let u = c.loop-used.invariant.underway before had in record {
      received = u.received;
      unoffending = unrefused_unoffending (before ++ take c.loop-used.used c.args.bytes.now) u.received.bytes_are u.none;
      ends = λ some packets is. u.within packets c.loop-used.used some (omega arith) is;
      first = λ packets fewer some less is. u.within packets fewer some (omega (arith, less)) is;
      counts = c.loop-used.invariant.frames;
    }

pub returns-in_err-ended-clause-feeds : goal.returns-in_err-ended-clause-feeds
returns-in_err-ended-clause-feeds c = λ before had.
    let u = c.loop-used.invariant.underway before had in
    let behind = before ++ take c.loop-used.used c.args.bytes.now in
    let few = piece_few c.loop-used.used c.min.result c.bytes_to_end.result (bytes_to_end (open_behind anc_syntax behind)) c.args.bytes.now c.min.ensures
    (c.bytes_to_end.ensures.least behind (u.received.reached.leads u.none)) in
    let is = piece_is before c.args.bytes.now c.loop-used.used c.min.result in
    let cut = bytes-cut before c.args.bytes.now (c.loop-used.used + c.min.result) in
    let front = before ++ take (c.loop-used.used + c.min.result) c.args.bytes.now in
    let back = drop (c.loop-used.used + c.min.result) c.args.bytes.now in
    let refused = sym (ap (refusal_of services_say) is) ∙ sym (c.in_err-ended.ensures.refusal behind u.received few) in
    let fit = bytes_fit c.args.bytes.now (λ k below. omega (arith, c.type_inv.bytes k)) in
    let received = subst (λ (bs : List ℕ). HasReceived bs c.read.new.self) is (c.read.ensures.received behind u.received few) in
    let stays = subst (λ (bs : List ℕ). HasReceived bs c.read.new.self) cut
    (received-refused front back c.in_err-ended.field-0.0 c.read.new.self refused (All-drop (λ b. b < 256) (c.loop-used.used + c.min.result) c.args.bytes.now fit) received) in
    let own = refused_offence front c.in_err-ended.field-0.0 received.bytes_are refused in
    let offence = offends-still front back (before ++ c.args.bytes.now) c.in_err-ended.field-0.0 cut own in
    let most = piece_most c.min.result c.bytes_to_end.result (bytes_to_end (open_behind anc_syntax behind)) (length c.args.bytes.now - c.loop-used.used) c.min.ensures
    (c.bytes_to_end.ensures.least behind (u.received.reached.leads u.none)) in
    let short : length front ≤ length before + (c.loop-used.used + c.min.result) =
    omega (arith, length-append before (take (c.loop-used.used + c.min.result) c.args.bytes.now), length-take (c.loop-used.used + c.min.result) c.args.bytes.now) in
    let counts = refused_counts behind _ c.in_err-ended.field-0.0 c.loop-used.self c.read.new.self few (sym (c.in_err-ended.ensures.refusal behind u.received few)) u.received
    (c.read.ensures.received behind u.received few) in
    let same = counts ∙ c.loop-used.invariant.frames in
    let answer : c.from_residual.result ≡ Err c.in_err-ended.field-0.0 = Prim.search rules in
    subst (Feeds before c.args.bytes.now c.args.self.now c.read.new.self) (sym answer) (record {
      received = stays;
      offence = offence;
      first = λ packets n any few is.
          within_piece before c.args.bytes.now c.loop-used.used c.min.result (omega (arith, c.min.ensures, c.loop-used.invariant.within)) most u.within packets n any
          (omega (arith, few, short, offends-within front c.in_err-ended.field-0.0 own)) is;
      stays = same;
    })

pub returns-in-Some-whole-clause-feeds : goal.returns-in-Some-whole-clause-feeds
returns-in-Some-whole-clause-feeds c = λ before had.
    let reads = c.in-Some-whole.ensures.reads before had in record {
      received = reads.received;
      unoffending = unrefused_unoffending (before ++ take c.in-Some-whole.used c.args.bytes.now) reads.received.bytes_are reads.unrefused;
      ends = λ some. reads.ends;
      first = reads.first;
      counts = reads.counts;
    }
