use Rattle.std.proofs.Common.{◌+◌, ◌*◌, length, map, arith, ap, sym, subst}
use Rattle.std.specs.Prelude.{sum as total}
use Rattle.std.proofs.lemmas.List.Elements.{All-from_get_or}
use Rattle.std.proofs.lemmas.List.{length-map}
use Rattle.anc_words.specs.CaptionPackets.{IsCaptionAhead}
use Rattle.anc_words.specs.CaptionWords.{AreRight, low_of, word_of}
use Rattle.anc_words.proofs.CaptionLemmas.{ahead-right, begins-one_way, right-ahead, sum-low}
use Rattle.anc_words.proofs.PacketLemmas.{IsByte}
use Rattle.anc_words.proofs.caption_packet.CaptionPacket.at_front.Goals as goal

pub returns-in_err-words-clause-none : goal.returns-in_err-words-clause-none
returns-in_err-words-clause-none c = λ size user ahead.
    let has = ahead-right c.args.bytes.now size user ahead in
    let some = c.in_err-words.ensures.none has.count has.user has.checksum has.begins in
    absurd cc

pub returns-in_err-sum-clause-none : goal.returns-in_err-sum-clause-none
returns-in_err-sum-clause-none c = λ size user ahead.
    let has = ahead-right c.args.bytes.now size user ahead in
    let words = c.in_ok-words.words in
    let (count, users, checksum) = begins-one_way c.args.bytes.now has.count words.count has.user (map word_of words.user.now) has.checksum words.checksum has.begins c.in_ok-words.ensures.words in
    let right = subst (λ n. AreRight n (map word_of words.user.now) words.checksum) count
    (subst (λ us. AreRight has.count us words.checksum) users (subst (λ s. AreRight has.count has.user s) checksum has.right)) in
    absurd (c.in_err-sum.ensures.none right)

pub returns-clause-packet : goal.returns-clause-packet
returns-clause-packet c =
    let words = c.in_ok-words.words in
    let right : AreRight words.count (map word_of words.user.now) words.checksum = c.in_ok-sum.ensures.right in
    let ahead = right-ahead c.args.bytes.now words.count (map word_of words.user.now) words.checksum (All-from_get_or IsByte c.args.bytes.now 0 (λ k below. omega (arith, c.type_inv.bytes k)))
    c.in_ok-words.ensures.words right in
    subst (λ size. IsCaptionAhead c.args.bytes.now size (map low_of words.user.now)) (ap (λ n. 2 * (n + 7)) (length-map words.user.now word_of))
    (subst (λ user. IsCaptionAhead c.args.bytes.now (2 * (length (map word_of words.user.now) + 7)) user) (sym c.in_ok-words.ensures.bytes) ahead)

pub invariant_of-result : goal.invariant_of-result
invariant_of-result c =
    let words = map word_of c.in_ok-words.words.user.now in
    let low = ap total c.in_ok-words.ensures.bytes in
    let same = sum-low words in
    let is = c.in_ok-sum.ensures.total in
    record { few = c.in_ok-words.ensures.few; total = omega (arith, low, same, is) }
