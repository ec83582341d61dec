use Rattle.std.proofs.Common.{◌≡◌, ◌/◌, ◌%◌, not, true, length, arith, ap, sym, ◌∙◌}
use Rattle.std.proofs.lemmas.Bool.Decides.{Decides-eqb}
use Rattle.std.proofs.lemmas.Slice.Eq.{slice_eq-Decides}
use Rattle.std.proofs.lemmas.List.Elements.{All-from_get_or}
use Rattle.std.specs.Simd.{first_chunks}
use Rattle.anc_words.specs.CaptionWords.{word_of}
use Rattle.anc_words.proofs.CaptionLemmas.{begins-head, begins-pairs, head_bytes, not_is, pairs-count, pairs-low_bytes, pairs-more}
use Rattle.anc_words.proofs.PacketLemmas.{IsByte}
use Rattle.anc_words.proofs.caption_words.CaptionWords.at_front.Goals as goal

pub returns-then-ne-clause-none : goal.returns-then-ne-clause-none
returns-then-ne-clause-none c = λ count user checksum begins.
    let head = begins-head c.args.bytes.now count user checksum (All-from_get_or IsByte c.args.bytes.now 0 (λ k below. omega (arith, c.type_inv.bytes k))) begins in
    let tells = slice_eq-Decides Decides-eqb c.in_ok-head.head.now head_bytes (not c.ne.result) (not_is _ _ c.ne.ensures) in
    let same : not c.ne.result ≡ true = tells.1 (c.in_ok-head.ensures.cases.0 ∙ head) in
    sym (ap not c.if-ne.true) ∙ same

pub returns-in_err-count-clause-none : goal.returns-in_err-count-clause-none
returns-in_err-count-clause-none c = λ count user checksum begins.
    let tells = slice_eq-Decides Decides-eqb c.in_ok-head.head.now head_bytes (not c.ne.result) (not_is _ _ c.ne.ensures) in
    let head = sym c.in_ok-head.ensures.cases.0 ∙ tells.0 (ap not c.if-ne.false) in
    let pairs = c.as_chunks.ensures.front ∙ ap (λ bytes. first_chunks 2 (length bytes / 2) bytes) c.in_ok-head.ensures.cases.1 in
    absurd (pairs-count c.args.bytes.now _ count user checksum begins head pairs c.in_err-count.ensures.cases)

pub returns-in_err-user-clause-none : goal.returns-in_err-user-clause-none
returns-in_err-user-clause-none c = λ count user checksum begins.
    let tells = slice_eq-Decides Decides-eqb c.in_ok-head.head.now head_bytes (not c.ne.result) (not_is _ _ c.ne.ensures) in
    let head = sym c.in_ok-head.ensures.cases.0 ∙ tells.0 (ap not c.if-ne.false) in
    let pairs = c.as_chunks.ensures.front ∙ ap (λ bytes. first_chunks 2 (length bytes / 2) bytes) c.in_ok-head.ensures.cases.1 in
    let low : c.from.result ≡ word_of c.in_ok-count.count.now % 256 = c.from.ensures ∙ ap (λ n. n % 256) c.value-count.ensures in
    absurd (pairs-more c.args.bytes.now _ c.in_ok-count.words.now c.in_ok-count.count.now count user checksum begins head pairs c.in_ok-count.ensures.cases.0
    (omega (arith, low, c.in_err-user.ensures.cases)))

pub returns-in_err-checksum-clause-none : goal.returns-in_err-checksum-clause-none
returns-in_err-checksum-clause-none c = λ count user checksum begins.
    let tells = slice_eq-Decides Decides-eqb c.in_ok-head.head.now head_bytes (not c.ne.result) (not_is _ _ c.ne.ensures) in
    let head = sym c.in_ok-head.ensures.cases.0 ∙ tells.0 (ap not c.if-ne.false) in
    let pairs = c.as_chunks.ensures.front ∙ ap (λ bytes. first_chunks 2 (length bytes / 2) bytes) c.in_ok-head.ensures.cases.1 in
    let low : c.from.result ≡ word_of c.in_ok-count.count.now % 256 = c.from.ensures ∙ ap (λ n. n % 256) c.value-count.ensures in
    let split = c.in_ok-user.ensures.cases in
    absurd (pairs-more c.args.bytes.now _ c.in_ok-count.words.now c.in_ok-count.count.now count user checksum begins head pairs c.in_ok-count.ensures.cases.0
    (omega (arith, low, split.4, c.in_err-checksum.ensures.cases)))

pub returns-clause-words : goal.returns-clause-words
returns-clause-words c =
    let tells = slice_eq-Decides Decides-eqb c.in_ok-head.head.now head_bytes (not c.ne.result) (not_is _ _ c.ne.ensures) in
    let head = sym c.in_ok-head.ensures.cases.0 ∙ tells.0 (ap not c.if-ne.false) in
    let pairs = c.as_chunks.ensures.front ∙ ap (λ bytes. first_chunks 2 (length bytes / 2) bytes) c.in_ok-head.ensures.cases.1 in
    let low : c.from.result ≡ word_of c.in_ok-count.count.now % 256 = c.from.ensures ∙ ap (λ n. n % 256) c.value-count.ensures in
    let split = c.in_ok-user.ensures.cases in
    let begins = begins-pairs c.args.bytes.now _ c.in_ok-count.words.now c.in_ok-user.user.now c.in_ok-user.behind.now _ c.in_ok-count.count.now c.in_ok-checksum.checksum.now
    head pairs c.in_ok-count.ensures.cases.0 (rw (← low) split.1) (rw (← low) split.2) (split.3 ∙ low) c.in_ok-checksum.ensures.cases.0 in
    rw (c.value-count.ensures, c.value.ensures) begins

pub returns-clause-bytes : goal.returns-clause-bytes
returns-clause-bytes c =
    let pairs = c.as_chunks.ensures.front ∙ ap (λ bytes. first_chunks 2 (length bytes / 2) bytes) c.in_ok-head.ensures.cases.1 in
    pairs-low_bytes c.args.bytes.now _ c.in_ok-count.words.now c.in_ok-user.user.now c.in_ok-count.count.now _
    (All-from_get_or IsByte c.args.bytes.now 0 (λ k below. omega (arith, c.type_inv.bytes k))) pairs c.in_ok-count.ensures.cases.0 c.in_ok-user.ensures.cases.1
