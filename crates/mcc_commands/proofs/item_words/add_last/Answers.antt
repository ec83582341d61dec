use Rattle.std.proofs.Common.{◌≡◌, ◌∙◌, ◌-◌, ◌++◌, ap, drop, length, take, arith}
use Rattle.words_reading.proofs.PieceLemmas.{rest_is}
use Rattle.mcc_files.specs.PayloadWords.{payload_words}
use Rattle.mcc_commands.specs.Words.{open_words}
use Rattle.mcc_commands.proofs.ItemLemmas.{last_fits, last_put, whole_bytes}
use Rattle.mcc_commands.proofs.item_words.add_last.Goals as goal

pub put_packet-requires-clause-whole : goal.put_packet-requires-clause-whole
put_packet-requires-clause-whole c = let w = whole_bytes c.args.bytes.now c.requires.goes c.requires.whole in (w.payload, w.are)

pub slice_bounds-add-count : goal.slice_bounds-add-count
slice_bounds-add-count c =
    let w = whole_bytes c.args.bytes.now c.requires.goes c.requires.whole in
    let words = c.put_packet.ensures w.payload w.are in
    let fits = last_fits c.args.bytes.now w.payload c.args.from c.words_size-size.result w.are c.requires.from c.requires.fewer c.words_size-size.ensures.none c.words_size-size.ensures.some in
    let long = ap length (c.deref.ensures.0 ∙ words) in
    omega (arith, fits, long)

pub slice_bounds-add-start : goal.slice_bounds-add-start
slice_bounds-add-start c =
    let w = whole_bytes c.args.bytes.now c.requires.goes c.requires.whole in
    let words = c.put_packet.ensures w.payload w.are in
    let fits = last_fits c.args.bytes.now w.payload c.args.from c.words_size-size.result w.are c.requires.from c.requires.fewer c.words_size-size.ensures.none c.words_size-size.ensures.some in
    let long = ap length (c.deref.ensures.0 ∙ words) in
    omega (arith, fits, long)

pub returns : goal.returns
returns c =
    let w = whole_bytes c.args.bytes.now c.requires.goes c.requires.whole in
    let words : c.deref.result.now ≡ payload_words w.payload = c.deref.ensures.0 ∙ c.put_packet.ensures w.payload w.are in
    let fits = last_fits c.args.bytes.now w.payload c.args.from c.words_size-size.result w.are c.requires.from c.requires.fewer c.words_size-size.ensures.none c.words_size-size.ensures.some in
    let long = ap length words in
    let size = c.words_size-size.result in
    let rest = rest_is size c.deref.result.now (omega (arith, fits, long)) in
    let out : c.add.new.out.items ≡ drop size (payload_words w.payload) =
    c.add.ensures ∙ (ap (λ b. b ++ take (length c.deref.result.now - size) (drop size c.deref.result.now)) c.requires.empty ∙ (rest ∙ ap (λ b. drop size b) words)) in
    ap (λ o. open_words (take c.args.from c.args.bytes.now) ++ o) out
    ∙ last_put c.args.bytes.now w.payload c.args.from size w.are c.requires.from c.requires.fewer c.words_size-size.ensures.none c.words_size-size.ensures.some
