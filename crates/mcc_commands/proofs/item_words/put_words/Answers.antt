use Rattle.std.proofs.Common.{◌≡◌, ◌∙◌, ◌-◌, ◌<◌, ◌++◌, List, ℕ, ap, drop, false, length, sym, take, arith}
use Rattle.words_reading.proofs.PieceLemmas.{rest_is}
use Rattle.mcc_files.specs.PayloadReading.{is_whole}
use Rattle.mcc_commands.specs.Words.{eight_words, flag_words, open_words}
use Rattle.mcc_commands.proofs.ItemLemmas.{first_words, rest_put}
use Rattle.mcc_commands.proofs.item_words.put_words.Goals as goal

pub returns-then-from-eq0 : goal.returns-then-from-eq0
returns-then-from-eq0 c =
    let still : is_whole c.args.bytes.now ≡ false = sym c.if-are_whole.ensures in
    let within = c.requires.from in
    let none = c.if-from-eq0.true in
    let some : 0 < length c.args.bytes.now = omega (arith, within) in
    let out : c.add_eight_bit.new.out.items ≡ flag_words ++ eight_words c.args.bytes.now =
    c.add_eight_bit.ensures ∙ ap (λ (b : List ℕ). b ++ eight_words c.args.bytes.now) (c.add.ensures ∙ ap (λ (b : List ℕ). b ++ flag_words) c.requires.empty) in
    ap (λ (o : List ℕ). open_words (take c.args.from c.args.bytes.now) ++ o) out
    ∙ (ap (λ (n : ℕ). open_words (take n c.args.bytes.now) ++ (flag_words ++ eight_words c.args.bytes.now)) none ∙ first_words c.args.bytes.now still some)

pub returns : goal.returns
returns c =
    let still : is_whole c.args.bytes.now ≡ false = sym c.if-are_whole.ensures in
    let within = c.requires.from in
    let any = c.if-from-eq0.false in
    let some : 0 < c.args.from = omega (arith, any) in
    let rest = rest_is c.args.from c.args.bytes.now (omega (arith, within)) in
    let out : c.add_eight_bit-2.new.out.items ≡ eight_words (drop c.args.from c.args.bytes.now) =
    c.add_eight_bit-2.ensures
    ∙ (ap (λ (b : List ℕ). b ++ eight_words (take (length c.args.bytes.now - c.args.from) (drop c.args.from c.args.bytes.now))) c.requires.empty ∙ ap (λ (b : List ℕ). eight_words b) rest) in
    ap (λ (o : List ℕ). open_words (take c.args.from c.args.bytes.now) ++ o) out
    ∙ rest_put c.args.bytes.now c.args.from (omega (arith, within)) some c.requires.fewer still
