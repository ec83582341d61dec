use Rattle.std.proofs.Common.{◌≡◌, ◌∙◌, ◌-◌, ◌++◌, ◌<◌, Ok, ap, false, length, lit<, List, ℕ, [], refl, sym, subst, take, true, arith}
use Rattle.std.proofs.Math.Seq.{take-append_seam}
use Rattle.cc_base.specs.declared.refusal.Refusal.{Refusal}
use Rattle.mcc_files.specs.Readers.{read_bytes, state_of}
use Rattle.mcc_files.specs.PayloadReading.{is_whole, joined}
use Rattle.mcc_commands.specs.Importing.{step_back, step_item}
use Rattle.mcc_commands.specs.Words.{open_words, state_words}
use Rattle.mcc_commands.specs.declared.import_stop.MccStop.TheVariants as stop
use Rattle.mcc_commands.proofs.JudgeLemmas.{item_facts, item_judged, item_refused, state_few}
use Rattle.mcc_commands.proofs.importing.Importing.judge.Goals as goal

pub add-requires-2 : goal.add-requires-2
add-requires-2 c =
    let first : c.add.new.out.items ≡ read_bytes c.args.self.now.reader =
    c.add.ensures ∙ (ap (λ b. b ++ c.bytes.result.now) c.new-bytes.ensures ∙ c.bytes.ensures) in
    let none = c.if-len-eq0.false in
    let size = c.len.ensures.value in
    let some : 0 < length c.item-item.result.bytes.items = omega (arith, none, size) in
    let room = c.item-item.ensures.room some in
    let one = ap length first in
    let two = ap length c.deref.ensures.0 in
    (lit< tt, omega (arith, room, one, two))

pub put_words-requires-clause-goes : goal.put_words-requires-clause-goes
put_words-requires-clause-goes c =
    let had = c.requires.had in
    let open_bytes = read_bytes c.args.self.now.reader in
    let fit = step_item c.args.self.now.reader c.args.byte in
    let first : c.add.new.out.items ≡ open_bytes = c.add.ensures ∙ (ap (λ b. b ++ c.bytes.result.now) c.new-bytes.ensures ∙ c.bytes.ensures) in
    let all : c.deref-2.result.now ≡ open_bytes ++ fit =
    c.deref-2.ensures.0 ∙ (c.add-2.ensures ∙ (ap (λ b. b ++ c.deref.result.now) first ∙ ap (λ f. open_bytes ++ f) (c.deref.ensures.0 ∙ c.item-item.ensures.bytes))) in
    let facts = item_facts c.requires.bytes (state_of c.args.self.now.reader had.placed) c.args.byte had.read
    (λ none. c.if-len-eq0.false (c.len.ensures.value ∙ ap length (c.item-item.ensures.bytes ∙ none))) in
    subst (λ (b : List ℕ). joined true [] b ≡ Ok b) (sym all) facts.join

pub put_words-requires-clause-fewer : goal.put_words-requires-clause-fewer
put_words-requires-clause-fewer c =
    let had = c.requires.had in
    let open_bytes = read_bytes c.args.self.now.reader in
    let fit = step_item c.args.self.now.reader c.args.byte in
    let first : c.add.new.out.items ≡ open_bytes = c.add.ensures ∙ (ap (λ b. b ++ c.bytes.result.now) c.new-bytes.ensures ∙ c.bytes.ensures) in
    let all : c.deref-2.result.now ≡ open_bytes ++ fit =
    c.deref-2.ensures.0 ∙ (c.add-2.ensures ∙ (ap (λ b. b ++ c.deref.result.now) first ∙ ap (λ f. open_bytes ++ f) (c.deref.ensures.0 ∙ c.item-item.ensures.bytes))) in
    let facts = item_facts c.requires.bytes (state_of c.args.self.now.reader had.placed) c.args.byte had.read
    (λ none. c.if-len-eq0.false (c.len.ensures.value ∙ ap length (c.item-item.ensures.bytes ∙ none))) in
    let front : take (length c.bytes-2.result.now) c.deref-2.result.now ≡ open_bytes =
    ap (λ (b : List ℕ). take (length b) c.deref-2.result.now) c.bytes-2.ensures
    ∙ (ap (λ (b : List ℕ). take (length open_bytes) b) all ∙ take-append_seam open_bytes fit) in
    subst (λ (b : List ℕ). is_whole b ≡ false) (sym front) facts.not_yet

pub hear-requires-clause-few : goal.hear-requires-clause-few
hear-requires-clause-few c =
    let had = c.requires.had in
    let s = state_of c.args.self.now.reader had.placed in
    let none = c.if-len-eq0.false in
    let size = c.len.ensures.value in
    let some : 0 < length c.item-item.result.bytes.items = omega (arith, none, size) in
    let room = c.item-item.ensures.room some in
    let facts = item_facts c.requires.bytes s c.args.byte had.read (λ none. c.if-len-eq0.false (c.len.ensures.value ∙ ap length (c.item-item.ensures.bytes ∙ none))) in
    state_few s c.requires.words c.args.self.now.made had.placed c.args.self.now.hearer (step_item c.args.self.now.reader c.args.byte) (length c.deref-3.result.now) refl had.made had.heard facts
    (omega (arith, room)) c.deref-3.ensures.1

pub hear-requires-clause-heard : goal.hear-requires-clause-heard
hear-requires-clause-heard c =
    record { words = state_words (state_of c.args.self.now.reader c.requires.had.placed); heard = c.requires.had.heard }

pub returns-in-Ok : goal.returns-in-Ok
returns-in-Ok c bytes words had =
    let open_bytes = read_bytes c.args.self.now.reader in
    let fit = step_item c.args.self.now.reader c.args.byte in
    let first : c.add.new.out.items ≡ open_bytes = c.add.ensures ∙ (ap (λ b. b ++ c.bytes.result.now) c.new-bytes.ensures ∙ c.bytes.ensures) in
    let all : c.deref-2.result.now ≡ open_bytes ++ fit =
    c.deref-2.ensures.0 ∙ (c.add-2.ensures ∙ (ap (λ b. b ++ c.deref.result.now) first ∙ ap (λ f. open_bytes ++ f) (c.deref.ensures.0 ∙ c.item-item.ensures.bytes))) in
    let out = c.deref-3.result.now in
    let sized : open_words (take (length open_bytes) c.deref-2.result.now) ++ c.put_words.new.out.items ≡ open_words c.deref-2.result.now =
    subst (λ (b : List ℕ). open_words (take (length b) c.deref-2.result.now) ++ c.put_words.new.out.items ≡ open_words c.deref-2.result.now) c.bytes-2.ensures c.put_words.ensures in
    let shown : open_words (take (length open_bytes) c.deref-2.result.now) ++ out ≡ open_words c.deref-2.result.now =
    subst (λ (o : List ℕ). open_words (take (length open_bytes) c.deref-2.result.now) ++ o ≡ open_words c.deref-2.result.now) (sym c.deref-3.ensures.0) sized in
    let put = subst (λ (b : List ℕ). open_words (take (length open_bytes) b) ++ out ≡ open_words b) all shown in
    let some = λ (none : fit ≡ []). c.if-len-eq0.false (c.len.ensures.value ∙ ap length (c.item-item.ensures.bytes ∙ none)) in (
      refl,
      refl,
      refl,
      item_judged bytes words out c.args.byte (length open_bytes) c.args.self.now c.hear.new.self had some refl put
          (c.in-Ok.ensures (state_words (state_of c.args.self.now.reader had.placed)) had.heard),
    )

pub returns-in-Err : goal.returns-in-Err
returns-in-Err c bytes words had =
    let open_bytes = read_bytes c.args.self.now.reader in
    let fit = step_item c.args.self.now.reader c.args.byte in
    let first : c.add.new.out.items ≡ open_bytes = c.add.ensures ∙ (ap (λ b. b ++ c.bytes.result.now) c.new-bytes.ensures ∙ c.bytes.ensures) in
    let all : c.deref-2.result.now ≡ open_bytes ++ fit =
    c.deref-2.ensures.0 ∙ (c.add-2.ensures ∙ (ap (λ b. b ++ c.deref.result.now) first ∙ ap (λ f. open_bytes ++ f) (c.deref.ensures.0 ∙ c.item-item.ensures.bytes))) in
    let out = c.deref-3.result.now in
    let sized : open_words (take (length open_bytes) c.deref-2.result.now) ++ c.put_words.new.out.items ≡ open_words c.deref-2.result.now =
    subst (λ (b : List ℕ). open_words (take (length b) c.deref-2.result.now) ++ c.put_words.new.out.items ≡ open_words c.deref-2.result.now) c.bytes-2.ensures c.put_words.ensures in
    let shown : open_words (take (length open_bytes) c.deref-2.result.now) ++ out ≡ open_words c.deref-2.result.now =
    subst (λ (o : List ℕ). open_words (take (length open_bytes) c.deref-2.result.now) ++ o ≡ open_words c.deref-2.result.now) (sym c.deref-3.ensures.0) sized in
    let put = subst (λ (b : List ℕ). open_words (take (length open_bytes) b) ++ out ≡ open_words b) all shown in
    let some = λ (none : fit ≡ []). c.if-len-eq0.false (c.len.ensures.value ∙ ap length (c.item-item.ensures.bytes ∙ none)) in
    let word = c.in-Err.refusal in
    let offends = c.in-Err.ensures (state_words (state_of c.args.self.now.reader had.placed)) had.heard in
    let refusal : Refusal = record { place = length bytes - step_back c.args.self.now.reader; why = word.why } in (
      refusal,
      c.offends.ensures
          ∙ (ap (λ (n : ℕ). stop.Offends (record { place = n - c.item-item.result.back; why = word.why })) had.place_is
          ∙ ap (λ (n : ℕ). stop.Offends (record { place = length bytes - n; why = word.why })) c.item-item.ensures.back),
      item_refused bytes words out c.args.byte (length open_bytes) c.args.self.now had word some refl put offends,
    )
