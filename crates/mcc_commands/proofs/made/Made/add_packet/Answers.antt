use Rattle.std.proofs.Common.{◌≡◌, ◌∙◌, ◌<◌, false, inl, inr, All, List, ℕ, ap, subst, sym}
use Rattle.std.proofs.lemmas.List.Elements.{All-from_get_or}
use Rattle.anc_words.specs.Writing.{packet_bytes}
use Rattle.cdp_packets.specs.Packets.{IsCdp}
use Rattle.mcc_files.specs.Readers.{packet_in}
use Rattle.mcc_files.specs.Payloads.{Payload, payload_bytes}
use Rattle.mcc_files.proofs.WordLemmas.{user_of_bytes}
use Rattle.mcc_words.specs.MccWords.{carries_captions}
use Rattle.mcc_words.proofs.CaptionTests.{captions_false}
use Rattle.text_output.specs.Gathered.{held_of}
use Rattle.mcc_commands.specs.Importing.{AddsPacket}
use Rattle.mcc_commands.proofs.AddLemmas.{captions}
use Rattle.mcc_commands.proofs.TakeLemmas.{file_more}
use Rattle.mcc_commands.proofs.made.Made.add_packet.Goals as goal

pub add_captions-requires-clause-captions : goal.add_captions-requires-clause-captions
add_captions-requires-clause-captions g c =
    let is : c.bytes.result.now ≡ payload_bytes (packet_in c.args.reader.now).1 = c.bytes.ensures ∙ c.requires.whole in
    let are = subst (λ (b : List ℕ). All (λ byte. byte < 256) b) is (All-from_get_or (λ byte. byte < 256) c.bytes.result.now 0 c.said-did.ensures.small) in
    let s = c.said-did.ensures.says (packet_in c.args.reader.now).1 is in
    let more = file_more c.requires.ended.placed (packet_in c.args.reader.now) c.requires.ended.hearer c.requires.ended.ended.file are c.requires.ended.ended.heard in
    let (frame, cdp) = more.captions (sym s.0 ∙ c.if-did-eq-CAPTION_DID.true, sym s.1 ∙ c.if-sdid-eq-CAPTION_SDID.true) in
    (frame, subst (λ (u : List ℕ). IsCdp frame u) (sym s.2) cdp)

pub add_captions-requires-clause-bytes : goal.add_captions-requires-clause-bytes
add_captions-requires-clause-bytes g c =
    let p = (packet_in c.args.reader.now).1 in
    let is : c.bytes.result.now ≡ payload_bytes p = c.bytes.ensures ∙ c.requires.whole in
    let are = subst (λ (b : List ℕ). All (λ byte. byte < 256) b) is (All-from_get_or (λ byte. byte < 256) c.bytes.result.now 0 c.said-did.ensures.small) in
    let s = c.said-did.ensures.says p is in
    subst (λ (u : List ℕ). All (λ byte. byte < 256) u) (sym s.2) (user_of_bytes p are)

pub add_captions-requires-clause-words : goal.add_captions-requires-clause-words
add_captions-requires-clause-words g c =
    let p = (packet_in c.args.reader.now).1 in
    let s = c.said-did.ensures.says p (c.bytes.ensures ∙ c.requires.whole) in
    let did : p.did ≡ 0x61 = sym s.0 ∙ c.if-did-eq-CAPTION_DID.true in
    let sdid : p.sdid ≡ 0x01 = sym s.1 ∙ c.if-sdid-eq-CAPTION_SDID.true in
    c.requires.words
    ∙ (ap (λ (d : ℕ). packet_bytes d p.sdid p.user) did
    ∙ (ap (λ (d : ℕ). packet_bytes 0x61 d p.user) sdid ∙ ap (λ (u : List ℕ). packet_bytes 0x61 0x01 u) (sym s.2)))

same_captions : (frame : ℕ) (user : List ℕ) (one : ℕ × Payload) → frame ≡ one.0 → user ≡ one.1.user → one.1.did ≡ 0x61 → one.1.sdid ≡ 0x01 → (frame, captions user) ≡ one
same_captions frame user one at same did sdid =
    let payload : ℕ → ℕ → Payload = λ did sdid. record { did = did; sdid = sdid; user = one.1.user } in
    let pair : ℕ → Payload → ℕ × Payload = λ at payload. (at, payload) in
    ap (λ (n : ℕ). pair n (captions user)) at
    ∙ (ap (λ (u : List ℕ). pair one.0 (captions u)) same
    ∙ (ap (λ (n : ℕ). pair one.0 (payload n 0x01)) (sym did) ∙ ap (λ (n : ℕ). pair one.0 (payload one.1.did n)) (sym sdid)))

pub returns-then-sdid-eq-CAPTION_SDID-clause-adds : goal.returns-then-sdid-eq-CAPTION_SDID-clause-adds
returns-then-sdid-eq-CAPTION_SDID-clause-adds g c placed words start made way =
    let one = packet_in c.args.reader.now in
    let s = c.said-did.ensures.says one.1 (c.bytes.ensures ∙ c.requires.whole) in
    let same = same_captions _ _ one c.frame.ensures s.2 (sym s.0 ∙ c.if-did-eq-CAPTION_DID.true) (sym s.1 ∙ c.if-sdid-eq-CAPTION_SDID.true) in
    subst
    (λ (p : ℕ × Payload).
    AddsPacket placed words p start (g.O.Sink.written c.add_captions.new.out) (held_of c.add_captions.new.text) c.add_captions.new.self c.add_captions.result) same
    (c.add_captions.ensures.adds placed words start made way)

pub returns-then-sdid-eq-CAPTION_SDID-clause-file : goal.returns-then-sdid-eq-CAPTION_SDID-clause-file
returns-then-sdid-eq-CAPTION_SDID-clause-file g c placed hearer ended =
    let is : c.bytes.result.now ≡ payload_bytes (packet_in c.args.reader.now).1 = c.bytes.ensures ∙ c.requires.whole in
    let are = subst (λ (b : List ℕ). All (λ byte. byte < 256) b) is (All-from_get_or (λ byte. byte < 256) c.bytes.result.now 0 c.said-did.ensures.small) in
    let more = file_more placed (packet_in c.args.reader.now) hearer ended.file are ended.heard in
    more.file

pub returns-else-did-eq-CAPTION_DID-clause-adds : goal.returns-else-did-eq-CAPTION_DID-clause-adds
returns-else-did-eq-CAPTION_DID-clause-adds g c placed words start made way =
    let one = packet_in c.args.reader.now in
    let s = c.said-did.ensures.says one.1 (c.bytes.ensures ∙ c.requires.whole) in
    let other : carries_captions one.1 ≡ false =
    captions_false one.1 (λ captions. elim c.else-did-eq-CAPTION_DID.either [
      | inl did ↦ did.1 (s.1 ∙ captions.1)
      | inr did ↦ did (s.0 ∙ captions.0)
    ]) in
    c.add_other.ensures.adds placed words start one.0 one.1 made way other c.requires.words

pub returns-else-did-eq-CAPTION_DID-clause-file : goal.returns-else-did-eq-CAPTION_DID-clause-file
returns-else-did-eq-CAPTION_DID-clause-file g c placed hearer ended =
    let is : c.bytes.result.now ≡ payload_bytes (packet_in c.args.reader.now).1 = c.bytes.ensures ∙ c.requires.whole in
    let are = subst (λ (b : List ℕ). All (λ byte. byte < 256) b) is (All-from_get_or (λ byte. byte < 256) c.bytes.result.now 0 c.said-did.ensures.small) in
    let more = file_more placed (packet_in c.args.reader.now) hearer ended.file are ended.heard in
    more.file
