-- The begin of an ancillary packet goes on to whole packets: a distribution packet that is open is filled, and another ends
-- with user words 200, the 8-bit word of 0.
use Rattle.std.proofs.Common.{◌≡◌, ℕ, ◌-◌, ◌%◌, ◌<◌, ◌||◌, not, Bool, true, false, List, [], ◌∷◌, ◌++◌, length, map, replicate, None, refl, ap, sym, subst, ◌∙◌, arith, append_assoc, append-nil, length-append, eq-eqb, lit<, lit≤}
use Rattle.std.proofs.lemmas.List.{length-map, length-replicate, map-append}
use Rattle.std.proofs.lemmas.List.Elements.{All-append, All-map, All-nil, All-replicate, All-weaker, recursion_from_All}
use Rattle.std.specs.List.{All, flat_map}
use Rattle.cc_base.specs.Feeding.{Verdict}
use Rattle.cc_base.specs.Steps.{AreAccepted, front_from}
use Rattle.cc_base.specs.Syntax.{AllRead, open_behind, parts_from, parts_of}
use Rattle.cc_base.proofs.StepLemmas.{AreAccepted-append}
use Rattle.cc_base.proofs.SyntaxLemmas.{Reads-append, parts_from-append}
use Rattle.anc_words.specs.declared.parts.WordPart.TheVariants as part
use Rattle.anc_words.specs.EightBitWords.{IsEightBit}
use Rattle.anc_words.specs.Packets.{AncillaryPacket, IsPacket, user_bytes}
use Rattle.anc_words.specs.Reading.{is_caption, is_eight_bit, word_syntax}
use Rattle.anc_words.specs.WordsFiles.{ArePackets}
use Rattle.anc_words.specs.Writing.{checksum_word, eight_bit_word}
use Rattle.anc_words.proofs.ChecksumLemmas.{checksum_word-is}
use Rattle.anc_words.proofs.EightBitLemmas.{IsEightBit-word, eight_bit_word-is}
use Rattle.anc_words.proofs.PacketLemmas.{user_bytes-packet_of}
use Rattle.anc_words.proofs.ReadLemmas.{FitsUser, Reads-head, Reads-users}
use Rattle.anc_words.proofs.SoundLemmas.{IsBegun, IsBody, IsByteWord, IsPacket-ended, IsUserBehind, packet_behind}
use Rattle.cdp_packets.specs.declared.parts.CdpPart.{CdpPart}
use Rattle.cdp_packets.specs.PacketParts.{packet_parts}
use Rattle.cdp_packets.specs.Packets.{Frame, IsCdp}
use Rattle.cdp_packets.specs.Reading.{IsPacketLength, cdp_syntax, judge_cdp, nothing_open, open_after}
use Rattle.cdp_packets.proofs.FillLemmas.{goes_on}
use Rattle.words_files.specs.Catching.{Caught, caught_after}
use Rattle.words_files.specs.Frames.{CarryFrames, none, caption, foreign}
use Rattle.words_files.specs.Verdicts.{TakesFilling}
use Rattle.words_files.proofs.CatchingLemmas.{accepted_behind, handed, idle, lows, unrefused_before, users_kept}
use Rattle.words_files.proofs.CaughtLemmas.{begun_length, caption_begun, captions-is, captions-no, carried_read, has_captions}

-- words that begin packets, with what these carry
pub record Finishes (v : Verdict CdpPart) (before : List (List CdpPart)) (front : List ℕ) : Type 0 where
  pub more : List ℕ
  pub packets : List AncillaryPacket
  pub are : ArePackets packets (front ++ more)
  pub frames : List Frame
  pub carried : CarryFrames packets frames
  pub accepted : AreAccepted v (handed before) (flat_map packet_parts frames)

-- so do fewer words
Finishes-fewer : (v : Verdict CdpPart) (before : List (List CdpPart)) (front some : List ℕ) → Finishes v before (front ++ some) → Finishes v before front
Finishes-fewer v before front some rest = record {
  more = some ++ rest.more;
  packets = rest.packets;
  are = subst (ArePackets rest.packets) (append_assoc front some rest.more) rest.are;
  frames = rest.frames;
  carried = rest.carried;
  accepted = rest.accepted;
}

-- the 8-bit words of bytes
byte_word : (byte : ℕ) → byte < 256 → IsByteWord (eight_bit_word byte)
byte_word byte below =
    let is = eight_bit_word-is byte below in
    subst (λ b. IsEightBit b (eight_bit_word byte)) (sym is.low_bits) is

byte_user : (did sdid byte : ℕ) → byte < 256 → IsUserBehind did sdid (eight_bit_word byte)
byte_user did sdid byte below = let is = byte_word byte below in record { ten_bits = is.ten_bits; caption = λ _ _. is }

-- a packet without user words so far
begun_body : (did sdid count : ℕ) → IsByteWord did → IsByteWord sdid → IsByteWord count → IsBody 0x000 0x3FF 0x3FF did sdid count []
begun_body did sdid count did_is sdid_is count_is = record {
  first_is = refl;
  second_is = refl;
  third_is = refl;
  did_is = did_is;
  sdid_is = sdid_is;
  count_is = count_is;
  user_are = All-nil (IsUserBehind did sdid);
  few = omega arith;
}

-- a body, and the user words that are left
full_body : (first second third did sdid count : ℕ) (user more : List ℕ) → IsBody first second third did sdid count user
    → All (IsUserBehind did sdid) more → length (user ++ more) ≡ count % 256 → IsBody first second third did sdid count (user ++ more)
full_body first second third did sdid count user more body are many = record {
  first_is = body.first_is;
  second_is = body.second_is;
  third_is = body.third_is;
  did_is = body.did_is;
  sdid_is = body.sdid_is;
  count_is = body.count_is;
  user_are = All-append (IsUserBehind did sdid) user more body.user_are are;
  few = omega (arith, many);
}

-- a body that its user words complete
Finishes-body : (v : Verdict CdpPart) (before : List (List CdpPart)) (first second third did sdid count : ℕ) (user more : List ℕ)
    → IsBody first second third did sdid count user → All (IsUserBehind did sdid) more → length (user ++ more) ≡ count % 256
    → (frames : List Frame) → CarryFrames (packet_behind did sdid (user ++ more) ∷ []) frames → AreAccepted v (handed before) (flat_map packet_parts frames)
    → Finishes v before (first ∷ second ∷ third ∷ did ∷ sdid ∷ count ∷ user)
Finishes-body v before first second third did sdid count user more body are many frames carried accepted =
    let last = checksum_word (did ∷ sdid ∷ count ∷ (user ++ more)) in
    let packet = packet_behind did sdid (user ++ more) in
    let whole = IsPacket-ended first second third did sdid count (user ++ more) last (full_body first second third did sdid count user more body are many) many
    (checksum_word-is (did ∷ sdid ∷ count ∷ (user ++ more))) in
    let is = subst (λ ws. IsPacket packet (first ∷ second ∷ third ∷ did ∷ sdid ∷ count ∷ ws)) (append_assoc user more (last ∷ [])) whole in
    let words = first ∷ second ∷ third ∷ did ∷ sdid ∷ count ∷ (user ++ (more ++ last ∷ [])) in record {
      more = more ++ last ∷ [];
      packets = packet ∷ [];
      are = (words, [], sym (append-nil words), is, refl);
      frames = frames;
      carried = carried;
      accepted = accepted;
    }

-- another packet than one of captions
foreign_finishes : (v : Verdict CdpPart) (before : List (List CdpPart)) (first second third did sdid count : ℕ) (user : List ℕ)
    → IsBody first second third did sdid count user → ((did % 256 ≡ 0x61) × (sdid % 256 ≡ 0x01) → ⊥)
    → Finishes v before (first ∷ second ∷ third ∷ did ∷ sdid ∷ count ∷ user)
foreign_finishes v before first second third did sdid count user body other =
    let n = count % 256 - length user in
    let more = replicate n (eight_bit_word 0) in
    let few = body.few in
    Finishes-body v before first second third did sdid count user more body (All-replicate (IsUserBehind did sdid) n (eight_bit_word 0) (byte_user did sdid 0 (lit< tt)))
    (omega (arith, length-append user more, length-replicate {A = ℕ} n (eight_bit_word 0))) []
    (foreign (packet_behind did sdid (user ++ more)) [] [] other none) tt

-- the bytes of words, and of the 8-bit words of bytes
lows-completed : (user bytes : List ℕ) → All (λ byte. byte < 256) bytes → lows (user ++ map eight_bit_word bytes) ≡ lows user ++ bytes
lows-completed user bytes are =
    map-append (λ word. word % 256) user (map eight_bit_word bytes) ∙ ap (λ bs. lows user ++ bs) (user_bytes-packet_of 0 0 bytes are)

-- a packet of captions, whose distribution packet goes on
caption_finishes : (v : Verdict CdpPart) → TakesFilling v → (before : List (List CdpPart)) → AreAccepted v [] (handed before)
    → (first second third did sdid count : ℕ) (user : List ℕ) → IsBody first second third did sdid count user
    → (did % 256 ≡ 0x61) × (sdid % 256 ≡ 0x01) → IsPacketLength (count % 256) → AllRead (cdp_syntax (count % 256)) (lows user)
    → AreAccepted v (handed before) (parts_of (cdp_syntax (count % 256)) (lows user))
    → Finishes v before (first ∷ second ∷ third ∷ did ∷ sdid ∷ count ∷ user)
caption_finishes v takes before all first second third did sdid count user body is can read accepted =
    let size = count % 256 in
    let small : size < 256 = omega arith in
    let many : length (lows user) ≡ length user = length-map user (λ word. word % 256) in
    let go = goes_on size (lows user) can small (All-map (λ byte. byte < 256) (λ word. word % 256) user (λ k d below. omega arith)) (omega (arith, body.few, many)) read in
    let more = map eight_bit_word go.more in
    let are = All-map (IsUserBehind did sdid) eight_bit_word go.more
    (All-weaker (λ byte. byte < 256) (λ byte. IsUserBehind did sdid (eight_bit_word byte)) (byte_user did sdid) go.more go.bytes_are) in
    let long : length (user ++ more) ≡ size =
    omega (arith, length-append user more, length-append (lows user) go.more, length-map go.more eight_bit_word, go.long, many) in
    let packet = packet_behind did sdid (user ++ more) in
    let carries = subst (IsCdp go.packet) (sym (lows-completed user go.more go.bytes_are)) go.is in
    let judge = judge_cdp size in
    let after = open_after size in
    let rest = parts_from (cdp_syntax size) (open_behind (cdp_syntax size) (lows user)) go.more in
    let parts : parts_of (cdp_syntax size) (lows user) ++ rest ≡ packet_parts go.packet ++ [] =
    sym (parts_from-append (cdp_syntax size) nothing_open (lows user) go.more)
    ∙ ap (λ bs. parts_of (cdp_syntax size) bs) (sym (lows-completed user go.more go.bytes_are))
    ∙ ap (λ n. parts_of (cdp_syntax n) (user_bytes packet)) (sym long)
    ∙ (carried_read packet go.packet carries).made ∙ sym (append-nil (packet_parts go.packet)) in
    let filled = takes size (handed before) (lows user) go.more all read accepted go.filling in
    Finishes-body v before first second third did sdid count user more body are long (go.packet ∷ [])
    (caption packet [] go.packet [] is carries none)
    (subst (AreAccepted v (handed before)) parts (AreAccepted-append v (handed before) (parts_of (cdp_syntax size) (lows user)) rest accepted filled))

-- a user word after identifiers passes there
either_or_not : (b c : Bool) → (c ≡ true → b ≡ true) → (b || not c) ≡ true
either_or_not true c follows = refl
either_or_not false true follows = follows refl
either_or_not false false follows = refl

user_fits : (did sdid word : ℕ) → IsUserBehind did sdid word → FitsUser did sdid word
user_fits did sdid word is = (
  is.ten_bits,
  either_or_not (is_eight_bit word) (is_caption did sdid) (λ test.
      let (one, two) = captions-is (did % 256) (sdid % 256) test in
      eq-eqb word (eight_bit_word (word % 256)) (IsEightBit-word (word % 256) word (is.caption one two))),
)

-- the parts of a body
pub body_parts : (first second third did sdid count : ℕ) (user : List ℕ) → IsBody first second third did sdid count user
    → parts_from word_syntax [] (first ∷ second ∷ third ∷ did ∷ sdid ∷ count ∷ user)
    ≡ part.Start (did % 256) (sdid % 256) (count % 256) ∷ map part.User user
body_parts first second third did sdid count user body =
    let fit = recursion_from_All (FitsUser did sdid) user (All-weaker (IsUserBehind did sdid) (FitsUser did sdid) (user_fits did sdid) user body.user_are) in
    let head = Reads-head did sdid count body.did_is body.sdid_is body.count_is in
    let users = Reads-users 0x000 0x3FF 0x3FF did sdid count [] user (omega (arith, body.few)) fit in
    rw (body.first_is, body.second_is, body.third_is)
    (Reads-append word_syntax [] _ _ _ user (map part.User user) _ head users).made

-- what is read of the user words of a packet of captions that isn't refused
pub record IsOpenCaption (v : Verdict CdpPart) (before : List (List CdpPart)) (size : ℕ) (user : List ℕ) : Type 0 where
  pub can : IsPacketLength size
  pub read : AllRead (cdp_syntax size) (lows user)
  pub accepted : AreAccepted v (handed before) (parts_of (cdp_syntax size) (lows user))

pub open_caption : (v : Verdict CdpPart) (before : List (List CdpPart)) (did sdid size : ℕ) (user : List ℕ) → (did ≡ 0x61) × (sdid ≡ 0x01)
    → (front_from (caught_after v) (idle before) (part.Start did sdid size ∷ map part.User user)).refused ≡ None → IsOpenCaption v before size user
open_caption v before did sdid size user is unrefused =
    let users = map part.User user in
    let can = begun_length v before did sdid size is (unrefused_before v (caught_after v (idle before) (part.Start did sdid size)) users unrefused) in
    let after = ap (λ (c : Caught). (front_from (caught_after v) c users).refused) (sym (caption_begun v before did sdid size is can)) ∙ unrefused in
    let (read, accepted) = users_kept v before size [] [] user after in
    let behind = accepted_behind v before [] (parts_of (cdp_syntax size) (lows user)) accepted in
    record { can = can; read = read; accepted = subst (λ ps. AreAccepted v ps (parts_of (cdp_syntax size) (lows user))) (append-nil (handed before)) behind }

-- a body that isn't refused
body_finishes : (v : Verdict CdpPart) → TakesFilling v → (before : List (List CdpPart)) → AreAccepted v [] (handed before)
    → (first second third did sdid count : ℕ) (user : List ℕ) → IsBody first second third did sdid count user
    → (front_from (caught_after v) (idle before) (part.Start (did % 256) (sdid % 256) (count % 256) ∷ map part.User user)).refused ≡ None
    → Finishes v before (first ∷ second ∷ third ∷ did ∷ sdid ∷ count ∷ user)
body_finishes v takes before all first second third did sdid count user body unrefused =
    let cases : (b : Bool) → has_captions (did % 256) (sdid % 256) ≡ b → Finishes v before (first ∷ second ∷ third ∷ did ∷ sdid ∷ count ∷ user) = elim [
      | true ↦ λ test.
          let is = captions-is (did % 256) (sdid % 256) test in
          let kept = open_caption v before (did % 256) (sdid % 256) (count % 256) user is unrefused in
          caption_finishes v takes before all first second third did sdid count user body is kept.can kept.read kept.accepted
      | false ↦ λ test. foreign_finishes v before first second third did sdid count user body (captions-no (did % 256) (sdid % 256) test)
    ] in cases _ refl

-- a packet of nothing: DID, SDID and count are 200, the 8-bit word of 0
zero_word : IsByteWord 0x200
unfolding lib.Count.ones
zero_word = byte_word 0 (lit< tt)

-- a packet whose SDID isn't 01 isn't one of captions
zero_sdid : (did : ℕ) → (did % 256 ≡ 0x61) × (0x200 % 256 ≡ 0x01) → ⊥
zero_sdid did (_, is) = absurd (omega (arith, is))

sdid_finishes : (v : Verdict CdpPart) (before : List (List CdpPart)) (did : ℕ) → IsByteWord did
    → Finishes v before (0x000 ∷ 0x3FF ∷ 0x3FF ∷ did ∷ 0x200 ∷ 0x200 ∷ [])
sdid_finishes v before did is =
    foreign_finishes v before 0x000 0x3FF 0x3FF did 0x200 0x200 [] (begun_body did 0x200 0x200 is zero_word zero_word) (zero_sdid did)

-- a packet whose count comes next: one of captions has 11 user words, a distribution packet without sections
count_finishes : (v : Verdict CdpPart) → TakesFilling v → (before : List (List CdpPart)) → AreAccepted v [] (handed before)
    → (did sdid : ℕ) → IsByteWord did → IsByteWord sdid → Finishes v before (0x000 ∷ 0x3FF ∷ 0x3FF ∷ did ∷ sdid ∷ [])
count_finishes v takes before all did sdid did_is sdid_is =
    let count = eight_bit_word 11 in
    let count_is = byte_word 11 (lit< tt) in
    let eleven : count % 256 ≡ 11 = (eight_bit_word-is 11 (lit< tt)).low_bits in
    let body = begun_body did sdid count did_is sdid_is count_is in
    let can : IsPacketLength (count % 256) = subst IsPacketLength (sym eleven) (lit≤ tt, λ e. omega (arith, e)) in
    let front = 0x000 ∷ 0x3FF ∷ 0x3FF ∷ did ∷ sdid ∷ [] in
    let cases : (b : Bool) → has_captions (did % 256) (sdid % 256) ≡ b → Finishes v before front = elim [
      | true ↦ λ test. Finishes-fewer v before front (count ∷ [])
          (caption_finishes v takes before all 0x000 0x3FF 0x3FF did sdid count [] body (captions-is (did % 256) (sdid % 256) test) can tt tt)
      | false ↦ λ test. Finishes-fewer v before front (count ∷ [])
          (foreign_finishes v before 0x000 0x3FF 0x3FF did sdid count [] body (captions-no (did % 256) (sdid % 256) test))
    ] in cases _ refl

-- the begin of a packet that isn't refused goes on to packets
pub finishes : (v : Verdict CdpPart) → TakesFilling v → (before : List (List CdpPart)) → AreAccepted v [] (handed before)
    → (front : List ℕ) → IsBegun front → (front_from (caught_after v) (idle before) (parts_from word_syntax [] front)).refused ≡ None
    → Finishes v before front
finishes v takes before all [] begun unrefused = record { more = []; packets = []; are = refl; frames = []; carried = none; accepted = tt }
finishes v takes before all (first ∷ []) begun unrefused =
    rw begun (Finishes-fewer v before (0x000 ∷ []) (0x3FF ∷ 0x3FF ∷ 0x200 ∷ 0x200 ∷ 0x200 ∷ []) (sdid_finishes v before 0x200 zero_word))
finishes v takes before all (first ∷ second ∷ []) (one, two) unrefused =
    rw (one, two) (Finishes-fewer v before (0x000 ∷ 0x3FF ∷ []) (0x3FF ∷ 0x200 ∷ 0x200 ∷ 0x200 ∷ []) (sdid_finishes v before 0x200 zero_word))
finishes v takes before all (first ∷ second ∷ third ∷ []) (one, two, three) unrefused =
    rw (one, two, three) (Finishes-fewer v before (0x000 ∷ 0x3FF ∷ 0x3FF ∷ []) (0x200 ∷ 0x200 ∷ 0x200 ∷ []) (sdid_finishes v before 0x200 zero_word))
finishes v takes before all (first ∷ second ∷ third ∷ did ∷ []) (one, two, three, did_is) unrefused =
    rw (one, two, three) (Finishes-fewer v before (0x000 ∷ 0x3FF ∷ 0x3FF ∷ did ∷ []) (0x200 ∷ 0x200 ∷ []) (sdid_finishes v before did did_is))
finishes v takes before all (first ∷ second ∷ third ∷ did ∷ sdid ∷ []) (one, two, three, did_is, sdid_is) unrefused =
    rw (one, two, three) (count_finishes v takes before all did sdid did_is sdid_is)
finishes v takes before all (first ∷ second ∷ third ∷ did ∷ sdid ∷ count ∷ user) body unrefused =
    body_finishes v takes before all first second third did sdid count user body
    (ap (λ ps. (front_from (caught_after v) (idle before) ps).refused) (sym (body_parts first second third did sdid count user body)) ∙ unrefused)
