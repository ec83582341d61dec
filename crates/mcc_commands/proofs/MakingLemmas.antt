-- There are words of packets, each of which is a distribution packet if it is one of captions.
use Rattle.std.proofs.Common.{◌≡◌, ℕ, ◌+◌, ◌-◌, ◌*◌, ◌/◌, ◌%◌, ◌<◌, inl, inr, Bool, true, false, List, [], ◌∷◌, ◌++◌, length, sum, Option, Some, None, refl, ap, ◌∙◌, arith}
use Rattle.std.specs.List.{concat}
use Rattle.anc_words.specs.Writing.{packet_bytes}
use Rattle.cc_base.specs.Rate.{rate_code}
use Rattle.cdp_packets.specs.Packets.{Frame, IsCdp}
use Rattle.mcc_files.specs.MccFiles.{TimedPackets}
use Rattle.mcc_files.specs.Payloads.{Payload}
use Rattle.mcc_files.specs.PayloadWords.{payload_words}
use Rattle.mcc_words.proofs.CloseLemmas.{sum_foot}
use Rattle.mcc_words.proofs.MakerLemmas.{words_more}
use Rattle.mcc_words.specs.MccWords.{AreMccWords, ArePacketWords, carries_captions, missing_words, raised_by}
use Rattle.mcc_words.specs.Raised.{IsRaised}
use Rattle.mcc_words.specs.declared.maker.Before.{Before}
use Rattle.mcc_commands.proofs.ImportedWordsLemmas.{packet_with}

-- a packet with its counter raised
balanced : (rest : ℕ) → (rest + (256 - rest % 256) % 256) % 256 ≡ 0
balanced rest = omega arith

two_bytes : (n : ℕ) → 256 * (n / 256) + n % 256 ≡ n
two_bytes n = omega arith

high_small : (n : ℕ) → n % 65536 / 256 < 256
high_small n = omega arith

low_small : (n : ℕ) → n % 256 < 256
low_small n = omega arith

pub record Raises (by : ℕ) (user : List ℕ) : Type 0 where
  pub raised : List ℕ
  pub is : IsRaised by user raised

pub raises : (packet : Frame) (by : ℕ) (user : List ℕ) → IsCdp packet user → Raises by user
raises packet by user is =
    let head = 0x96 ∷ 0x69 ∷ length user ∷ (16 * rate_code packet.rate + is.marker) ∷ packet.flags ∷ [] in
    let middle = concat packet.sections in
    let number = 256 * is.high + is.low + by in
    let counter = number % 65536 in
    let high = counter / 256 in
    let low = counter % 256 in
    let rest = sum head + 0x74 + sum middle + 2 * high + 2 * low in
    let last = (256 - rest % 256) % 256 in
    record {
      raised = packet_with head middle high low last;
      is = record {
        head = head;
        middle = middle;
        high = is.high;
        low = is.low;
        last = is.last;
        high_again = high;
        low_again = low;
        last_again = last;
        five = refl;
        user_is = is.spelled;
        raised_is = refl;
        counter = two_bytes counter;
        bytes = (high_small number, low_small counter, low_small (256 - rest % 256));
        total = ap (λ (n : ℕ). n % 256) (sum_foot head middle high low last) ∙ balanced rest;
      };
    }

-- the words of a packet, with the frames that are missing before it
pub record Makes (before : Option Before) (one : ℕ × Payload) : Type 0 where
  pub bytes : List ℕ
  pub after : Option Before
  pub are : ArePacketWords before one bytes after

makes : (before : Option Before) (one : ℕ × Payload) → (carries_captions one.1 ≡ true → (frame : Frame) × IsCdp frame one.1.user) → Makes before one
makes before one carries = by_test (carries_captions one.1) refl
  where
    by_test : (test : Bool) → carries_captions one.1 ≡ test → Makes before one
    by_test true is =
        let (packet, cdp) = carries is in
        let by = raised_by before one.0 packet.counter in
        let r = raises packet by one.1.user cdp in
        record {
          bytes = missing_words before one.0 ++ packet_bytes 0x61 0x01 r.raised;
          after = Some (record { frame = one.0; rate = packet.rate; counter = packet.counter; raised = by });
          are = inl (is, record { packet = packet; raised = r.raised; is = cdp; is_raised = r.is; spelled = refl; after_is = refl });
        }
    by_test false isnt = record { bytes = payload_words one.1; after = before; are = inr (isnt, refl, refl) }

pub words_with_one : (placed : TimedPackets) (words : List ℕ) (one : ℕ × Payload) → AreMccWords placed words → (carries_captions one.1 ≡ true → (frame : Frame) × IsCdp frame one.1.user)
    → (longer : List ℕ) × AreMccWords (placed ++ one ∷ []) longer
words_with_one placed words one are carries =
    let m = makes are.after one carries in
    (words ++ m.bytes, record { after = m.after; are = words_more placed words None are.after one m.bytes m.after are.are m.are })
