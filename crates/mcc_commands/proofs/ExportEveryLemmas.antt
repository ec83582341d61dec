-- Of every input `export-mcc` makes something.
use Rattle.std.proofs.Common.{◌≡◌, ◌∙◌, ◌+◌, ◌-◌, ◌%◌, ◌<◌, ◌⊎◌, ◌++◌, ◌∷◌, ap, append_assoc, arith, count_ones, inl, inr, length, refl, true, ℕ, List, []}
use Rattle.std.specs.Int.{bit_at}
use Rattle.std.specs.List.{All}
use Rattle.std.proofs.lemmas.Bool.{cases_Bool, cases_eq, cases_lt}
use Rattle.std.proofs.lemmas.List.Elements.{All-cons, All-head, All-nil, All-tail}
use Rattle.anc_words.specs.EightBitWords.{IsEightBit}
use Rattle.anc_words.specs.Packets.{AncillaryPacket, IsCaption, user_bytes}
use Rattle.anc_words.specs.WordsFiles.{IsPacketBytes}
use Rattle.cc_base.specs.Rate.{rate_code, rate_of}
use Rattle.cc_base.specs.declared.limit_of.LimitOf.TheVariants as limit
use Rattle.cc_base.specs.declared.rate.Rate.{Rate}
use Rattle.words_reading.proofs.FedFrames.{nothing_is_file}
use Rattle.cdp_packets.specs.Packets.{Frame, IsCdp}
use Rattle.command_base.specs.declared.status.Status.{Status}
use Rattle.command_base.specs.declared.status.Status.TheVariants as status
use Rattle.findings.specs.declared.finding.Kind45.TheVariants as kind
use Rattle.cdp_packets.proofs.PacketLemmas.{rate_of-code}
use Rattle.mcc_commands.proofs.ExportedLemmas.{mcc_caption, mcc_foreign, mcc_nothing, mcc_same, one_rate}
use Rattle.mcc_commands.specs.ExportMcc.{ExportMccEnd, ExportMccVerdict, HaltsMcc, IsMccOf, SaysMcc}
use Rattle.mcc_commands.specs.ExportSteps.{HasRate}
use Rattle.mcc_commands.specs.Exported.{Brings, IsWrongRate, StopsAtPacket, counts_rate, expected_rate}
use Rattle.mcc_commands.specs.declared.start.Start.{Start}
use Rattle.mcc_files.specs.PayloadWords.{payload_of}
use Rattle.mcc_files.specs.Writing.{written_head}
use Rattle.services_files.specs.CaptionChannel.{caption_channel}
use Rattle.time_codes.proofs.InEachCount.{day_has_frame}
use Rattle.time_codes.specs.Countings.{day_frames_in, frame_number_in, is_time_code_in}
use Rattle.time_codes.specs.declared.time_code.TimeCode.{TimeCode}
use Rattle.time_codes.specs.declared.counting.Counting.{Counting}
use Rattle.words_files.specs.FramesOf.{AreFramesOf}
use Rattle.words_files.specs.Offences.{IsFileUnder, IsUnoffending}
use Rattle.command_base.specs.Exact.{IsFault, HasVerdict}
use Rattle.words_reading.proofs.EveryLemmas.{HaltsIn, IsSaid, every_words}
use Rattle.mcc_commands.proofs.EveryLineLemmas.{line_of}
use Rattle.words_reading.proofs.WalkLemmas.{walk}

-- rates of one code are one
same_rate : (one other : Rate) → rate_code one ≡ rate_code other → one ≡ other
same_rate one other same = cc (rate_of-code one, rate_of-code other, ap rate_of same)

-- words are 8-bit words, or one isn't
abbrev Eight : ℕ → Type 0
Eight word = IsEightBit (word % 256) word

eight_or_not : (word : ℕ) → Eight word ⊎ (Eight word → ⊥)
eight_or_not word = elim (cases_lt word 1024) [
  | inr large ↦ inr (λ is. let small = is.ten_bits in omega (arith, small, large))
  | inl small ↦ elim (cases_eq ((count_ones (word % 256) + bit_at word 8) % 2) 0) [
    | inr odd ↦ inr (λ is. odd is.parity)
    | inl even ↦ elim (cases_eq (bit_at word 9) (1 - bit_at word 8)) [
      | inr other ↦ inr (λ is. other is.inverse)
      | inl inverse ↦ inl (record { ten_bits = small; low_bits = refl; parity = even; inverse = inverse })
    ]
  ]
]

all_or_not : (words : List ℕ) → All Eight words ⊎ (All Eight words → ⊥)
all_or_not [] = inl (All-nil Eight)
all_or_not (word ∷ words) = elim (eight_or_not word) [
  | inr other ↦ inr (λ all. other (All-head Eight word words all))
  | inl is ↦ elim (all_or_not words) [
    | inl all ↦ inl (All-cons Eight word words is all)
    | inr others ↦ inr (λ all. others (All-tail Eight word words all))
  ]
]

-- after frames a rate is expected, or another one is
like_first : (count : Counting) (frames : List Frame) (seen : Rate) → counts_rate count seen ≡ true → HasRate count frames seen ⊎ ((expected : Rate) × IsWrongRate count frames expected seen)
like_first count [] seen counted = inl counted
like_first count (first ∷ frames) seen counted = elim (cases_eq (rate_code seen) (rate_code first.rate)) [
  | inl same ↦ inl (counted, same_rate seen first.rate same)
  | inr other ↦ inr (first.rate, inr (counted, (refl, λ same. other (ap rate_code same))))
]

right_or_wrong : (count : Counting) (frames : List Frame) (seen : Rate) → HasRate count frames seen ⊎ ((expected : Rate) × IsWrongRate count frames expected seen)
right_or_wrong count frames seen = elim (cases_Bool (counts_rate count seen)) [
  | inl counted ↦ like_first count frames seen counted
  | inr uncounted ↦ inr (expected_rate count, inl (uncounted, refl))
]

module _ (start : Start) where
  -- the packets of a file are exported
  record IsGood (frames : List Frame) (file : List ℕ) : Type 0 where
    under : IsFileUnder caption_channel frames file
    text : List ℕ
    mcc : IsMccOf start frames file under text

  -- an export stops with bytes
  abbrev Stops : List ℕ → Type 0
  Stops bytes = (answer : Status) × (text : List ℕ) × (IsFault answer → ⊥) × HaltsMcc start answer bytes text

  stopped : (frames : List Frame) (file bytes : List ℕ) (packet : AncillaryPacket) (answer : Status) → IsGood frames file → IsPacketBytes packet bytes
      → IsUnoffending caption_channel (file ++ bytes) → StopsAtPacket start frames packet answer → (IsFault answer → ⊥) → Stops (file ++ bytes)
  stopped frames file bytes packet answer good is fine stops plain = (
    answer,
    good.text,
    plain,
    record {
      at = record {
        frames = frames;
        file = file;
        is_file = good.under;
        fit = good.mcc.fit;
        last = packet;
        packet = bytes;
        is_packet = is;
        spelled = refl;
        unoffending = fine;
        is = stops;
      };
      written = good.mcc.written;
    },
  )

  good_none : start.first < day_frames_in start.count → IsGood [] []
  good_none below = record { under = nothing_is_file; text = written_head start.count; mcc = mcc_nothing start nothing_is_file below }

  good_foreign : (frames : List Frame) (file bytes : List ℕ) (packet : AncillaryPacket) → IsGood frames file → IsPacketBytes packet bytes → (IsCaption packet → ⊥)
      → IsFileUnder caption_channel frames (file ++ bytes) → IsUnoffending caption_channel (file ++ bytes) → IsGood frames (file ++ bytes) ⊎ Stops (file ++ bytes)
  good_foreign frames file bytes packet good is isnt under fine = elim (all_or_not packet.user) [
    | inr other ↦
        inr (stopped frames file bytes packet (status.Differs (record { frame = length frames; kind = kind.EightBits })) good is fine (refl, (isnt, other)) (λ fault. fault))
    | inl of_bytes ↦
        let (line, written) = line_of start.count (start.first + (length frames - 1)) (payload_of packet) in
        inl (record {
          under = under;
          text = good.text ++ line;
          mcc = mcc_foreign start frames file bytes good.text line good.under under packet good.mcc is isnt of_bytes written;
        })
  ]

  good_caption : (frames : List Frame) (last : Frame) (file bytes : List ℕ) (packet : AncillaryPacket) → IsGood frames file → IsPacketBytes packet bytes → IsCaption packet
      → IsCdp last (user_bytes packet) → IsFileUnder caption_channel (frames ++ last ∷ []) (file ++ bytes) → IsUnoffending caption_channel (file ++ bytes)
      → IsGood (frames ++ last ∷ []) (file ++ bytes) ⊎ Stops (file ++ bytes)
  good_caption frames last file bytes packet good is is_caption carries under fine =
      let brings : Brings packet last = record { is_caption = is_caption; carries = carries } in
      elim (right_or_wrong start.count frames last.rate) [
        | inr (expected, wrong) ↦
            inr (stopped frames file bytes packet (status.Differs (record { frame = length frames; kind = kind.WrongRate expected last.rate })) good is fine
            (refl, (last, brings, refl, wrong)) (λ fault. fault))
        | inl has_rate ↦ elim (cases_lt (start.first + length frames) (day_frames_in start.count)) [
          | inr past ↦
              inr (stopped frames file bytes packet (status.Limit limit.Day) good is fine
              (record { frame = last; brings = brings; rates = one_rate start.count frames last good.mcc.fit.rates has_rate; past = past }) (λ fault. fault))
          | inl below ↦
              let (line, written) = line_of start.count (start.first + length frames) (payload_of packet) in
              inl (record {
                under = under;
                text = good.text ++ line;
                mcc = mcc_caption start frames last file bytes good.text line good.under under packet good.mcc is is_caption has_rate below written;
              })
        ]
      ]

  -- so of bytes that bring frames an MCC file is said, or an export stops within them
  mcc_judges : start.first < day_frames_in start.count → (bytes : List ℕ) (frames : List Frame) → AreFramesOf caption_channel frames bytes
      → IsSaid (ExportMccEnd start) (SaysMcc start) (HaltsMcc start) bytes ⊎ HaltsIn (ExportMccEnd start) (SaysMcc start) (HaltsMcc start) bytes
  mcc_judges first bytes frames are = elim (walk IsGood Stops good_foreign good_caption frames are.file (good_none first) are.is_file) [
    | inl good ↦
        inl (good.text, record { frames = frames; frames_are = are; mcc = mcc_same start frames are.file good.text good.under are.is_file good.mcc })
    | inr (judged, rest, is, (answer, text, plain, halts)) ↦
        inr (answer, text, judged, rest ++ are.behind, are.spelled ∙ (ap (λ b. b ++ are.behind) is ∙ append_assoc judged rest are.behind), plain, halts)
  ]

pub every_export_mcc : (start : Start) → start.first < day_frames_in start.count → HasVerdict (λ aside. ExportMccVerdict start)
every_export_mcc start first =
    every_words (ExportMccEnd start) (SaysMcc start) (HaltsMcc start) (mcc_judges start first)
    (λ input text frames file says. (status.Ok, text, λ fault. fault, (frames, file, says)))

-- the start of a time code is a frame of the day
pub starts_in_day : (count : Counting) (time : TimeCode) → is_time_code_in count time ≡ true → frame_number_in count time < day_frames_in count
starts_in_day count time has = day_has_frame count time (frame_number_in count time) (rw has refl)
