-- A words file packet by packet: what is good of a file and of a packet after it is good of both, or a run stops with the packet; so it is good
-- of a whole file, or a run stops within it. So frames are all fit, or a first one is a reason to stop.
use Rattle.std.proofs.Common.{◌≡◌, ◌∙◌, ◌<◌, ◌⊎◌, ◌++◌, ◌∷◌, ap, append_assoc, append-nil, arith, inl, inr, refl, subst, sym, ℕ, List, []}
use Rattle.std.specs.List.{All}
use Rattle.std.proofs.lemmas.List.Elements.{All-cons, All-nil}
use Rattle.anc_words.proofs.WordsFileLemmas.{IsWordsFile-first, IsWordsFile-nil, IsWordsFile-one}
use Rattle.anc_words.specs.Packets.{AncillaryPacket, IsCaption, user_bytes}
use Rattle.anc_words.specs.Words.{AreWords}
use Rattle.anc_words.specs.WordsFiles.{IsPacketBytes, IsWordsFile}
use Rattle.cdp_packets.specs.Packets.{Frame, IsCdp}
use Rattle.command_base.specs.declared.status.Status.{Status}
use Rattle.cc_receiver.specs.CaptionChannel.{caption_channel}
use Rattle.words_files.proofs.FrameLemmas.{joined, one_list}
use Rattle.words_files.proofs.FramesOfLemmas.{file_frames}
use Rattle.words_files.proofs.WordLemmas.{AreWords-whole}
use Rattle.words_files.specs.Frames.{CarryFrames, IsFileOf}
use Rattle.words_files.specs.Frames.CarryFrames.{caption, foreign, none}
use Rattle.words_files.specs.FramesOf.{AreFramesOf}
use Rattle.words_files.specs.Offences.{IsFileUnder, IsUnoffending}
use Rattle.words_reading.proofs.PacketEndLemmas.{file_under}
use Rattle.words_reading.specs.FrameTexts.{FramesHalt}

-- words are bytes
pub words_bytes : (bytes words : List ℕ) → AreWords bytes words → All (λ b. b < 256) bytes
words_bytes [] [] are = All-nil (λ b. b < 256)
words_bytes [] (word ∷ words) are = absurd are
words_bytes (high ∷ []) words are = absurd are
words_bytes (high ∷ low ∷ bytes) [] are = absurd are
words_bytes (high ∷ low ∷ bytes) (word ∷ words) (is, are) =
    let small = is.zeros in
    All-cons (λ b. b < 256) high (low ∷ bytes) (omega arith) (All-cons (λ b. b < 256) low bytes is.byte (words_bytes bytes words are))

-- no words are no bytes
no_words : (bytes words : List ℕ) → AreWords bytes words → words ≡ [] → bytes ≡ []
no_words [] words are nothing = refl
no_words (high ∷ []) words are nothing = absurd are
no_words (high ∷ low ∷ bytes) [] are nothing = absurd are
no_words (high ∷ low ∷ bytes) (word ∷ words) are nothing = absurd (let clash : word ∷ words ≡ [] = nothing in cc)

-- a file of frames none of whose words offends
under_of : (frames : List Frame) (bytes : List ℕ) → IsFileOf frames bytes → IsUnoffending caption_channel bytes → IsFileUnder caption_channel frames bytes
under_of frames bytes file fine =
    let (others, under) = file_under file.packets bytes file.file fine (words_bytes bytes file.file.words file.file.spelled) in
    subst (λ fs. IsFileUnder caption_channel fs bytes) (one_list others frames bytes under.file file) under

-- none offends in a front of a file
front_fine : (frames all : List Frame) (head tail : List ℕ) → IsFileOf frames head → IsFileUnder caption_channel all (head ++ tail) → IsUnoffending caption_channel head
front_fine frames all head tail file whole =
    record {
      words = head;
      half = [];
      spelled = sym (append-nil head);
      whole = AreWords-whole head file.file.words file.file.spelled;
      single = omega arith;
      begins = record { more = tail; frames = all; is_file = whole };
    }

-- a packet after a file
one_caption : (packet : AncillaryPacket) (frame : Frame) (bytes : List ℕ) → IsPacketBytes packet bytes → IsCaption packet → IsCdp frame (user_bytes packet) → IsFileOf (frame ∷ []) bytes
one_caption packet frame bytes is is_caption carries =
    record { packets = packet ∷ []; file = IsWordsFile-one packet bytes is; carried = caption packet [] frame [] is_caption carries none }

one_foreign : (packet : AncillaryPacket) (bytes : List ℕ) → IsPacketBytes packet bytes → (IsCaption packet → ⊥) → IsFileOf [] bytes
one_foreign packet bytes is isnt = record { packets = packet ∷ []; file = IsWordsFile-one packet bytes is; carried = foreign packet [] [] isnt none }

module _ (IsGood : List Frame → List ℕ → Type 0) (Stops : List ℕ → Type 0) where
  -- a run stops within bytes
  abbrev pub StopsIn : List ℕ → Type 0
  StopsIn bytes = (judged rest : List ℕ) × (bytes ≡ judged ++ rest) × Stops judged

  module _ (behind_foreign : (frames : List Frame) (file bytes : List ℕ) (packet : AncillaryPacket) → IsGood frames file → IsPacketBytes packet bytes → (IsCaption packet → ⊥)
      → IsFileUnder caption_channel frames (file ++ bytes) → IsUnoffending caption_channel (file ++ bytes) → IsGood frames (file ++ bytes) ⊎ Stops (file ++ bytes))
      (behind_caption : (frames : List Frame) (last : Frame) (file bytes : List ℕ) (packet : AncillaryPacket) → IsGood frames file → IsPacketBytes packet bytes → IsCaption packet
      → IsCdp last (user_bytes packet) → IsFileUnder caption_channel (frames ++ last ∷ []) (file ++ bytes) → IsUnoffending caption_channel (file ++ bytes)
      → IsGood (frames ++ last ∷ []) (file ++ bytes) ⊎ Stops (file ++ bytes)) where
    abbrev Walked : List Frame → List ℕ → Type 0
    Walked frames bytes = IsGood frames bytes ⊎ StopsIn bytes

    walk_from : (packets : List AncillaryPacket) (frames others all : List Frame) (head tail : List ℕ) → IsFileOf frames head → IsGood frames head → CarryFrames packets others
        → IsWordsFile packets tail → IsFileUnder caption_channel all (head ++ tail) → Walked (frames ++ others) (head ++ tail)
    walk_from _ frames _ all head tail had good none file whole =
        let nothing = no_words tail file.words file.spelled file.are_packets in
        let own = subst (λ b. IsGood frames b) (sym (ap (λ t. head ++ t) nothing ∙ append-nil head)) good in
        inl (subst (λ fs. IsGood fs (head ++ tail)) (sym (append-nil frames)) own)
    walk_from _ frames _ all head tail had good (caption packet packets frame others is_caption carries behind) file whole =
        let (one, rest, spelled, is_packet, more) = IsWordsFile-first packet packets tail file in
        let next = head ++ one in
        let split : head ++ tail ≡ next ++ rest = ap (λ t. head ++ t) spelled ∙ sym (append_assoc head one rest) in
        let again = subst (λ b. IsFileUnder caption_channel all b) split whole in
        let now = joined frames (frame ∷ []) head one had (one_caption packet frame one is_packet is_caption carries) in
        let fine = front_fine (frames ++ frame ∷ []) all next rest now again in
        let under = under_of (frames ++ frame ∷ []) next now fine in
        elim (behind_caption frames frame head one packet good is_packet is_caption carries under fine) [
          | inr stops ↦ inr (next, rest, split, stops)
          | inl better ↦
              subst (λ fs. Walked fs (head ++ tail)) (append_assoc frames (frame ∷ []) others)
              (subst (λ b. Walked ((frames ++ frame ∷ []) ++ others) b) (sym split) (walk_from packets (frames ++ frame ∷ []) others all next rest now better behind more again))
        ]
    walk_from _ frames _ all head tail had good (foreign packet packets others isnt behind) file whole =
        let (one, rest, spelled, is_packet, more) = IsWordsFile-first packet packets tail file in
        let next = head ++ one in
        let split : head ++ tail ≡ next ++ rest = ap (λ t. head ++ t) spelled ∙ sym (append_assoc head one rest) in
        let again = subst (λ b. IsFileUnder caption_channel all b) split whole in
        let now = subst (λ fs. IsFileOf fs next) (append-nil frames) (joined frames [] head one had (one_foreign packet one is_packet isnt)) in
        let fine = front_fine frames all next rest now again in
        let under = under_of frames next now fine in
        elim (behind_foreign frames head one packet good is_packet isnt under fine) [
          | inr stops ↦ inr (next, rest, split, stops)
          | inl better ↦
              subst (λ b. Walked (frames ++ others) b) (sym split) (walk_from packets frames others all next rest now better behind more again)
        ]

    pub walk : (frames : List Frame) (bytes : List ℕ) → IsGood [] [] → IsFileUnder caption_channel frames bytes → Walked frames bytes
    walk frames bytes good whole =
        walk_from whole.file.packets [] frames frames [] bytes (record { packets = []; file = IsWordsFile-nil; carried = none }) good whole.file.carried whole.file.file whole

-- where each frame is fit after fit ones or is a reason to stop, all frames of bytes are fit, or a run halts at the first that is a reason
module _ (AreFit : List Frame → Type 0) (IsReason : Status → List Frame → Frame → Type 0) (fit_none : AreFit [])
    (decides : (earlier : List Frame) (last : Frame) → AreFit earlier → AreFit (earlier ++ last ∷ []) ⊎ ((answer : Status) × IsReason answer earlier last))
    (text_of : List Frame → List ℕ) where
  abbrev Fit : List Frame → List ℕ → Type 0
  Fit frames file = AreFit frames

  abbrev Halts : List ℕ → Type 0
  Halts judged = (answer : Status) × (text : List ℕ) × FramesHalt text_of AreFit (IsReason answer) judged text

  after_foreign : (frames : List Frame) (file bytes : List ℕ) (packet : AncillaryPacket) → Fit frames file → IsPacketBytes packet bytes → (IsCaption packet → ⊥)
      → IsFileUnder caption_channel frames (file ++ bytes) → IsUnoffending caption_channel (file ++ bytes) → Fit frames (file ++ bytes) ⊎ Halts (file ++ bytes)
  after_foreign frames file bytes packet fit is isnt under fine = inl fit

  after_caption : (frames : List Frame) (last : Frame) (file bytes : List ℕ) (packet : AncillaryPacket) → Fit frames file → IsPacketBytes packet bytes → IsCaption packet
      → IsCdp last (user_bytes packet) → IsFileUnder caption_channel (frames ++ last ∷ []) (file ++ bytes) → IsUnoffending caption_channel (file ++ bytes)
      → Fit (frames ++ last ∷ []) (file ++ bytes) ⊎ Halts (file ++ bytes)
  after_caption frames last file bytes packet fit is is_caption carries under fine = elim (decides frames last fit) [
    | inl more ↦ inl more
    | inr (answer, reason) ↦ inr (
      answer,
      text_of frames,
      record {
        frames = frames;
        last = last;
        frames_are = file_frames caption_channel (frames ++ last ∷ []) (file ++ bytes) under;
        fit = fit;
        is = reason;
        text_is = refl;
        unoffending = fine;
      },
    )
  ]

  pub frames_judged : (bytes : List ℕ) (frames : List Frame) → AreFramesOf caption_channel frames bytes
      → AreFit frames ⊎ ((answer : Status) × (text judged rest : List ℕ) × (bytes ≡ judged ++ rest) × FramesHalt text_of AreFit (IsReason answer) judged text)
  frames_judged bytes frames are = elim (walk Fit Halts after_foreign after_caption frames are.file fit_none are.is_file) [
    | inl fit ↦ inl fit
    | inr (judged, rest, is, (answer, text, halts)) ↦
        inr (answer, text, judged, rest ++ are.behind, are.spelled ∙ (ap (λ b. b ++ are.behind) is ∙ append_assoc judged rest are.behind), halts)
  ]
