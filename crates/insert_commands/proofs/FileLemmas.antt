-- A words file with new captions is a words file, of frames with these.
use Rattle.std.proofs.Common.{◌≡◌, ℕ, ◌<◌, ◌≤◌, Bool, true, false, List, [], ◌∷◌, ◌++◌, length, refl, ap, sym, subst, ◌∙◌, append-nil, arith}
use Rattle.std.proofs.lemmas.Nat.{or_of_8}
use Rattle.std.proofs.lemmas.List.Folds.{concat-append}
use Rattle.std.proofs.lemmas.List.Elements.{All-append}
use Rattle.std.specs.List.{All, concat, filter}
use Rattle.anc_words.specs.Packets.{user_bytes}
use Rattle.anc_words.proofs.ByteLemmas.{IsByte}
use Rattle.anc_words.proofs.WordsFileLemmas.{IsWordsFile-nil, IsWordsFile-one}
use Rattle.cc_data.specs.declared.triplet.Triplet.{Triplet}
use Rattle.cdp_packets.specs.Packets.{Frame}
use Rattle.cdp_packets.specs.Sections.{AreSections}
use Rattle.cdp_packets.specs.Written.{cc_data_section}
use Rattle.cdp_packets.proofs.SectionLemmas.{cc_data_section-is}
use Rattle.packet_inserter.specs.Insertion.{IsInserted, is_kept, packet_length}
use Rattle.packet_inserter.proofs.InsertionLemmas.{filter-are, put_among-are}
use Rattle.words_files.specs.CarriedWords.{carried_words}
use Rattle.words_files.specs.Frames.{IsFileOf}
use Rattle.words_files.specs.Frames.CarryFrames.{none, foreign}
use Rattle.words_files.proofs.CarriedWordsLemmas.{IsOfBytes, carried_file, low_bytes, of_bytes}
use Rattle.words_files.proofs.FrameLemmas.{joined}
use Rattle.words_files.proofs.WordLemmas.{All-split}
use Rattle.insert_commands.specs.InsertedFile.{AreInserted, BringsFrame, IsForeign}
use Rattle.insert_commands.specs.InsertedFile.AreInserted.{nothing, foreign as copied, caption as replaced}
use Rattle.insert_commands.specs.Soundness.{HaveCaptions}
use Rattle.insert_commands.specs.Soundness.HaveCaptions.{none as no_frame, more as one_more}

-- these triplets can be carried in a section of bytes
pub record CanBeCarried (triplets : List Triplet) : Type 0 where
  pub few : length triplets ≤ 31
  pub kinds : All (λ t. t.kind < 4) triplets
  pub bytes : All IsByte (cc_data_section triplets)

-- what is kept of sections of bytes is of bytes
kept_bytes : (cut : List (List ℕ)) → All IsByte (concat cut) → All IsByte (concat (filter is_kept cut))
kept_bytes [] all = all
kept_bytes (section ∷ cut) all =
    let parts = All-split IsByte section (concat cut) all in
    at (is_kept section) refl parts.0 (kept_bytes cut parts.1)
  where
    at : (b : Bool) → is_kept section ≡ b → All IsByte section → All IsByte (concat (filter is_kept cut)) → All IsByte (concat (filter is_kept (section ∷ cut)))
    at true is own rest = rw is (All-append IsByte section (concat (filter is_kept cut)) own rest)
    at false is own rest = rw is rest

-- a packet with new captions is of bytes
new_of_bytes : (triplets : List Triplet) (old new : Frame) → CanBeCarried triplets → IsInserted triplets old new → IsOfBytes old → IsOfBytes new
new_of_bytes triplets old new can inserted of =
    let put = inserted.sections in
    let section = cc_data_section triplets in
    let kept : All IsByte (concat put.before ++ concat put.behind) =
    subst (All IsByte) (ap concat put.kept ∙ concat-append put.before put.behind) (kept_bytes old.sections of.sections) in
    let parts = All-split IsByte (concat put.before) (concat put.behind) kept in
    let low = of.counter in
    let same = inserted.counter in
    record {
      flags = subst IsByte (sym inserted.flags) (or_of_8 old.flags 0x42 of.flags (omega arith));
      counter = omega (arith, low, same);
      sections = subst (All IsByte) (sym (ap concat put.new_is ∙ concat-append put.before (section ∷ put.behind)))
          (All-append IsByte (concat put.before) (section ++ concat put.behind) parts.0 (All-append IsByte section (concat put.behind) can.bytes parts.1));
    }

-- and its sections are sections
new_sections : (triplets : List Triplet) (old new : Frame) → CanBeCarried triplets → IsInserted triplets old new → AreSections old.sections → AreSections new.sections
new_sections triplets old new can inserted are =
    let put = inserted.sections in
    subst AreSections (sym put.new_is)
    (put_among-are put.before put.behind (cc_data_section triplets) (cc_data_section-is triplets can.few) (subst AreSections put.kept (filter-are old.sections are)))

-- what stands for a packet of captions is a file of its frame
new_file : (triplets : List Triplet) (old new : Frame) (whole : List ℕ) → CanBeCarried triplets → BringsFrame old whole → IsInserted triplets old new
    → packet_length new ≤ 255 → IsFileOf (new ∷ []) (carried_words new)
new_file triplets old new whole can brings inserted fits =
    carried_file new (new_sections triplets old new can inserted brings.carries.sections)
    (new_of_bytes triplets old new can inserted (of_bytes old (user_bytes brings.packet) brings.carries (low_bytes brings.packet.user))) fits

-- a packet of another kind is a file of no frame
pub foreign_file : (bytes : List ℕ) → IsForeign bytes → IsFileOf [] bytes
foreign_file bytes is = record {
  packets = is.packet ∷ [];
  file = IsWordsFile-one is.packet bytes is.is;
  carried = foreign is.packet [] [] is.is_foreign none;
}

-- words with new captions, and their frames
pub record IsNewFile (captions : ℕ → List Triplet) (frames : List Frame) (text : List ℕ) : Type 0 where
  pub news : List Frame
  pub have : HaveCaptions captions frames news
  pub file : IsFileOf news text

pub new_words : (captions : ℕ → List Triplet) → ((frame : ℕ) → CanBeCarried (captions frame)) → (frames : List Frame) (file text : List ℕ)
    → AreInserted captions frames file text → IsNewFile captions frames text
new_words captions can _ _ _ (nothing _) =
    record { news = []; have = no_frame captions; file = record { packets = []; file = IsWordsFile-nil; carried = none } }
new_words captions can _ _ _ (copied _ frames file text bytes whole out before is whole_is out_is) =
    let had = new_words captions can frames file text before in
    record {
      news = had.news;
      have = had.have;
      file = subst (λ (ns : List Frame). IsFileOf ns out) (append-nil had.news)
          (subst (IsFileOf (had.news ++ [])) (sym out_is) (joined had.news [] text bytes had.file (foreign_file bytes is)));
    }
new_words captions can _ _ _ (replaced _ frames more old new file text bytes whole out before brings is fits more_is whole_is out_is) =
    let had = new_words captions can frames file text before in
    record {
      news = had.news ++ new ∷ [];
      have = one_more captions frames had.news more (had.news ++ new ∷ []) old new had.have is more_is refl;
      file = subst (IsFileOf (had.news ++ new ∷ [])) (sym out_is)
          (joined had.news (new ∷ []) text (carried_words new) had.file (new_file (captions (length frames)) old new bytes (can (length frames)) brings is fits));
    }
