-- Between crates: the program's answer stands on none of these definitions.
-- The packets that are sent in free slots beside captions are read again.
use Rattle.std.specs.Prelude.{◌≡◌, ⊤, ◌≤◌, ℕ, suc, length, take, ◌<◌, Bool, true, false, List, [], ◌++◌, Option, Some, None}
use Rattle.std.specs.List.{All}
use Rattle.line21_codes.specs.declared.codes.Code.{Code}
use Rattle.line21_codes.specs.declared.codes.Code.TheVariants.{Null, Text, Xds, Control}
use Rattle.xds_packets.specs.declared.packets.XdsPacket.{XdsPacket}
use Rattle.xds_packets.specs.Reading.{packets_behind}
use Rattle.xds_packets.specs.PacketCodes.{IsXdsPacket}
use Rattle.xds_packets.specs.Sending.{Listed, codes_to, packets_left, unfinished, writing_at}

abbrev pub IsCaption : Code → Type 0
IsCaption Null = ⊤
IsCaption (Text first second) = ⊤
IsCaption (Xds first second) = ⊥
IsCaption (Control second control) = ⊤

abbrev pub IsTextCode : Code → Type 0
IsTextCode Null = ⊥
IsTextCode (Text first second) = ⊤
IsTextCode (Xds first second) = ⊥
IsTextCode (Control second control) = ⊥

abbrev pub IsControlCode : Code → Type 0
IsControlCode Null = ⊥
IsControlCode (Text first second) = ⊥
IsControlCode (Xds first second) = ⊥
IsControlCode (Control second control) = ⊤

-- a control code stands before, and no slot between is free
pub record IsLed (others : ℕ → Code) (free : ℕ → Bool) (n : ℕ) : Type 0 where
  pub at : ℕ
  pub before : at < n
  pub control : IsControlCode (others at)
  pub closed : (m : ℕ) → at < m → m < n → free m ≡ false

-- what the captions owe: a free slot has none of theirs, and each text pair of theirs is led to
pub record AreBeside (others : ℕ → Code) (free : ℕ → Bool) : Type 0 where
  pub captions : (n : ℕ) → IsCaption (others n)
  pub nothing : (n : ℕ) → free n ≡ true → others n ≡ Null
  pub led : (n : ℕ) → IsTextCode (others n) → IsLed others free n

-- up to each slot the packets that are read are the list's but those that aren't ended there
pub record IsCarried (free : ℕ → Bool) (frame_of : ℕ → ℕ) (others : ℕ → Code) (listed : List Listed) (n : ℕ) : Type 0 where
  pub under_way : List XdsPacket
  pub one_at_most : length under_way ≤ 1
  pub none_under : (writing_at free frame_of listed n).codes ≡ [] → under_way ≡ []
  pub some_under : under_way ≡ [] → (writing_at free frame_of listed n).codes ≡ []
  pub whole : packets_behind [] (codes_to free frame_of others listed n) ++ (under_way ++ packets_left (writing_at free frame_of listed n).left) ≡ packets_left listed

abbrev pub PacketsAreCarried : Type 0
PacketsAreCarried = (free : ℕ → Bool) (frame_of : ℕ → ℕ) (others : ℕ → Code) (listed : List Listed) → AreBeside others free → All (λ (l : Listed). IsXdsPacket l.packet) listed
    → (n : ℕ) → IsCarried free frame_of others listed n

-- all packets were read, or those before this one
abbrev pub ReadsUpTo : List XdsPacket → List XdsPacket → Option ℕ → Type 0
ReadsUpTo all read None = read ≡ all
ReadsUpTo all read (Some number) = (suc (length read) ≡ number) × ((length read < length all) × (read ≡ take (length read) all))

abbrev pub UnfinishedIsFirst : Type 0
UnfinishedIsFirst = (free : ℕ → Bool) (frame_of : ℕ → ℕ) (others : ℕ → Code) (listed : List Listed) → AreBeside others free → All (λ (l : Listed). IsXdsPacket l.packet) listed
    → (n : ℕ) → ReadsUpTo (packets_left listed) (packets_behind [] (codes_to free frame_of others listed n)) (unfinished (length listed) (writing_at free frame_of listed n))
