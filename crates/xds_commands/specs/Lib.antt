pub mod PacketLists
pub mod PlacedPackets
pub mod XdsStatus
pub mod XdsVerdict
pub mod Judged
pub mod XdsWords
