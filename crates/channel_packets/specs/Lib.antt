pub use Rattle.cc_data.specs.declared.triplet.Triplet
pub mod ChannelPackets
pub mod PacketParts
pub mod Reading
pub mod Readers
pub mod Written
pub mod Writers
