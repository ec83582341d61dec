pub mod ServiceBlocks
pub mod BlockParts
pub mod Channels
pub mod Reading
pub mod Readers
pub mod Written
