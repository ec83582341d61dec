pub mod FirstFault
pub mod Form
pub mod Packed
pub mod Reading
pub mod Seen
pub mod Writer
