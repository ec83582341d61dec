pub mod Converted
pub mod Earlier
pub mod Seen
pub mod SeenAgain
pub mod Verified
