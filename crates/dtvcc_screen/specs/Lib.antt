pub mod Screens
pub mod Shown
pub mod Commands
pub mod Changes
pub mod Cores
pub mod Meaning
pub mod Objects
pub mod Laws
