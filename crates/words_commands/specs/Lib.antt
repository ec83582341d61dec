pub mod ConcealedScreens
pub mod Concealing
pub mod Screens
pub mod PacketLines
pub mod Verdicts
