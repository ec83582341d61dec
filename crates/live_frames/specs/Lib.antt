pub mod Fronts
pub mod LaneFronts
pub mod LeftOut
pub mod Lives
pub mod Longer
