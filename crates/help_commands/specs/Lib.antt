pub mod Pages
pub mod TextVerdict
