pub mod Numbers
pub mod Filling
pub mod Passing
pub mod Objects
