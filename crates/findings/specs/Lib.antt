pub mod Findings
pub mod Misfits
pub mod First
