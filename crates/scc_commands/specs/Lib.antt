pub mod Import
pub mod Cursors
pub mod ImportSteps
pub mod Export
pub mod Exporting
pub mod ComeBack
