pub mod WordExamples
pub mod ServiceExamples
