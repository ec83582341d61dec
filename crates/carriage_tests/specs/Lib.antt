pub mod ExampleWords
pub mod ExampleFrames
