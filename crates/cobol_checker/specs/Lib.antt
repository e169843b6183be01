pub mod Shapes
pub mod Outcome
pub mod Judged
pub mod References
pub mod Seen
pub mod Sound
