pub mod Reading
pub mod EntryReading
pub mod Repeats
pub mod Choices
pub mod Faults
pub mod Laws
