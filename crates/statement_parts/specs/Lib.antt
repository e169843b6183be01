pub mod Statements
pub mod Leaves
pub mod Phrases
pub mod References
pub mod Values
pub mod Seen
pub mod Lists
