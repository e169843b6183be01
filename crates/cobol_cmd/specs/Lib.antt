pub mod Small
pub mod Phrases
pub mod Report
pub mod Lines
pub mod Commands
pub mod Programs
pub mod Answers
pub mod Checking
