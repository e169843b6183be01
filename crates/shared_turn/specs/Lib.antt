pub mod Serial
pub mod Journal
pub mod View
pub mod Rule
pub mod Steps
pub mod Closing
pub mod Passes
