pub mod Cutting
pub mod Directives
pub mod Reading
