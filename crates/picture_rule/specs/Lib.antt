pub mod Picture
pub mod Text
pub mod Reading
pub mod Span
pub mod Outline
pub mod Editing
