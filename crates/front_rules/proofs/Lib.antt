pub mod StraysOf
pub mod SpotsSeen
