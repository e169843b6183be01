pub mod Clauses
pub mod ScreenItems
pub mod SeenScreens
pub mod Spelled
