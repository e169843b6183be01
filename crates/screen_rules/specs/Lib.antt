pub mod ScreenKinds
pub mod Placing
pub mod SeenPlaces
