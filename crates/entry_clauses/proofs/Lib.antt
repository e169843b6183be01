pub mod ScreensOf
pub mod PlacedScreens
pub mod SameScreens
