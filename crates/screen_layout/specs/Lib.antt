pub mod Painting
pub mod Plans
pub mod Placing
pub mod Walk
pub mod ScreenFaults
pub mod Best
pub mod Outcome
pub mod Planned
