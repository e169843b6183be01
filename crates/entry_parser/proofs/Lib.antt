pub mod DataDispatch
pub mod ScreenDispatch
