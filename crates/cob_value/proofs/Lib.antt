pub mod Padding
pub mod Ordered
pub mod Digits
pub mod Compared
pub mod Items
