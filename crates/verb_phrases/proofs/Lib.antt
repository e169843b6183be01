pub mod LockDispatch
pub mod FileDispatch
pub mod ArithmeticDispatch
