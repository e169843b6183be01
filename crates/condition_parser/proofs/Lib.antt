pub mod ExpressionDispatch
pub mod ConditionDispatch
pub mod LoopDispatch
