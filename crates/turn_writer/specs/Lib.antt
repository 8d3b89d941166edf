pub mod Judgement
pub mod Page
pub mod Records
pub mod Shape
pub mod Writing
