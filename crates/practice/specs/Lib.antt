pub mod Practice
pub mod Run
