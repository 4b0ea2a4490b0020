pub mod Law
pub mod OrderLines
pub mod Orders
