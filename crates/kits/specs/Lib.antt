pub mod Books
pub mod Boxes
pub mod Choices
pub mod Fillings
pub mod Kits
pub mod Labels
pub mod Laws
