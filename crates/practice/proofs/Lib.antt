pub mod Facts
pub mod RunFacts
