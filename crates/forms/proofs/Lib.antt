pub mod FormCells
pub mod Places
pub mod OpeningLaws
