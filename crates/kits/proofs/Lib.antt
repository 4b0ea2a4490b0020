pub mod ChoiceLaws
pub mod BoxLaws
pub mod HalfLaws
pub mod LabelLaws
pub mod OrderLaws
pub mod VolumeLaws
