pub mod Matches
pub mod MatchLaws
