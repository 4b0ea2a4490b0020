pub mod OrderTexts
