pub mod Checksums
pub mod Numbers
pub mod Shown
