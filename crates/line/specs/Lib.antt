pub mod Answers
pub mod Copies
pub mod Denials
pub mod Words
pub mod Loads
