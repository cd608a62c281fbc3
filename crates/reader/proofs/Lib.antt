-- Lemmas on reading: the questions, the walk over the requests, the places of a file's parts, and the format's theorems.
pub mod Questions
pub mod Walk
pub mod Checked
mod Places
mod Spelling
mod Soundness
mod Completeness
mod Written
