pub mod Scatters
