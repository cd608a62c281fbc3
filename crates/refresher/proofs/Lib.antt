mod Sizes
mod Lines
mod Held
mod Written
mod Making
