mod Fields
mod Holders
mod Making
mod Written
