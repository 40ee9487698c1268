-- The script, and the texts that the program prints.
pub mod Text
pub mod Head
pub mod Node
pub mod Nonplanar
pub mod Answers
pub mod Refusal
pub mod Number
pub mod Line
pub mod Words
pub mod Script
pub mod Reading
pub mod Outcome
