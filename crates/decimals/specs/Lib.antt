-- What decimal digits spell, and numbers as they are written.
pub mod Number
pub mod Text
