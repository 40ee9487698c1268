-- GML documents and the bytes that spell them.
pub mod Document
pub mod Code
pub mod Pairs
pub mod Smaller
pub mod Bytes
pub mod Number
pub mod Recognised
pub mod Grammar
pub mod Reading
pub mod Items
pub mod Breaks
pub mod Partial
pub mod Front
pub mod Faults
pub mod Layout
pub mod WellFormed
