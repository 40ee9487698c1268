pub mod Documents
mod Numbers
mod ByteClasses
mod Gaps
mod Words
mod NumberPasses
mod NumberWords
mod NextItem
mod PassesNumber
mod OtherRest
mod WordBreaks
mod Frames
mod Completes
mod Closing
mod ItemBreaks
mod Depth
mod Steps
mod Refusals
pub mod Fronts
pub mod ReadDocument
pub mod Lines
pub mod Written
pub mod OneDocument
mod Examples
mod FrontExamples
