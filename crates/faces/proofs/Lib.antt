-- The lemmas behind the counts of faces and components.
pub mod Reaching
pub mod Walk
pub mod Found
pub mod Starts
pub mod Looks
pub mod Neighbours
pub mod Searched
pub mod DartLemmas
mod Examples
pub mod FaceSteps
pub mod Traced
pub mod Order
pub mod Listed
pub mod MapSteps
pub mod MapVertices
pub mod RestrictedConnection
pub mod MapCounts
pub mod MapMirror
pub mod MapCorners
pub mod MapBlocks
mod MapExamples
pub mod MapLists
pub mod MapRestricted
pub mod MapParts
pub mod MapPartOrders
pub mod MapToLists
pub mod MapTwins
pub mod ListedOnce
