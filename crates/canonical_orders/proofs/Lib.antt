-- Lemmas on contours, free vertices, removals and canonical orders.
pub mod Lists
pub mod Walks
pub mod Triangles
pub mod ContourParts
pub mod ChordLists
pub mod Chords
pub mod ChordSearch
pub mod FreeVertex
pub mod ChordThree
pub mod Arms
pub mod Stacking
pub mod Removing
pub mod Starting
mod ChordExamples
pub mod RingWalks
pub mod Counting
pub mod Maps
pub mod Marking
pub mod Entering
pub mod Taking
pub mod PartOrders
pub mod OrderStart
