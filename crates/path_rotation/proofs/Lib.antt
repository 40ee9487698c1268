-- The lemmas on paths drawn into faces.
pub mod Corners
pub mod PathInserted
pub mod PathMore
pub mod PathDarts
pub mod PathDrawn
pub mod PathTables
pub mod ForcedSteps
pub mod DrawingKept
pub mod FaceLabels
mod DartsAt
mod Fits
mod WaySteps
mod Threads
mod Stamps
mod Marked
mod Begun
mod BoardSteps
mod Assembled
mod Finished
mod Attached
mod Settled
mod LastLook
mod FreeLabels
mod LastWay
