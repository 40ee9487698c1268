-- Lemmas on multigraphs.
pub mod Below
pub mod Incident
pub mod OtherEnd
pub mod Places
mod PlacesOf
mod Collecting
mod Rows
pub mod DartEnds
pub mod Ends
mod FirstFault
mod Instances
mod Flat
