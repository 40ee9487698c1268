-- Lemmas on composing rotation systems of the skeletons.
pub mod Back
pub mod Walk
pub mod Rounds
pub mod Found
pub mod Tables
pub mod RowLists
pub mod EndSums
pub mod PolygonRows
pub mod BondRows
