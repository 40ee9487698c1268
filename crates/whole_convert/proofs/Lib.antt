-- Lemmas on moves between rotation systems of a component.
pub mod Connected
pub mod PartOf
pub mod Takes
pub mod Pieces
pub mod LedAll
pub mod FrameTables
pub mod DealtBlocks
pub mod StepLists
pub mod Stages
pub mod BlockStages
pub mod CutStages
pub mod TargetLists
pub mod Converted
