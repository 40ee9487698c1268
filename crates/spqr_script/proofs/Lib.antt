-- The texts and commands, worked out on small inputs; what reading needs to know of lists.
mod TextExamples
mod ScriptExamples
mod Options
mod Shapes
pub mod Entries
mod Forms
mod Words
pub mod Commands
mod FromFront
mod Parts
mod Loops
mod Steps
mod Rotations
pub mod Scripts
pub mod Within
pub mod RotationText
mod PointText
pub mod PartNodes
mod Printed
mod PrintedMoves
