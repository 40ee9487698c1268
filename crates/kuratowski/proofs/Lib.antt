-- The lemmas on subdivisions.
pub mod Marks
pub mod FreePaths
pub mod Checked
mod Examples
pub mod Meetings
pub mod Reordering
pub mod Sorting
pub mod WrittenOrder
pub mod WrittenForm
pub mod Lifted
