-- The lemmas on arrangements.
pub mod Lists
pub mod Changes
pub mod Waiting
pub mod Built
pub mod Greedy
pub mod Listed
pub mod Refusals
pub mod Turns
pub mod Along
pub mod Gaps
pub mod Laws
pub mod Noted
pub mod Tops
pub mod Laid
pub mod Notes
pub mod Made
pub mod Walked
pub mod Ranked
pub mod RankPasses
pub mod Passed
pub mod Grouped
mod Examples
