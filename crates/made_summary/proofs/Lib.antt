-- The lemmas on summaries.
pub mod SomeChoices
pub mod FirstAndLast
pub mod Lines
pub mod OneSummary
