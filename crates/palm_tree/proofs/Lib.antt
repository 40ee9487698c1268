-- The lemmas on palm trees.
mod Begins
mod Orders
mod Totals
mod SizesHanded
mod Offsets
mod Numbers
mod Intervals
mod Palm
mod LowPoints
mod Numbered
mod Sorted
mod Ordered
mod Whole
