-- Lemmas of the tests.
mod Triangulated
mod Peeled
