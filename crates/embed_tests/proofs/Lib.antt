-- Lemmas of the tests.
mod Ready
