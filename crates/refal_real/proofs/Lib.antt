-- Lemmas.
pub mod Iterators
