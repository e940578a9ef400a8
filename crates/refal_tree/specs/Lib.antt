-- Definitions: Forest (rows with their children), States (which rows may stand where), StateCodes (the code's states), Rules (what lawful rows keep), Typed (trees as
-- forests), Ranges (the forest that rows i to j are, by their nexts and parents), Lawful (the tree that words are; the test for refusal 40), FlattenRows (flattening row
-- by row).
-- Laws: ForestLaws (words and forests), TypedWords, TypedRules, Views and Sound (trees and forests), Walk (a walk of lawful rows),
-- Whole (the test as a check of all rows), Levels.
pub mod Forest
pub mod ForestLaws
pub mod States
pub mod StateCodes
pub mod Rules
pub mod Typed
pub mod TypedWords
pub mod TypedRules
pub mod Views
pub mod Sound
pub mod Lawful
pub mod FlattenRows
pub mod Ranges
pub mod Walk
pub mod Whole
pub mod Levels
