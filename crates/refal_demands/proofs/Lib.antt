-- The theorems' proofs: Demand3Whole (by Demand3, RoundTrip and SpelledRows), Table, Edge, Bound, LawfulRows, and Theorems (the same over
-- trees). The other modules serve them.
pub mod Flats
pub mod Fields
pub mod Read
pub mod Sound
pub mod Respan
pub mod FlatSpans
pub mod Retext
pub mod Eat
pub mod ReadsTerms
pub mod Begins
pub mod ReadsSentences
pub mod Complete
pub mod Moved
pub mod Theorems
pub mod Demand3
pub mod Table
pub mod Edge
pub mod Bound
pub mod RoundTrip
pub mod SpelledRows
pub mod Demand3Whole
pub mod LawfulRows
