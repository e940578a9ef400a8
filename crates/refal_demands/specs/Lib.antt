-- The theorems' statements: Demand3Whole (demand 3 for a reader; with Demand3, Trees, Spans and RoundTrip, the terms in which it is stated), TreeLines (what
-- the program `tree` prints), Table (01's worked table), Edge (parsing from an item's edge on).
pub mod Spans
pub mod Trees
pub mod Demand3
pub mod RoundTrip
pub mod Demand3Whole
pub mod TreeLines
pub mod Table
pub mod Edge
