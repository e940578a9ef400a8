-- Definitions: Bound (which variables are in force where, row by row, and the first that is unbound). Statements: Force (when a file passes, by the
-- bindings in force), Walks (the walk over a tree's sentences, with which the rows agree; items in another order). Laws: BoundLaws.
pub mod Bound
pub mod Force
pub mod Walks
pub mod Cases
pub mod View
pub mod BoundLaws
pub mod ForceTheorems
pub mod Climb
pub mod Rows
pub mod Parts
pub mod WalkTheorems
pub mod Scan
