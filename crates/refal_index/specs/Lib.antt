-- Definitions: Hash (a name's bucket), Chain (rows in lent words), Named (the rows that bear names, and that the words index them). Each has its
-- definitions first, then their laws. What the code's types stand for: View, Known.
pub mod Hash
pub mod Chain
pub mod Named
pub mod View
pub mod Known
