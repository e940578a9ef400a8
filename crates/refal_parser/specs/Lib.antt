-- Definitions: Begins (what a token begins), Machine (parsing a list of tokens), Parse (what `parse` answers and leaves). Parts of inner contracts:
-- Ready (a word where a token begins), Writers (rows in the order in which the code puts them), Got (answers in numbers), Post, PostTerms, PostBlock,
-- PostItems.
pub mod Begins
pub mod Machine
pub mod Parse
pub mod Ready
pub mod Writers
pub mod Got
pub mod Post
pub mod PostTerms
pub mod PostBlock
pub mod PostItems
