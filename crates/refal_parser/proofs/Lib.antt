-- Laws: TokenLaws (tokens at a word of the rows), CheckLaws (check 30), Steps (the machine at a word), TermLaws (one term more), Rows (what the writers leave), BlockLaws (conditions, ends of sentences and sentences from the answers of their parts), Final (from the program's answer to what `parse` answers and leaves).
pub mod TokenLaws
pub mod CheckLaws
pub mod Steps
pub mod TermLaws
pub mod Rows
pub mod BlockLaws
pub mod Final
