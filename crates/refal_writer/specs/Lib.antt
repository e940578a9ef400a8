-- Definitions: Write (what `write` answers and leaves), Words (what a row puts before and after its children), Marks (the marks' kinds), Puts (what a
-- writer of bytes leaves).
-- Laws of writers of bytes: Puts. Of tokens: Token, TextPuts. Of the walk over rows: Walk. Of `write`: WriteLaws.
pub mod Write
pub mod Puts
pub mod Token
pub mod Marks
pub mod Words
pub mod TextPuts
pub mod Walk
pub mod WriteLaws
