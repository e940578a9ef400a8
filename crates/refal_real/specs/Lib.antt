-- Definitions: Parts (of a real's text), Value, Form, Real (what is answered), Written (a form written out). What is proved of them: Statements; the
-- proof: Theorems. What the code's values tell: Told. Where the lexer's scans find the parts: Inner, Found.
-- Laws of digits as numbers: Tens; of values and forms: Same. Of the loops: Kept, Loops. Of the lexer's scans and the parts: PlacesLaws, PartLaws.
-- Of the code's scans: SplitLaws. Of the answers: FoundLaws, AnswerLaws. Of reading: Alone. Telling cases: Cases.
pub mod Parts
pub mod Value
pub mod Form
pub mod Real
pub mod Tens
pub mod Same
pub mod Kept
pub mod Loops
pub mod Inner
pub mod Found
pub mod Told
pub mod Written
pub mod Statements
pub mod PlacesLaws
pub mod PartLaws
pub mod FoundLaws
pub mod SplitLaws
pub mod AnswerLaws
pub mod Alone
pub mod Theorems
pub mod Cases
