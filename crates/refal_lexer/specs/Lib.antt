-- Definitions: Classes, Stars, Scans, Blanks, Words, Numbers, Literals, Tokens, Lex, Source, Read.
-- The form that the code follows, with a flag carried along, and what its functions answer: Carried, Steps, Puts, Told.
-- Laws of each scan: ClassLaws, BlankLaws, SpaceLaws, WordLaws, NumberLaws, LiteralLaws, PlaceLaws. Laws of reading: TurnCases, LexLaws, TurnLaws, ReadLaws.
-- That the flag is 01's rule for stars: LineLaws, StarLaws. Telling cases of that rule: StarCases.
-- Telling cases of the sign after a number's `E`: ExponentCases.
-- How many tokens: TokenLaws. Where they stand: OrderLaws; on character boundaries: Boundaries, BoundaryLaws, EndLaws, ReadBoundaries.
pub mod Classes
pub mod Stars
pub mod Scans
pub mod Blanks
pub mod Words
pub mod Numbers
pub mod Literals
pub mod Tokens
pub mod Lex
pub mod Source
pub mod Read
pub mod Carried
pub mod Steps
pub mod Puts
pub mod Told
pub mod ClassLaws
pub mod BlankLaws
pub mod SpaceLaws
pub mod WordLaws
pub mod NumberLaws
pub mod LiteralLaws
pub mod PlaceLaws
pub mod TurnCases
pub mod LexLaws
pub mod TurnLaws
pub mod ReadLaws
pub mod LineLaws
pub mod BoundaryLaws
pub mod Boundaries
pub mod TokenLaws
pub mod EndLaws
pub mod StarLaws
pub mod StarCases
pub mod ExponentCases
pub mod OrderLaws
pub mod ReadBoundaries
