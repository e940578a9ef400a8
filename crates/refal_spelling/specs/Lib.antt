-- Definitions: Spell (spellings), Spells (the test of 41), Good (the spellings that reading gives), Places (of tokens in a text), Sound.
-- Laws of words: Runs, NumberWords, ScanWords, CharWords, Sees, SpellsLaws. Of reading: ReadsGood, Answered, Few, Passes.
-- The test for refusal 41: Spellings; its laws: WordLaws, SpellingLaws.
-- Laws of texts: TextReads, TextViews, TextWell. The theorems: RoundTrip; that the test of 41 is exact: Given; telling cases of that test: ExponentCases.
pub mod Spell
pub mod Spells
pub mod Good
pub mod Places
pub mod Sound
pub mod Runs
pub mod NumberWords
pub mod ScanWords
pub mod CharWords
pub mod Sees
pub mod SpellsLaws
pub mod ReadsGood
pub mod Answered
pub mod Few
pub mod Passes
pub mod TextReads
pub mod TextViews
pub mod TextWell
pub mod RoundTrip
pub mod Spellings
pub mod Given
pub mod ExponentCases
pub mod WordLaws
pub mod SpellingLaws
