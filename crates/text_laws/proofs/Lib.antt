pub mod ShiftLemmas
pub mod GapFronts
pub mod EncodedGaps
pub mod FirstTokens
pub mod BegunTexts
pub mod OneStatements
pub mod WordsNamed
pub mod TextLaws
