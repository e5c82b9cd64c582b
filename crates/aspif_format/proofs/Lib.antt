pub mod AspifRoundTrip
mod DraftText
mod FitLaws
mod LevelParts
mod NamesFit
mod Naturals
mod PartLaws
mod PartSteps
mod Required
mod Rows
mod Shows
mod StatementLines
mod StatementText
mod WholeText
mod WrittenLines
