mod AtomLaws
pub mod BoundOfParts
mod CompareLaws
pub mod ComponentRanks
pub mod ConditionLaws
pub mod Conditions
mod CountLaws
pub mod Equations
pub mod FirstDigits
pub mod FoundedByRanks
mod Grows
mod InsideLaws
mod Limits
mod NearLaws
mod NewDigits
mod Numbering
mod PartLaws
mod PartLoops
mod Pushed
pub mod RankExists
pub mod RankLaws
mod RankRoom
pub mod RankedStore
mod ReadyLaws
mod RenamedRows
mod RowLaws
mod Rows
pub mod SizeOfRankings
pub mod SourceLaws
pub mod StableSets
mod SupportLaws
mod Supporting
pub mod WidthLaws
mod Zeroing
