pub mod TraceTextExamples
pub mod TraceRefusalExamples
pub mod TraceRefusalLaw
pub mod DigitLemmas
pub mod NameLemmas
pub mod LineLemmas
pub mod TraceLemmas
pub mod FeedLemmas
pub mod OpenLines
pub mod FieldLemmas
pub mod NumberLemmas
pub mod HeadingLemmas
pub mod RowLemmas
pub mod ReadLemmas
pub mod GoesOnLemmas
pub mod ReaderSteps
pub mod ReaderTakes
pub mod KindLemmas
pub mod FirstFaultStays
pub mod PlainLemmas
mod RowTakes
mod BlockTakes
mod ByteTables
mod ByteLemmas
mod DigitBytes
mod MarkLemmas
mod CountLemmas
mod ShiftLemmas
mod ValueLemmas
