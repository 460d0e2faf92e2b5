mod RowBytes
pub mod Numbers
pub mod RowLines
pub mod TraceBytes
pub mod JudgedFormula
pub mod EachOfList
mod NoRefusal
