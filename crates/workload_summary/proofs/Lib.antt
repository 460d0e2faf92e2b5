mod FaultFree
mod LineCounts
mod WholeBytes
mod Summaries
