pub mod Counts
pub mod Host
pub mod HostCounts
pub mod HostMemory
pub mod Memory
pub mod Meeting
pub mod Streams
