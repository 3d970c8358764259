pub mod MemorySink
pub mod Received
pub mod StdSink
pub mod Turns
