-- The outside: what files hold and were asked, what sinks were told, and the faults of both.
pub mod Holds
pub mod Asked
pub mod ReadAnswer
pub mod Told
pub mod Faults
pub mod MemFiles
pub mod RecordedFiles
pub mod MemSink
pub mod HostFiles
pub mod HostSink
-- Texts and their places.
pub mod Decode
pub mod Text
-- Inside: how lines and files in memory are kept, and shared values in types that hold themselves.
pub mod Lines
pub mod FileTable
pub mod formers
