-- What `tokens` means: the tokens of a text, its faults, and the terminals.
pub mod Token
pub mod Placed
pub mod Fault
pub mod Scan
pub mod Lexeme
pub mod Set
pub mod Terminal
pub mod Word
pub mod Number
pub mod Quoted
pub mod Hole
-- Inside: how the list of tokens lies in memory.
pub mod List
