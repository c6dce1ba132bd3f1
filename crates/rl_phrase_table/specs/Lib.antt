-- The grammar, and the table that is its rows.
pub mod Expression
pub mod Names
pub mod Grammar
pub mod Written
pub mod Rows
-- Tables whose rows speak of rows of the table.
pub mod Table
