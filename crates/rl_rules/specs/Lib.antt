-- Programs, the numbers of their variables, and which program is run of the modules that were loaded.
pub mod Program
pub mod Numbering
pub mod Cleared
-- States and forms, what a rule says, and how it is evaluated with a budget.
pub mod State
pub mod Form
pub mod Rule
pub mod Evaluation
-- The rule of each form.
pub mod Rules
pub mod Parts
pub mod Scopes
pub mod Members
pub mod Conditions
pub mod Literals
pub mod Collections
pub mod Comprehensions
pub mod Operators
pub mod Assignments
pub mod Statements
pub mod Loops
pub mod Cases
pub mod Exceptions
pub mod Solving
pub mod Visits
pub mod Calls
pub mod LibraryCalls
pub mod Fragments
-- Whole runs, and what was printed before each read of one.
pub mod Run
pub mod Fronts
-- What holds of all evaluations.
pub mod Laws
-- Small programs and modules, with what comes of them, and how they are built.
pub mod Building
pub mod Examples
pub mod NumberingExamples
-- Inside: through how many levels parentheses and conjunctions are taken apart.
pub mod Nesting
