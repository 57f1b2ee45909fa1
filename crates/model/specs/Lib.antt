-- Definitions: what a reader must believe, leaves first.
pub mod Chain
pub mod Slots
pub mod Columns
pub mod Qr
pub mod Jacobi
pub mod Svd
pub mod Truncation
pub mod Pair
pub mod Moves
pub mod Cut
pub mod Layers
pub mod Routing
pub mod Born
pub mod Environment
pub mod Sound
pub mod Start
pub mod Answers
pub mod Calls
pub mod Phases
pub mod Lists
pub mod Machine
-- What is proved of them.
pub mod Statements
