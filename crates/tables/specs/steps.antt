-- Definitions that only follow the code's steps. No call of the product cites one: who believes the definitions outside this folder need
-- not read these. Assumes nothing.
pub mod Namings
pub mod Marks
pub mod Passes
pub mod Right
pub mod Coverage
pub mod Members
pub mod EntryCounts
