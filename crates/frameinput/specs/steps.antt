-- Definitions that only follow the code's steps. No call of the product cites one: who believes the definitions outside this folder need
-- not read these. Assumes nothing.
pub mod Chunks
pub mod Reading
