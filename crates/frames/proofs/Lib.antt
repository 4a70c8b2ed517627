pub mod BlockLaws
pub mod ProgressLaws
pub mod VerdictLaws
pub mod BadLaws
pub mod BoundLaws
pub mod ConformsLaws
pub mod UnreadLaws
pub mod Theorems
