pub mod FrameInput
pub mod FrameLine
pub mod Answer
pub mod steps
