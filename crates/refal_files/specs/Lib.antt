-- Definitions: Files. Laws: FileLaws. What the code's types stand for: View.
pub mod Files
pub mod FileLaws
pub mod View
