-- Definitions: Pick, Span, Utf8, White, Encode, Told. Laws: SpanLaws, AsciiLaws, Utf8Laws, EncodeLaws.
pub mod Pick
pub mod Span
pub mod Utf8
pub mod White
pub mod Encode
pub mod Told
pub mod SpanLaws
pub mod AsciiLaws
pub mod Utf8Laws
pub mod EncodeLaws
