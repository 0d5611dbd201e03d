pub mod CertificateLaws
pub mod ExceptionLaws
pub mod HeaderLaws
pub mod NumberLaws
pub mod WritingLaws
pub mod WrittenExceptions
