pub mod RowLaws
pub mod Quorum
pub mod HeaderLaws
pub mod Mails
