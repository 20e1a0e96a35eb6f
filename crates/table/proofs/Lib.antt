pub mod Protection
pub mod Accept
pub mod Refuse
pub mod Carried
pub mod Total
pub mod OwnStep
pub mod Early
pub mod Accepted
