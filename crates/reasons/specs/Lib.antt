-- When each reason is filed.
pub mod Reasons
pub mod Claim
