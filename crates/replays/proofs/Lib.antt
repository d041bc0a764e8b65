-- Why a replayed journal gives the same.
pub mod CourseLaws
pub mod WrittenLaws
pub mod ReplayLaws
pub mod Unwinding
pub mod Theorem
