-- Document 01 as definitions. docs/RULES.md leads from each of its rules to the definition that says it.
pub mod Numbers
pub mod Lent
pub mod Wide
pub mod Answer
pub mod Merge
pub mod Walk
pub mod Write
pub mod Plan
pub mod Tokens
pub mod Refusal
pub mod Refused
pub mod Step
pub mod Contract
pub mod Rules
