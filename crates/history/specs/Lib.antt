-- What the meter is bought for: demand 3, and the words that it is said in.
pub mod Survival
pub mod Account
pub mod Demand
