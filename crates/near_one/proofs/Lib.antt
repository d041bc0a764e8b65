pub mod NearCalls
