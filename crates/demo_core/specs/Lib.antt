-- Promises, which public contracts cite: all but `Draws`.
-- Rules, which the promises rest on: `Draws`.
pub mod Draws
pub mod History
pub mod Secrets
pub mod Certificates
pub mod Builders
pub mod Issuing
pub mod Acceptance
pub mod Demonstration
pub mod Words
pub mod Run
