mod Dates
mod Lines
mod Records
mod Registers
mod Walking
mod AboveCertificates
mod Children
mod Builders
mod Usability
mod Kept
mod Yielding
mod Deciding
mod RecordSteps
mod Issued
mod Verdicts
mod LineSubjects
mod LineBuilders
mod TbsParts
mod TbsSizes
mod LineBuilds
mod FirstRefusals
mod Fillings
mod UsableCerts
mod Answered
pub mod Cuts
pub mod Numbers
pub mod Spelling
pub mod Texts
