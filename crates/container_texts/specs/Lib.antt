pub mod FaultText
pub mod Printing
pub mod ReportText
pub mod Statuses
pub mod Texts
pub mod UnitReports
pub mod Words
