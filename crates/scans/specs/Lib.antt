-- The laws of a scan's reports.
pub mod Reports
