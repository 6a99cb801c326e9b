-- The laws of reports.
pub mod Reports
