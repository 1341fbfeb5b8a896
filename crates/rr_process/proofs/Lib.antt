pub mod RecordLemmas
pub mod PointLemmas
pub mod ReportLemmas
pub mod StreamLemmas
