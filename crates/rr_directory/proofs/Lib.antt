pub mod NameLemmas
pub mod StartLemmas
pub mod ReadingLemmas
pub mod RaisingLemmas
pub mod NamedOriginLemmas
pub mod SurveyLemmas
