pub mod OperationLaws
pub mod TextLaws
pub mod UnitLaws
pub mod UnitListLaws
pub mod CallerLaws
pub mod EventLaws
pub mod ExcludeLaws
pub mod MeaningLaws
