pub mod ShownLaws
pub mod ExactLaws
pub mod ParamsLaws
pub mod ShortLaws
pub mod AnswerLaws
pub mod PrintingLaws
pub mod PublicationLaws
