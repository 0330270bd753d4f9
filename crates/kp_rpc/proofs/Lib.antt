pub mod Asked
pub mod CompactRead
pub mod Floats
pub mod HeadingsRead
pub mod IdsRead
pub mod OptionsRead
pub mod ParamsRead
pub mod QuestionBack
pub mod QuestionText
pub mod QuestionsRead
pub mod ReadBack
mod Texts
mod TextsWritten
