pub mod PolicyRefusals
pub mod LayerAnswers
