-- The code's struct of six points, as the definitions have them.
pub mod Named
