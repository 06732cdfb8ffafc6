pub mod CountLimbs
