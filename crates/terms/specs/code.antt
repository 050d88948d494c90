-- What only code needs: a reader of the paper leaves it out.
pub mod Ticks
