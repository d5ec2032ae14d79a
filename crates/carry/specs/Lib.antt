-- What a running 32-bit state becomes on the clock of 64 bits.
pub mod Carry
pub mod Held
