-- The pieces of a printout. Believe `Text`: numbers in decimal, words, lines; and `Put`: what a step leaves. `Promises`: decimal a second time.
pub mod Text
pub mod Put
pub mod Promises
