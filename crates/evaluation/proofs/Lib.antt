mod FirstOnes
mod Weights
