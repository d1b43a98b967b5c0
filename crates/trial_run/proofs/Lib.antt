mod TrialSteps
mod TrialEnds
mod TrialNames
