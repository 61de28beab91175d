mod NumberedCoefficients
mod AppliedFields
mod AloneSizes
mod CheckSteps
mod ActionLimits
