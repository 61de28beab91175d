mod AlgebraSteps
mod AnalysisSteps
mod WorkSteps
mod Dues
mod OneAnalysis
mod ToldSymmetries
