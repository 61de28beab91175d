pub mod DerivativeLists
pub mod FormBounds
pub mod FormCauses
pub mod FormParts
pub mod FormTotalBounds
pub mod FormSteps
pub mod AbsentDerivatives
pub mod FormKept
