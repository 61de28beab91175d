mod CombinationTexts
mod FieldTexts
mod ReportTexts
mod Told
mod Reported
mod LastPlaces
mod LowPolynomials
mod DraftLines
