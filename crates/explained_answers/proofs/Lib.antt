mod KeptRefutes
mod ExplainTexts
mod CaseReports
