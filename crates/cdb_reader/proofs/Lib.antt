mod PlanExamples
mod ReadExamples
