mod GroupLaws
mod SubjectLaws
mod SearchLaws
